-- `measure_program`: the groups before i are measured, and the entries from i on are left.
use Rattle.std.specs.Prelude.{◌≡◌, ℕ, drop}
use Rattle.canonical.specs.Sorting.Remaining.{program_of}
use Rattle.canonical.specs.Writing.ProgramLaws.{Surveying}
use Rattle.canonical.proofs.program.measure_program.Given as goal

abbrev pub invariant-loop-group : goal.invariant-loop-group
invariant-loop-group l = (i : ℕ) × (l.group-iterator.rest.now ≡ drop i l.sorted) × Surveying l.s l.sorted (program_of l.s) l.count l.size i
