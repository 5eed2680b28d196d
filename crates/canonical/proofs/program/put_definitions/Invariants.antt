-- `put_definitions`: the definitions of the groups before i are written, and the entries from i on are left.
use Rattle.std.specs.Prelude.{◌≡◌, ℕ, drop}
use Rattle.records.specs.Format.Encode.{each, definition_bytes}
use Rattle.canonical.specs.Sorting.Remaining.{program_of}
use Rattle.canonical.specs.Writing.ProgramLaws.{Defining}
use Rattle.canonical.proofs.program.put_definitions.Given as goal

abbrev pub invariant-loop-group : goal.invariant-loop-group
invariant-loop-group l = (i : ℕ) × (l.group-iterator.rest.now ≡ drop i l.sorted) × Defining l.s l.sorted (each definition_bytes (program_of l.s)) l.initial.out l.first l.out l.at i
