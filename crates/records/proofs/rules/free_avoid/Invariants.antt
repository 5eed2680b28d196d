use Prim.Native.Nat.{◌-◌}
use Rattle.records.proofs.RuleArms.{unmarked}
use Rattle.records.specs.Gate.Rows.{Ends, row_at}
use Rattle.records.specs.Ends.Traversal.{end_of}
use Rattle.records.specs.Format.Items.{many, read_binding}
use Rattle.records.specs.Gate.RecordRules.{free}
use mathlib.Core.Path.{◌≡◌}
use Rattle.records.proofs.rules.free_avoid.Given as goal

abbrev pub invariant-loop : goal.invariant-loop
invariant-loop l = (unmarked l.marks.words (free (row_at read_binding l.n l.s l.at)) ≡ unmarked l.marks.words (free (row_at read_binding (l.n - l.counter) l.s l.pos))) × Ends (end_of (many read_binding (l.n - l.counter)) l.s l.pos)
