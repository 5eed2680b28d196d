use Prim.Native.Nat.{◌-◌}
use Rattle.records.specs.Gate.Rows.{Ends, row_at}
use Rattle.records.specs.Ends.Traversal.{end_of}
use Rattle.records.specs.Gate.Sets.{all_marked}
use Rattle.records.specs.Format.Items.{many, read_binding}
use Rattle.records.specs.Gate.RecordRules.{bound}
use mathlib.Core.Path.{◌≡◌}
use Rattle.records.proofs.rules.mark_bound.Given as goal

abbrev pub invariant-loop : goal.invariant-loop
invariant-loop l = Ends (end_of (many read_binding (l.n - l.counter)) l.s l.pos) × (all_marked l.initial.marks.words (bound (row_at read_binding l.n l.s l.at)) ≡ all_marked l.marks.words (bound (row_at read_binding (l.n - l.counter) l.s l.pos)))
