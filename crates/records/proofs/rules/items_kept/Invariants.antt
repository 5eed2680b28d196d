use Prim.Native.Nat.{◌-◌}
use Rattle.records.specs.Gate.Rows.{items_kept, Ends}
use Rattle.records.specs.Ends.ItemEnds.{items_end}
use mathlib.Core.Path.{◌≡◌}
use Rattle.records.proofs.rules.items_kept.Given as goal

abbrev pub invariant-loop : goal.invariant-loop
invariant-loop l = (items_kept l.item l.n l.s l.at ≡ items_kept l.item (l.n - l.counter) l.s l.pos) × Ends (items_end l.item (l.n - l.counter) l.s l.pos)
