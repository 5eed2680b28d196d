use Prim.Native.Nat.{◌-◌}
use Rattle.records.specs.Ends.ItemEnds.{items_end}
use mathlib.Core.Path.{◌≡◌}
use Rattle.records.proofs.ends.items_end.Given as goal

abbrev pub invariant-loop : goal.invariant-loop
invariant-loop l = items_end l.item l.n l.s l.at ≡ items_end l.item (l.n - l.counter) l.s l.pos
