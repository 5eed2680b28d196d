-- `pick_rising`: what is kept stands in front, and the numbers from the i-th on are left.
use Rattle.std.specs.Prelude.{length}
use Rattle.canonical.specs.Sorting.Picking.{picked}
use Rattle.canonical.specs.Sorting.PickingLaws.{Keeping}
use Rattle.canonical.proofs.order.pick_rising.Given as goal

abbrev pub invariant-loop-i : goal.invariant-loop-i
invariant-loop-i l = Keeping (picked (length l.initial.sorted) 0 l.initial.sorted) l.sorted l.low l.kept l.i
