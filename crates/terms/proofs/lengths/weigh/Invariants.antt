-- `weigh` adds up the lengths of the children's classes.
use Prim.Native.Nat.{◌-◌}
use Rattle.terms.specs.Classes.WeighLaws.{Weighing}
use Rattle.terms.proofs.lengths.weigh.Given as goal

abbrev pub invariant-loop-p : goal.invariant-loop-p
invariant-loop-p l = Weighing l.table l.rep l.size l.r l.p l.w

abbrev pub decreases-loop-p : goal.decreases-loop-p
decreases-loop-p l = l.end - l.p
