-- `put_pairs` writes the pairs in order.
use Rattle.terms.specs.Unifier.GivesLaws.{PairsWriting}
use Prim.Native.Nat.{◌-◌}
use Rattle.terms.proofs.unifier.put_pairs.Given as goal

abbrev pub invariant-loop-i : goal.invariant-loop-i
invariant-loop-i l = PairsWriting l.classes.table.now l.classes.rep.now l.initial.out l.at l.out l.end l.count l.lo

abbrev pub decreases-loop-i : goal.decreases-loop-i
decreases-loop-i l = 65536 - l.lo
