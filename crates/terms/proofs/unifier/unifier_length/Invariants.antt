-- `unifier_length` adds up the pairs.
use Rattle.terms.specs.Unifier.GivesLaws.{Sizing}
use Prim.Native.Nat.{◌-◌}
use Rattle.terms.proofs.unifier.unifier_length.Given as goal

abbrev pub invariant-loop-i : goal.invariant-loop-i
invariant-loop-i l = Sizing l.classes.table.now l.classes.rep.now l.w l.lo

abbrev pub decreases-loop-i : goal.decreases-loop-i
decreases-loop-i l = 65536 - l.lo
