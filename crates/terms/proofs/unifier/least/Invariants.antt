-- `least` finds the least bound variable.
use Rattle.terms.specs.Unifier.UnifierAnswer.{Least}
use Rattle.terms.proofs.unifier.least.Given as goal

abbrev pub invariant-loop-i : goal.invariant-loop-i
invariant-loop-i l = Least l.classes.table.now l.classes.rep.now l.lo l.i l.best
