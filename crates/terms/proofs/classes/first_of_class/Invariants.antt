-- `first_of_class` finds the first node of a class.
use Rattle.terms.specs.Classes.ClassState.{NoneBelow}
use Rattle.terms.proofs.classes.first_of_class.Given as goal

abbrev pub invariant-loop-i : goal.invariant-loop-i
invariant-loop-i l = NoneBelow l.rep l.b l.i
