-- `separate` gives each node the first of its variable.
use Rattle.terms.specs.Classes.ClassState.{Firsts}
use Rattle.terms.proofs.classes.separate.Given as goal

abbrev pub invariant-loop-i : goal.invariant-loop-i
invariant-loop-i l = Firsts l.table l.rep l.i
