-- `behind` goes over the children of a node.
use Rattle.terms.specs.Classes.LinkLaws.{Passes}
use Rattle.terms.proofs.load.behind.Given as goal

abbrev pub invariant-loop : goal.invariant-loop
invariant-loop l = Passes l.table l.i l.p l.counter l.arity
