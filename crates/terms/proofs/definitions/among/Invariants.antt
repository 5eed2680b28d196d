-- `among`: none of the definitions passed is the one looked for.
use Rattle.terms.specs.Body.DefinitionLaws.{Searched}
use Rattle.terms.proofs.definitions.among.Given as goal

abbrev pub invariant-loop-i : goal.invariant-loop-i
invariant-loop-i l = Searched l.program l.n l.p l.k l.at l.i
