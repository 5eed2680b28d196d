-- `defines` compares predicate and arity.
use borrow.Author.Tests.{eq-eqb, ne_eqb}
use Rattle.terms.proofs.definitions.defines.Goals as goal

pub returns-then-p-d : goal.returns-then-p-d
returns-then-p-d c = simp (eq-eqb _ _ c.if-p-d.true)

pub returns-else-p-d : goal.returns-else-p-d
returns-else-p-d c = simp (ne_eqb _ _ c.if-p-d.false)
