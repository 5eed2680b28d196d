-- `is_bound` tests a node.
use Rattle.terms.specs.Unifier.LeastLaws.{tested_symbol, tested_term, tested_variable}
use Rattle.terms.proofs.unifier.is_bound.Goals as goal

pub returns-in-Symbol-default : goal.returns-in-Symbol-default
returns-in-Symbol-default c = tested_symbol _ _ _ (_, c.in-Symbol-default.is-0)

pub returns-in-Variable-Symbol : goal.returns-in-Variable-Symbol
returns-in-Variable-Symbol c = tested_term _ _ _ c.in-Variable-Symbol.is-0 (_, c.in-Variable-Symbol.is-1)

pub returns-in-Variable-Variable : goal.returns-in-Variable-Variable
returns-in-Variable-Variable c = tested_variable _ _ _ c.in-Variable-Variable.is-0 c.in-Variable-Variable.is-1
