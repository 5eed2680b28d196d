-- `preferred` prefers a symbol, and of variables the lower.
use Rattle.terms.specs.Classes.CloseLaws.{preferred_left, preferred_right, preferred_lower}
use Rattle.terms.proofs.classes.preferred.Goals as goal

pub returns-in-Symbol-default : goal.returns-in-Symbol-default
returns-in-Symbol-default c = preferred_left _ _ _ (_, c.in-Symbol-default.is-0)

pub returns-in-Variable-Symbol : goal.returns-in-Variable-Symbol
returns-in-Variable-Symbol c = preferred_right _ _ _ (_, c.in-Variable-Symbol.is-1)

pub returns-in-Variable-Variable : goal.returns-in-Variable-Variable
returns-in-Variable-Variable c = preferred_lower _ _ _ c.in-Variable-Variable.is-0 c.in-Variable-Variable.is-1
