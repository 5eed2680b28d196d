-- `locals_beyond` is question 9.
use borrow.Author.Tests.{lt-ltb, le-ltb}
use Rattle.terms.proofs.body.locals_beyond.Goals as goal

pub returns-then-locals-gt0 : goal.returns-then-locals-gt0
returns-then-locals-gt0 c = simp (lt-ltb _ _ c.if-locals-gt0.true)

pub returns-else-locals-gt0 : goal.returns-else-locals-gt0
returns-else-locals-gt0 c = simp (le-ltb _ _ c.if-locals-gt0.false)
