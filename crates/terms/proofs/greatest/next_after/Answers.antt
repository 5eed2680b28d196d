-- `next_after` is one more than the variable, if there is one.
use native.Mathlib.Omega.{arith}
use Rattle.terms.proofs.greatest.next_after.Goals as goal

pub overflow_add-result : goal.overflow_add-result
overflow_add-result c = let h = rw c.in-Some.is at c.requires in omega (arith, h)

pub returns-in-Some : goal.returns-in-Some
returns-in-Some c = rw c.in-Some.is (omega arith)
