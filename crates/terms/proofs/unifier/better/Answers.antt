-- `better` chooses one of two nodes.
use Rattle.terms.specs.Unifier.LeastLaws.{tested_bound, tested_free, chosen_skip, chosen_first, chosen_new}
use borrow.Author.Tests.{not-true, not-false}
use Rattle.std.proofs.Common.{arith, ap, not}
use Rattle.terms.proofs.unifier.better.Goals as goal

pub returns-then-classes-i : goal.returns-then-classes-i
returns-then-classes-i c = chosen_skip _ _ _ _ _ (λ b h. omega (arith, c.if-classes-i.true))

pub returns-then-not-is_bound : goal.returns-then-not-is_bound
returns-then-not-is_bound c = chosen_skip _ _ _ _ _ (λ b h. tested_free _ _ _ c.is_bound.ensures (not-true _ (ap not c.if-not-is_bound.true)) b)

pub returns-in_default : goal.returns-in_default
returns-in_default c =
    rw c.in-Some.is
    (chosen_new _ _ _ _ c.requires.i_in_bounds (tested_bound _ _ _ c.is_bound.ensures (not-false _ (ap not c.if-not-is_bound.false))) c.if-classes-i.false _ (omega (arith, c.if-classes-k.false)))

pub returns-in_default-2 : goal.returns-in_default-2
returns-in_default-2 c =
    rw c.in_default.is
    (chosen_first _ _ _ _ c.requires.i_in_bounds (tested_bound _ _ _ c.is_bound.ensures (not-false _ (ap not c.if-not-is_bound.false))) c.if-classes-i.false)
