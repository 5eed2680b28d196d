use mathlib.Core.Path.{refl, sym, ◌∙◌}
use native.Mathlib.Omega.{arith}
use Rattle.records.proofs.EndSteps.{no_goals}
use Rattle.records.specs.Ends.EndLaws.{next_bound, next_on, next_off}
use Rattle.records.proofs.ends.goals_end.Goals as goal

pub loop-left-init : goal.loop-left-init
loop-left-init c = (refl, omega arith, omega arith)

pub returns-in_err-next : goal.returns-in_err-next
returns-in_err-next c = c.from_residual.ensures ∙ sym (c.loop-left.invariant.0 ∙ next_off _ _ c.type_inv.s _ c.next_goal.ensures c.in_err-next.was c.loop-left-test.true)

pub overflow_add-left : goal.overflow_add-left
overflow_add-left c = omega (arith, next_bound _ _ c.type_inv.s c.next_goal.ensures c.in_ok-next.was)

pub loop-left-smaller : goal.loop-left-smaller
loop-left-smaller c = omega (arith, next_bound _ _ c.type_inv.s c.next_goal.ensures c.in_ok-next.was)

pub loop-left-preserved : goal.loop-left-preserved
loop-left-preserved c = let f = next_bound _ _ c.type_inv.s c.next_goal.ensures c.in_ok-next.was in
    (c.loop-left.invariant.0 ∙ next_on _ _ c.type_inv.s _ c.next_goal.ensures c.in_ok-next.was c.loop-left-test.true, omega arith, omega arith)

pub returns : goal.returns
returns c = sym (c.loop-left.invariant.0 ∙ no_goals _ _ _ (omega arith))
