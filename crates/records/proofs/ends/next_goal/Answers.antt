use Rattle.std.specs.Prelude.{Some, None}
use Rattle.std.proofs.Common.{⊎_elim}
use mathlib.Core.Path.{ap, ◌∙◌}
use native.Mathlib.Omega.{arith}
use Rattle.records.specs.declared.heads.GoalHead.TheVariants.{Truth, Failure, Equal, Conj, Disj, Atom}
use Rattle.records.specs.Ends.EndLaws.{announced, next_arm}
use Rattle.records.specs.Ends.HeadRoomLaws.{goal_room}
use Rattle.records.proofs.ends.next_goal.Goals as goal

pub returns-in_err-goal_head : goal.returns-in_err-goal_head
returns-in_err-goal_head c = c.from_residual.ensures ∙ next_arm _ _ c.type_inv.s c.goal_head.ensures None c.in_err-goal_head.was

pub overflow_add-at : goal.overflow_add-at
overflow_add-at c = ⊎_elim (λ h. omega (arith, goal_room _ _ c.type_inv.s c.goal_head.ensures (Some Truth) (c.in_ok-goal_head.was ∙ ap Some h))) (λ h. omega (arith, goal_room _ _ c.type_inv.s c.goal_head.ensures (Some Failure) (c.in_ok-goal_head.was ∙ ap Some h))) c.in-Truth.is

pub overflow_add-at-in-Equal : goal.overflow_add-at-in-Equal
overflow_add-at-in-Equal c = omega (arith, goal_room _ _ c.type_inv.s c.goal_head.ensures (Some Equal) (c.in_ok-goal_head.was ∙ ap Some c.in-Equal.is))

pub overflow_add-result : goal.overflow_add-result
overflow_add-result c = ⊎_elim (λ h. omega (arith, goal_room _ _ c.type_inv.s c.goal_head.ensures (Some Conj) (c.in_ok-goal_head.was ∙ ap Some h))) (λ h. omega (arith, goal_room _ _ c.type_inv.s c.goal_head.ensures (Some Disj) (c.in_ok-goal_head.was ∙ ap Some h))) c.in-Conj.is

pub overflow_add-at-in-Atom : goal.overflow_add-at-in-Atom
overflow_add-at-in-Atom c = omega (arith, goal_room _ _ c.type_inv.s c.goal_head.ensures (Some (Atom _ _)) (c.in_ok-goal_head.was ∙ ap Some c.in-Atom.is))

pub returns-in-Conj : goal.returns-in-Conj
returns-in-Conj c = ⊎_elim (λ h. next_arm _ _ c.type_inv.s c.goal_head.ensures (Some Conj) (c.in_ok-goal_head.was ∙ ap Some h)) (λ h. next_arm _ _ c.type_inv.s c.goal_head.ensures (Some Disj) (c.in_ok-goal_head.was ∙ ap Some h)) c.in-Conj.is

pub returns-in-Truth : goal.returns-in-Truth
returns-in-Truth c = c.announced.ensures ∙ ⊎_elim (λ h. next_arm _ _ c.type_inv.s c.goal_head.ensures (Some Truth) (c.in_ok-goal_head.was ∙ ap Some h)) (λ h. next_arm _ _ c.type_inv.s c.goal_head.ensures (Some Failure) (c.in_ok-goal_head.was ∙ ap Some h)) c.in-Truth.is

pub returns-in-Equal : goal.returns-in-Equal
returns-in-Equal c = c.announced-in-Equal.ensures ∙ ap announced c.args_end.ensures ∙ next_arm _ _ c.type_inv.s c.goal_head.ensures (Some Equal) (c.in_ok-goal_head.was ∙ ap Some c.in-Equal.is)

pub returns-in-Atom : goal.returns-in-Atom
returns-in-Atom c = c.announced-in-Atom.ensures ∙ ap announced c.args_end-in-Atom.ensures ∙ next_arm _ _ c.type_inv.s c.goal_head.ensures (Some (Atom _ _)) (c.in_ok-goal_head.was ∙ ap Some c.in-Atom.is)
