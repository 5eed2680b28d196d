use Rattle.std.specs.Prelude.{Some, None}
use Rattle.std.proofs.Common.{⊎_elim}
use mathlib.Core.Path.{ap, ◌∙◌}
use native.Mathlib.Omega.{arith}
use Rattle.records.specs.declared.heads.GoalHead.TheVariants.{Truth, Failure, Equal, Conj, Disj, Atom}
use Rattle.records.proofs.TraversalArms.{goal_arm}
use Rattle.records.specs.Ends.StepsLaws.{on_bound}
use Rattle.records.specs.Ends.HeadRoomLaws.{goal_room}
use Rattle.records.proofs.traverse.next_goal.Goals as goal

pub returns-in_err-goal_head : goal.returns-in_err-goal_head
returns-in_err-goal_head c = c.from_residual.ensures ∙ goal_arm _ _ _ c.requires.goals_nonzero c.goal_head.ensures None c.in_err-goal_head.was

pub after_goal-requires : goal.after_goal-requires
after_goal-requires c = ⊎_elim (λ h. let r = goal_room _ _ c.type_inv.s c.goal_head.ensures (Some Truth) (c.in_ok-goal_head.was ∙ ap Some h) in let b = on_bound _ c.type_inv.s _ _ _ c.requires.on in omega arith) (λ h. let r = goal_room _ _ c.type_inv.s c.goal_head.ensures (Some Failure) (c.in_ok-goal_head.was ∙ ap Some h) in let b = on_bound _ c.type_inv.s _ _ _ c.requires.on in omega arith) c.in-Truth.is

pub after_goal-requires-in-Equal : goal.after_goal-requires-in-Equal
after_goal-requires-in-Equal c = let r = goal_room _ _ c.type_inv.s c.goal_head.ensures (Some Equal) (c.in_ok-goal_head.was ∙ ap Some c.in-Equal.is) in let b = on_bound _ c.type_inv.s _ _ _ c.requires.on in omega arith

pub after_goal-requires-in-Conj : goal.after_goal-requires-in-Conj
after_goal-requires-in-Conj c = ⊎_elim (λ h. let r = goal_room _ _ c.type_inv.s c.goal_head.ensures (Some Conj) (c.in_ok-goal_head.was ∙ ap Some h) in let b = on_bound _ c.type_inv.s _ _ _ c.requires.on in omega arith) (λ h. let r = goal_room _ _ c.type_inv.s c.goal_head.ensures (Some Disj) (c.in_ok-goal_head.was ∙ ap Some h) in let b = on_bound _ c.type_inv.s _ _ _ c.requires.on in omega arith) c.in-Conj.is

pub after_goal-requires-in-Atom : goal.after_goal-requires-in-Atom
after_goal-requires-in-Atom c = let r = goal_room _ _ c.type_inv.s c.goal_head.ensures (Some (Atom _ _)) (c.in_ok-goal_head.was ∙ ap Some c.in-Atom.is) in let b = on_bound _ c.type_inv.s _ _ _ c.requires.on in omega arith

pub returns-in-Truth : goal.returns-in-Truth
returns-in-Truth c = c.after_goal.ensures ∙ ⊎_elim (λ h. goal_arm _ _ _ c.requires.goals_nonzero c.goal_head.ensures (Some Truth) (c.in_ok-goal_head.was ∙ ap Some h)) (λ h. goal_arm _ _ _ c.requires.goals_nonzero c.goal_head.ensures (Some Failure) (c.in_ok-goal_head.was ∙ ap Some h)) c.in-Truth.is

pub returns-in-Equal : goal.returns-in-Equal
returns-in-Equal c = c.after_goal-in-Equal.ensures ∙ goal_arm _ _ _ c.requires.goals_nonzero c.goal_head.ensures (Some Equal) (c.in_ok-goal_head.was ∙ ap Some c.in-Equal.is)

pub returns-in-Conj : goal.returns-in-Conj
returns-in-Conj c = c.after_goal-in-Conj.ensures ∙ ⊎_elim (λ h. goal_arm _ _ _ c.requires.goals_nonzero c.goal_head.ensures (Some Conj) (c.in_ok-goal_head.was ∙ ap Some h)) (λ h. goal_arm _ _ _ c.requires.goals_nonzero c.goal_head.ensures (Some Disj) (c.in_ok-goal_head.was ∙ ap Some h)) c.in-Conj.is

pub returns-in-Atom : goal.returns-in-Atom
returns-in-Atom c = c.after_goal-in-Atom.ensures ∙ goal_arm _ _ _ c.requires.goals_nonzero c.goal_head.ensures (Some (Atom _ _)) (c.in_ok-goal_head.was ∙ ap Some c.in-Atom.is)
