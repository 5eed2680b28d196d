use Rattle.std.specs.Prelude.{Some, None}
use Rattle.records.specs.declared.heads.GoalHead.TheVariants.{Truth, Failure, Equal, Conj, Disj, Atom}
use Rattle.std.proofs.Common.{⊎_elim}
use mathlib.Core.Path.{refl, ap, ◌∙◌}
use Rattle.records.proofs.HeadBytes.{ancestor_arm}
use Rattle.records.proofs.heads.ancestor_head.Goals as goal

pub returns-in_default : goal.returns-in_default
returns-in_default c = c.half_head.ensures ∙ ancestor_arm _ _ c.goal_head.ensures refl None c.in_default.is

pub returns-in-Atom : goal.returns-in-Atom
returns-in-Atom c = ancestor_arm _ _ c.goal_head.ensures refl (Some (Atom _ _)) (c.in-Some.is ∙ ap Some c.in-Atom.is)

pub returns-in-Truth : goal.returns-in-Truth
returns-in-Truth c = c.half_head-in-Truth.ensures ∙ ⊎_elim (λ h. ancestor_arm _ _ c.goal_head.ensures refl (Some Truth) (c.in-Some.is ∙ ap Some h)) (⊎_elim (λ h. ancestor_arm _ _ c.goal_head.ensures refl (Some Failure) (c.in-Some.is ∙ ap Some h)) (⊎_elim (λ h. ancestor_arm _ _ c.goal_head.ensures refl (Some Equal) (c.in-Some.is ∙ ap Some h)) (⊎_elim (λ h. ancestor_arm _ _ c.goal_head.ensures refl (Some Conj) (c.in-Some.is ∙ ap Some h)) (λ h. ancestor_arm _ _ c.goal_head.ensures refl (Some Disj) (c.in-Some.is ∙ ap Some h))))) c.in-Truth.is
