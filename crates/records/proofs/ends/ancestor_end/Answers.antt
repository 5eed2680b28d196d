use Rattle.std.specs.Prelude.{Some, None}
use Rattle.std.proofs.Common.{⊎_elim}
use mathlib.Core.Path.{ap, ◌∙◌}
use native.Mathlib.Omega.{arith}
use Rattle.records.specs.declared.heads.AncestorHead.TheVariants.{Called, InConj, InDisj}
use Rattle.records.specs.Ends.ItemEndsLaws.{ancestor_ends}
use Rattle.records.specs.Ends.HeadRoomLaws.{ancestor_room}
use Rattle.records.proofs.ends.ancestor_end.Goals as goal

pub returns-in_err-k : goal.returns-in_err-k
returns-in_err-k c = c.from_residual.ensures ∙ ancestor_ends _ _ c.ancestor_head.ensures None c.in_err-k.was

pub overflow_add-at : goal.overflow_add-at
overflow_add-at c = omega (arith, (ancestor_room _ _ c.type_inv.s c.ancestor_head.ensures (Some (Called _ _)) (c.in_ok-k.was ∙ ap Some c.in-Called.is)).0)

pub overflow_add-at-in-InConj : goal.overflow_add-at-in-InConj
overflow_add-at-in-InConj c = ⊎_elim (λ h. omega (arith, (ancestor_room _ _ c.type_inv.s c.ancestor_head.ensures (Some (InConj h.0)) (c.in_ok-k.was ∙ ap Some h.1)).0)) (λ h. omega (arith, (ancestor_room _ _ c.type_inv.s c.ancestor_head.ensures (Some (InDisj h.0)) (c.in_ok-k.was ∙ ap Some h.1)).0)) c.in-InConj.is

pub returns-in-Called : goal.returns-in-Called
returns-in-Called c = c.args_end.ensures ∙ ancestor_ends _ _ c.ancestor_head.ensures (Some (Called _ _)) (c.in_ok-k.was ∙ ap Some c.in-Called.is)

pub returns-in-InConj : goal.returns-in-InConj
returns-in-InConj c = c.goals_end.ensures ∙ ⊎_elim (λ h. ancestor_ends _ _ c.ancestor_head.ensures (Some (InConj h.0)) (c.in_ok-k.was ∙ ap Some h.1)) (λ h. ancestor_ends _ _ c.ancestor_head.ensures (Some (InDisj h.0)) (c.in_ok-k.was ∙ ap Some h.1)) c.in-InConj.is
