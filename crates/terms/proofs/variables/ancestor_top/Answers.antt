-- `ancestor_top` walks over what an ancestor's head announces.
use Rattle.std.specs.Prelude.{Some}
use Rattle.std.proofs.Common.{⊎_elim}
use mathlib.Core.Path.{ap, ◌∙◌}
use Rattle.records.specs.declared.heads.AncestorHead.TheVariants.{Called, InConj, InDisj}
use Rattle.records.specs.Ends.HeadRoomLaws.{ancestor_room}
use Rattle.terms.specs.Body.TopLaws.{ancestor_on, ancestor_tops, ancestor_never}
use native.Mathlib.Omega.{arith}
use Rattle.terms.proofs.variables.ancestor_top.Goals as goal

pub returns-in_default : goal.returns-in_default
returns-in_default c = λ a. ancestor_never a c.ancestor_head.ensures c.in_default.is

pub overflow_add-at : goal.overflow_add-at
overflow_add-at c = omega (arith, (ancestor_room _ _ c.type_inv.event c.ancestor_head.ensures (Some (Called _ _)) (c.in-Some.is ∙ ap Some c.in-Called.is)).0)

pub variables_top-requires : goal.variables_top-requires
variables_top-requires c = ancestor_on c.requires c.ancestor_head.ensures (Some (Called _ _)) (c.in-Some.is ∙ ap Some c.in-Called.is)

pub overflow_add-at-in-InConj : goal.overflow_add-at-in-InConj
overflow_add-at-in-InConj c = ⊎_elim
    (λ h. omega (arith, (ancestor_room _ _ c.type_inv.event c.ancestor_head.ensures (Some (InConj h.0)) (c.in-Some.is ∙ ap Some h.1)).0))
    (λ h. omega (arith, (ancestor_room _ _ c.type_inv.event c.ancestor_head.ensures (Some (InDisj h.0)) (c.in-Some.is ∙ ap Some h.1)).0)) c.in-InConj.is

pub variables_top-requires-in-InConj : goal.variables_top-requires-in-InConj
variables_top-requires-in-InConj c = ⊎_elim (λ h. ancestor_on c.requires c.ancestor_head.ensures (Some (InConj h.0)) (c.in-Some.is ∙ ap Some h.1))
    (λ h. ancestor_on c.requires c.ancestor_head.ensures (Some (InDisj h.0)) (c.in-Some.is ∙ ap Some h.1)) c.in-InConj.is

pub returns-in-Called : goal.returns-in-Called
returns-in-Called c = λ a. ancestor_tops a c.ancestor_head.ensures (Some (Called _ _)) (c.in-Some.is ∙ ap Some c.in-Called.is) c.variables_top.ensures

pub returns-in-InConj : goal.returns-in-InConj
returns-in-InConj c = λ a. ⊎_elim (λ h. ancestor_tops a c.ancestor_head.ensures (Some (InConj h.0)) (c.in-Some.is ∙ ap Some h.1) c.variables_top-in-InConj.ensures)
    (λ h. ancestor_tops a c.ancestor_head.ensures (Some (InDisj h.0)) (c.in-Some.is ∙ ap Some h.1) c.variables_top-in-InConj.ensures) c.in-InConj.is
