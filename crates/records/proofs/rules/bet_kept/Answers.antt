use Rattle.std.specs.Prelude.{Some, None}
use Rattle.std.proofs.Common.{⊎_elim}
use mathlib.Core.Path.{sym, ap, ◌∙◌}
use native.Mathlib.Omega.{arith}
use Rattle.records.specs.declared.heads.BetHead.TheVariants.{Unifier, Or, By}
use Rattle.records.proofs.RuleArms.{or_other, by_other, none_other}
use Rattle.records.specs.Gate.KeptLaws.{unifier_through, unifier_kept, other_kept}
use Rattle.records.specs.Ends.HeadRoomLaws.{bet_room}
use Rattle.records.proofs.rules.bet_kept.Goals as goal

pub overflow_add-at : goal.overflow_add-at
overflow_add-at c = omega (arith, bet_room _ _ c.type_inv.s c.bet_head.ensures (Some (Unifier _)) (c.in-Some.is ∙ ap Some c.in-Unifier.is))

pub unifier_kept-requires : goal.unifier_kept-requires
unifier_kept-requires c = unifier_through _ _ c.bet_head.ensures (c.in-Some.is ∙ ap Some c.in-Unifier.is) c.requires

pub returns-in-Unifier : goal.returns-in-Unifier
returns-in-Unifier c = c.unifier_kept.ensures ∙ sym (unifier_kept _ _ c.bet_head.ensures (c.in-Some.is ∙ ap Some c.in-Unifier.is))

pub returns-in-Or : goal.returns-in-Or
returns-in-Or c = ⊎_elim (λ h. sym (other_kept _ _ c.bet_head.ensures (Some (Or h.0)) (c.in-Some.is ∙ ap Some h.1) or_other)) (λ h. sym (other_kept _ _ c.bet_head.ensures (Some By) (c.in-Some.is ∙ ap Some h) by_other)) c.in-Or.is

pub returns-in_default : goal.returns-in_default
returns-in_default c = sym (other_kept _ _ c.bet_head.ensures None c.in_default.is none_other)
