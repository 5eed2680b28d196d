use Rattle.std.specs.Prelude.{Some, None}
use mathlib.Core.Path.{ap, ◌∙◌}
use native.Mathlib.Omega.{arith}
use Rattle.records.specs.declared.heads.BetHead.TheVariants.{Unifier, Or, By}
use Rattle.records.specs.Ends.ItemEndsLaws.{bet_ends}
use Rattle.records.specs.Ends.HeadRoomLaws.{bet_room}
use Rattle.records.proofs.ends.bet_end.Goals as goal

pub returns-in_err-n : goal.returns-in_err-n
returns-in_err-n c = c.from_residual.ensures ∙ bet_ends _ _ c.bet_head.ensures None c.in_err-n.was

pub overflow_add-at : goal.overflow_add-at
overflow_add-at c = omega (arith, bet_room _ _ c.type_inv.s c.bet_head.ensures (Some (Unifier _)) (c.in_ok-n.was ∙ ap Some c.in-Unifier.is))

pub overflow_add-result : goal.overflow_add-result
overflow_add-result c = omega (arith, (bet_room _ _ c.type_inv.s c.bet_head.ensures (Some (Or _)) (c.in_ok-n.was ∙ ap Some c.in-Or.is)).0)

pub overflow_add-at-in-By : goal.overflow_add-at-in-By
overflow_add-at-in-By c = omega (arith, bet_room _ _ c.type_inv.s c.bet_head.ensures (Some By) (c.in_ok-n.was ∙ ap Some c.in-By.is))

pub returns-in-Unifier : goal.returns-in-Unifier
returns-in-Unifier c = c.bindings_end.ensures ∙ bet_ends _ _ c.bet_head.ensures (Some (Unifier _)) (c.in_ok-n.was ∙ ap Some c.in-Unifier.is)

pub returns-in-Or : goal.returns-in-Or
returns-in-Or c = bet_ends _ _ c.bet_head.ensures (Some (Or _)) (c.in_ok-n.was ∙ ap Some c.in-Or.is)

pub returns-in-By : goal.returns-in-By
returns-in-By c = c.goals_end.ensures ∙ bet_ends _ _ c.bet_head.ensures (Some By) (c.in_ok-n.was ∙ ap Some c.in-By.is)
