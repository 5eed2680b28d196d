-- `bet_top` reads a bet's pairs or its goal.
use Rattle.std.specs.Prelude.{Some, None}
use Rattle.records.specs.declared.heads.BetHead.TheVariants.{Unifier, Or, By}
use Rattle.records.specs.Ends.HeadRoomLaws.{bet_room}
use Rattle.terms.specs.Body.TopLaws.{goal_on, bet_arm, unifier_top, by_top}
use mathlib.Core.Path.{ap, ◌∙◌}
use native.Mathlib.Omega.{arith}
use Rattle.terms.proofs.variables.bet_top.Goals as goal

pub overflow_add-at : goal.overflow_add-at
overflow_add-at c = omega (arith, (bet_room _ _ c.type_inv.event c.bet_head.ensures (Some (Unifier _)) (c.in-Some.is ∙ ap Some c.in-Unifier.is)).0)

pub pairs_top-requires : goal.pairs_top-requires
pairs_top-requires c = (bet_arm c.requires c.bet_head.ensures (Some (Unifier _)) (c.in-Some.is ∙ ap Some c.in-Unifier.is)).0

pub overflow_add-result : goal.overflow_add-result
overflow_add-result c = omega (arith, (bet_room _ _ c.type_inv.event c.bet_head.ensures (Some (Or _)) (c.in-Some.is ∙ ap Some c.in-Or.is)).0)

pub variables_top-requires : goal.variables_top-requires
variables_top-requires c = rw c.goal.ensures (goal_on (bet_arm c.requires c.bet_head.ensures (Some By) (c.in-Some.is ∙ ap Some c.in-By.is)).0)

pub returns-in-Unifier : goal.returns-in-Unifier
returns-in-Unifier c = λ b. unifier_top b c.bet_head.ensures (c.in-Some.is ∙ ap Some c.in-Unifier.is) c.pairs_top.ensures

pub returns-in-Or : goal.returns-in-Or
returns-in-Or c = λ b. bet_arm b c.bet_head.ensures (Some (Or _)) (c.in-Some.is ∙ ap Some c.in-Or.is)

pub returns-in-By : goal.returns-in-By
returns-in-By c = λ b. by_top b c.bet_head.ensures (c.in-Some.is ∙ ap Some c.in-By.is) (rw c.goal.ensures at c.variables_top.ensures)

pub returns-in_default : goal.returns-in_default
returns-in_default c = λ b. absurd (bet_arm b c.bet_head.ensures None c.in_default.is)
