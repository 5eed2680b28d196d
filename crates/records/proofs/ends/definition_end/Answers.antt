use Rattle.std.specs.Prelude.{Some, None}
use mathlib.Core.Path.{◌∙◌}
use native.Mathlib.Omega.{arith}
use Rattle.records.specs.Ends.ItemEndsLaws.{definition_ends}
use Rattle.records.specs.Ends.HeadRoomLaws.{definition_room}
use Rattle.records.proofs.ends.definition_end.Goals as goal

pub returns-in_err-definition_head : goal.returns-in_err-definition_head
returns-in_err-definition_head c = c.from_residual.ensures ∙ definition_ends _ _ c.definition_head.ensures None c.in_err-definition_head.was

pub overflow_add-at : goal.overflow_add-at
overflow_add-at c = omega (arith, definition_room _ _ c.type_inv.s c.definition_head.ensures (Some _) c.in_ok-definition_head.was)

pub returns : goal.returns
returns c = c.goals_end.ensures ∙ definition_ends _ _ c.definition_head.ensures (Some _) c.in_ok-definition_head.was
