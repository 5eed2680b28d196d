use Rattle.std.specs.Prelude.{Some}
use mathlib.Core.Path.{sym, ◌∙◌}
use native.Mathlib.Omega.{arith}
use Rattle.records.proofs.RuleArms.{at_most, no_definition}
use Rattle.records.specs.Gate.KeptLaws.{definition_through, definition_kept}
use Rattle.records.specs.Ends.HeadRoomLaws.{definition_room}
use Rattle.records.proofs.rules.definition_kept.Goals as goal

pub overflow_add-at : goal.overflow_add-at
overflow_add-at c = omega (arith, definition_room _ _ c.type_inv.s c.definition_head.ensures (Some _) c.in-Some.is)

pub variables_top-found-requires : goal.variables_top-found-requires
variables_top-found-requires c = rw c.goal.ensures (definition_through _ _ c.definition_head.ensures c.in-Some.is c.requires)

pub overflow_add-result : goal.overflow_add-result
overflow_add-result c = omega (arith, definition_room _ _ c.type_inv.s c.definition_head.ensures (Some _) c.in-Some.is)

pub returns : goal.returns
returns c = at_most _ (rw c.goal.ensures at c.variables_top-found.ensures.top) ∙ sym (definition_kept _ _ c.definition_head.ensures c.in-Some.is c.requires)

pub returns-in_default : goal.returns-in_default
returns-in_default c = no_definition _ _ c.definition_head.ensures c.in_default.is c.requires
