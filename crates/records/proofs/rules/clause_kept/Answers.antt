use Rattle.std.specs.Prelude.{Some}
use mathlib.Core.Path.{sym, ◌∙◌}
use native.Mathlib.Omega.{arith}
use Rattle.records.proofs.RuleArms.{no_clause}
use Rattle.records.specs.Gate.KeptLaws.{clause_through, clause_kept}
use Rattle.records.specs.Ends.HeadRoomLaws.{clause_room}
use Rattle.records.proofs.rules.clause_kept.Goals as goal

pub overflow_add-parts : goal.overflow_add-parts
overflow_add-parts c = omega (arith, clause_room _ _ c.type_inv.s c.clause_head.ensures (Some _) c.in-Some.is)

pub meets_exactly-requires : goal.meets_exactly-requires
meets_exactly-requires c = record { v_bound = (clause_room _ _ c.type_inv.s c.clause_head.ensures (Some _) c.in-Some.is).3; on = clause_through _ _ c.clause_head.ensures c.in-Some.is c.requires }

pub returns : goal.returns
returns c = c.meets_exactly.ensures ∙ sym (clause_kept _ _ c.clause_head.ensures c.in-Some.is c.requires)

pub returns-in_default : goal.returns-in_default
returns-in_default c = no_clause _ _ c.clause_head.ensures c.in_default.is c.requires
