use Rattle.std.specs.Prelude.{Some, None}
use mathlib.Core.Path.{◌∙◌}
use native.Mathlib.Omega.{arith}
use Rattle.records.specs.Ends.ItemEndsLaws.{clause_ends}
use Rattle.records.specs.Ends.HeadRoomLaws.{clause_room}
use Rattle.records.proofs.ends.clause_end.Goals as goal

pub returns-in_err-signature : goal.returns-in_err-signature
returns-in_err-signature c = c.from_residual.ensures ∙ clause_ends _ _ c.clause_head.ensures None c.in_err-signature.was

pub overflow_add-at : goal.overflow_add-at
overflow_add-at c = omega (arith, clause_room _ _ c.type_inv.s c.clause_head.ensures (Some _) c.in_ok-signature.was)

pub returns : goal.returns
returns c = c.parts_end.ensures ∙ clause_ends _ _ c.clause_head.ensures (Some _) c.in_ok-signature.was
