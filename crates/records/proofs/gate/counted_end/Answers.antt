use Rattle.std.specs.Prelude.{Some}
use mathlib.Core.Path.{◌∙◌}
use native.Mathlib.Omega.{arith}
use Rattle.records.specs.Gate.CountedEndsLaws.{row_end, no_row}
use Rattle.records.specs.Ends.HeadRoomLaws.{word_room}
use Rattle.records.proofs.gate.counted_end.Goals as goal

pub returns-in_err-n : goal.returns-in_err-n
returns-in_err-n c = c.from_residual.ensures ∙ no_row _ _ c.word_at.ensures _ c.in_err-n.was

pub overflow_add-at : goal.overflow_add-at
overflow_add-at c = omega (arith, word_room _ _ c.type_inv.s c.word_at.ensures (Some _) c.in_ok-n.was)

pub returns : goal.returns
returns c = c.items_end.ensures ∙ row_end _ _ c.word_at.ensures _ c.in_ok-n.was
