use Rattle.std.specs.Prelude.{Some, None}
use mathlib.Core.Path.{◌∙◌}
use native.Mathlib.Omega.{arith}
use Rattle.records.specs.Ends.ItemEndsLaws.{binding_ends}
use Rattle.records.specs.Ends.HeadRoomLaws.{word_room}
use Rattle.records.proofs.ends.binding_end.Goals as goal

pub returns-in_err-word_at : goal.returns-in_err-word_at
returns-in_err-word_at c = c.from_residual.ensures ∙ binding_ends _ _ c.word_at.ensures None c.in_err-word_at.was

pub overflow_add-at : goal.overflow_add-at
overflow_add-at c = omega (arith, word_room _ _ c.type_inv.s c.word_at.ensures (Some _) c.in_ok-word_at.was)

pub returns : goal.returns
returns c = c.term_end.ensures ∙ binding_ends _ _ c.word_at.ensures (Some _) c.in_ok-word_at.was
