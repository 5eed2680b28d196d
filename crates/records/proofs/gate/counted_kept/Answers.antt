use Rattle.std.specs.Prelude.{Some}
use mathlib.Core.Path.{◌∙◌}
use native.Mathlib.Omega.{arith}
use Rattle.records.specs.Gate.CountedEndsLaws.{row_kept, row_found, row_lost}
use Rattle.records.specs.Ends.HeadRoomLaws.{word_room}
use Rattle.records.proofs.gate.counted_kept.Goals as goal

pub overflow_add-at : goal.overflow_add-at
overflow_add-at c = omega (arith, word_room _ _ c.type_inv.s c.word_at.ensures (Some _) c.in-Some.is)

pub items_kept-requires : goal.items_kept-requires
items_kept-requires c = row_found _ _ c.word_at.ensures _ c.in-Some.is c.requires

pub returns-in-Some : goal.returns-in-Some
returns-in-Some c = c.items_kept.ensures ∙ row_kept _ _ c.word_at.ensures _ c.in-Some.is

pub returns-in-None : goal.returns-in-None
returns-in-None c = row_lost _ _ c.word_at.ensures _ c.in-None.is c.requires
