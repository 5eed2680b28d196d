use Rattle.std.specs.Prelude.{Some}
use native.Mathlib.Omega.{arith}
use Rattle.records.specs.Ends.PlacesLaws.{row_is, row_off, row_short}
use Rattle.records.specs.Ends.HeadRoomLaws.{word_room}
use Rattle.records.proofs.places.row_place.Goals as goal

pub overflow_add-at : goal.overflow_add-at
overflow_add-at c = omega (arith, word_room _ _ c.type_inv.s c.word_at.ensures (Some _) c.in-Some.is)

pub overflow_add-result : goal.overflow_add-result
overflow_add-result c = omega (arith, word_room _ _ c.type_inv.s c.word_at.ensures (Some _) c.in-Some.is)

pub returns-in_default-items_end : goal.returns-in_default-items_end
returns-in_default-items_end c = row_off _ _ _ c.word_at.ensures c.in-Some.is c.items_end.ensures c.in_default-items_end.is

pub returns-in_default : goal.returns-in_default
returns-in_default c = row_short _ _ _ c.word_at.ensures c.in_default.is

pub returns : goal.returns
returns c = row_is _ _ _ c.word_at.ensures c.in-Some.is c.items_end.ensures c.in-Some-items_end.is
