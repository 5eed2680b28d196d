use Rattle.std.specs.Prelude.{Some}
use native.Mathlib.Omega.{arith}
use Rattle.records.specs.Ends.PlacesLaws.{row_to_is, row_to_short}
use Rattle.records.specs.Ends.HeadRoomLaws.{word_room}
use Rattle.records.proofs.places.row_to.Goals as goal

pub overflow_add-result : goal.overflow_add-result
overflow_add-result c = omega (arith, word_room _ _ c.type_inv.s c.word_at.ensures (Some _) c.in-Some.is)

pub returns-in-Some : goal.returns-in-Some
returns-in-Some c = row_to_is _ _ _ c.word_at.ensures c.in-Some.is

pub returns-in-None : goal.returns-in-None
returns-in-None c = row_to_short _ _ _ c.word_at.ensures c.in-None.is
