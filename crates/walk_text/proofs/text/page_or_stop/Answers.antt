use Rattle.walk_text.specs.RestLaws.{page_stops}
use Rattle.walk_text.proofs.text.page_or_stop.Goals as goal

pub returns-in-Ok : goal.returns-in-Ok
returns-in-Ok c = λ program query whole before most filled. rw c.in-Ok.is at filled

pub returns-in-Err : goal.returns-in-Err
returns-in-Err c = λ program query whole before most filled. page_stops filled c.in-Err.is (rw c.number.ensures at c.stop_page.ensures program query most)
