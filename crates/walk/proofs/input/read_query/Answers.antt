use Rattle.std.proofs.Math.Path.{refl}
use Rattle.records.specs.Gate.OutcomeLaws.{told_zero, told_refusal, refusal_positive}
use Rattle.walk.specs.ReadingLaws.{query_unread, query_told}
use Rattle.walk.proofs.input.read_query.Goals as goal

pub returns-in-Ok : goal.returns-in-Ok
returns-in-Ok c = query_told (told_zero _ c.program_door.ensures c.in-Ok.is) refl c.read_record.ensures

pub returns-in-Err : goal.returns-in-Err
returns-in-Err c = query_unread (told_refusal _ c.program_door.ensures c.in-Err.is) (refusal_positive _)
