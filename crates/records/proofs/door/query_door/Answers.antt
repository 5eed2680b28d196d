use Rattle.records.specs.Gate.DoorLaws.{event_told, event_passed}
use Rattle.records.proofs.door.query_door.Goals as goal

pub returns-in-Ok : goal.returns-in-Ok
returns-in-Ok c = event_passed _ c.query_verdict.ensures c.in-Ok.is

pub returns-in-Err : goal.returns-in-Err
returns-in-Err c = event_told _ c.query_verdict.ensures c.in-Err.is
