use Rattle.records.specs.Gate.DoorLaws.{program_told, program_passed}
use Rattle.records.proofs.door.clauses_door.Goals as goal

pub returns-in-Ok : goal.returns-in-Ok
returns-in-Ok c = program_passed _ c.clauses_verdict.ensures c.in-Ok.is

pub returns-in-Err : goal.returns-in-Err
returns-in-Err c = program_told _ c.clauses_verdict.ensures c.in-Err.is
