use native.Mathlib.Omega.{arith}
use Rattle.std.proofs.lemmas.Result.{err_from_is_err_and}
use Rattle.records.specs.Gate.DoorLaws.{told_door, told_short, told_open}
use Rattle.records.proofs.door.gate.Goals as goal

pub returns-in_err-door : goal.returns-in_err-door
returns-in_err-door c = let p = err_from_is_err_and c.from_residual.result c.from_residual.ensures.1 in rw (p.1, p.2) (told_door _ _ _ c.door.ensures c.in_err-door.was)

pub returns-then-room-lt-RECORD_LIMIT : goal.returns-then-room-lt-RECORD_LIMIT
returns-then-room-lt-RECORD_LIMIT c = told_short _ _ _ c.door.ensures c.in_ok-door.was (omega arith)

pub returns-else-room-lt-RECORD_LIMIT : goal.returns-else-room-lt-RECORD_LIMIT
returns-else-room-lt-RECORD_LIMIT c = told_open _ _ _ c.door.ensures c.in_ok-door.was (omega arith)
