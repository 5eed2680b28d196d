use mathlib.Core.Path.{◌∙◌}
use Rattle.std.proofs.lemmas.Result.{err_from_is_err_and}
use Rattle.records.specs.Gate.DoorLaws.{told_program, told_event}
use Rattle.records.proofs.door.door.Goals as goal

pub returns-in_err-program_door : goal.returns-in_err-program_door
returns-in_err-program_door c = let p = err_from_is_err_and c.from_residual.result c.from_residual.ensures.1 in rw (p.1, p.2) (told_program _ _ c.program_door.ensures c.in_err-program_door.was)

pub returns : goal.returns
returns c = c.event_door.ensures ∙ told_event _ _ c.program_door.ensures c.in_ok-program_door.was
