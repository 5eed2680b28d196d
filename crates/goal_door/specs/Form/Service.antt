-- The service of the door on bytes (SPECIFICATION 8.13): 1 to 4 of the program, 11 to 14 of the event, 5, then the way back. It replies as a run does: what
-- the gate refuses is not begun, and a way that was begun leaves the event that it came to.
use Rattle.std.specs.Prelude.{List, ℕ, length}
use Rattle.records.specs.Gate.Reply.{Answer}
use Rattle.stepper.specs.Services.Layers.{Layers}
use Rattle.stepper.specs.Run.Run.{RunEnd}
use Rattle.stepper.specs.Run.RunService.{RunReply, run_reply, gated}
use Rattle.goal_door.specs.Form.GoalDoor.{way_back, to_door}

unfoldable pub goal_door_answer : Layers → ℕ → (program s : List ℕ) → (room : ℕ) → Answer RunEnd
unfolding gated way_back
goal_door_answer L n program s room = gated L (λ M. to_door M n) program s room

-- the service: at most n steps back
unfoldable pub goal_door_record : Layers → ℕ → (program s out : List ℕ) → RunReply
unfolding run_reply goal_door_answer
goal_door_record L n program s out = run_reply out (goal_door_answer L n program s (length out))
