-- What the number of a way says of the event where it ends, and where the door of a reached event is.
use Rattle.std.specs.Prelude.{◌≡◌, List, ◌++◌, ℕ, ◌+◌, ◌<◌, ◌≤◌, length, drop}
use Rattle.records.specs.Format.Encode.{event_record}
use Rattle.records.specs.Format.Syntax.{Bet, Event}
use Rattle.stepper.specs.Run.RunService.{RunReply}
use Rattle.stepper.specs.Walks.Walk.{Tally}
use Rattle.goal_door.specs.Form.GoalDoor.{call_of}

-- the event d is a door of e: it calls the same goal with the same ancestors
abbrev pub DoorOf : (e d : Event) → Type 0
DoorOf e d = (s : List Bet) × (d ≡ call_of e s)

-- why the way from e, of at most n steps, ends with this number at d after so many; `next` is the number of a step back from d
pub data EndsSo (e d : Event) (n taken number next : ℕ) : Type 0 where
  -- d is a door,
  at_door : DoorOf e d → number ≡ 0 → EndsSo e d n taken number next
  -- or a question refuses the next step back, and its number is told, which is not 32,
  no_step : (DoorOf e d → ⊥) → (next ≡ 0 → ⊥) → (next ≡ 32 → ⊥) → number ≡ next → EndsSo e d n taken number next
  -- or that step would be made, and the limit is spent
  no_more : (DoorOf e d → ⊥) → next ≡ 0 → taken ≡ n → number ≡ 32 → EndsSo e d n taken number next

-- the door of e is so many steps back from where a list of steps, t, ends; `reply n out` is what the service replies there under the limit n
pub record DoorBack (e : Event) (t : Tally (List ℕ)) (reply : ℕ → List ℕ → RunReply) : Type 0 where
  pub steps : ℕ
  pub within : steps + t.backs ≤ t.forwards
  pub event : Event
  pub door : DoorOf e event
  -- a limit of so many or more leads to it,
  pub enough : (n : ℕ) (out : List ℕ) → 32768 ≤ length out → steps ≤ n
      → reply n out ≡ record { number = 0; taken = steps; output = event_record event ++ drop (length (event_record event)) out }
  -- and a lower one is spent on the way
  pub fewer : (n : ℕ) (out : List ℕ) → 32768 ≤ length out → n < steps → ((reply n out).number ≡ 32) × ((reply n out).taken ≡ n)
