-- What a planner may rely on at the door of a goal (SPECIFICATION 9.11), of the service on bytes. `answer` is what the service replies for the record s of an
-- event e, reached or not, with at most n steps and the output `out`, and `written` is the record that it writes. `DoorOf e d` says that d is a call of
-- the goal of e with the ancestors of e, whatever its bets, and `EndsSo` why a way ends. `Program`, `Start`, `Move` and `served` are those of `Demands`,
-- and `EndsAt` is that of `Training`: the list of steps ms from q's first event ends at e. `DoorExample` has ways.
use Rattle.std.specs.Prelude.{◌≡◌, List, ◌++◌, ◌⊎◌, ℕ, ◌<◌, ◌≤◌, length, drop}
use Rattle.std.proofs.Common.{ap, inl, inr, arith}
use Rattle.std.proofs.Math.Decide.{dec_le}
use Rattle.records.specs.Format.HeadLaws.{Bytes}
use Rattle.records.specs.Format.Syntax.{Event}
use Rattle.records.specs.Gate.Gate.{tree, front_record, read_event}
use Rattle.stepper.specs.Run.RunService.{RunReply, run_record}
use Rattle.stepper.specs.Services.Desk.{layers}
use Rattle.stepper.specs.Services.Services.{Program, Start, Move, served, step_record}
use Rattle.stepper.specs.Training.{EndsAt}
use Rattle.stepper.specs.Walks.Walk.{forward, back}
use Rattle.goal_door.specs.Form.Service.{goal_door_record}
use Rattle.goal_door.specs.Form.Told.{DoorOf, EndsSo, DoorBack}
use Rattle.goal_door.specs.Form.ServiceLaws.{written_reads, told_within, run_there, run_again, none_between, number_told, number_not_six, door_back}

module _ (c : Program layers) where
  module _ (s : List ℕ) (b : Bytes s) (e : Event) (h : read_event s ≡ tree e) (n : ℕ) (out : List ℕ) (room : 32768 ≤ length out) where
    abbrev pub answer : RunReply
    answer = goal_door_record layers n c.program s out

    abbrev pub written : List ℕ
    written = front_record answer.output

    -- The limit is kept.
    pub within_limit : answer.taken ≤ n
    within_limit = told_within c s b e h n out room

    -- As many single steps back are accepted and leave the same output.
    pub found_by_steps_back : run_record layers back answer.taken c.program s out ≡ record { number = 0; taken = answer.taken; output = answer.output }
    found_by_steps_back = run_there c s b e h n out room

    -- As many steps forward from there are accepted and lead back to where one was.
    pub forward_leads_back : (o : List ℕ) → 32768 ≤ length o
        → run_record layers forward answer.taken c.program written o ≡ record { number = 0; taken = answer.taken; output = s ++ drop (length s) o }
    forward_leads_back = run_again c s b e h n out room

    -- None of the events passed on the way, from the given one on, is a door.
    pub none_in_between : (j : ℕ) → j < answer.taken
        → (d : Event) × (read_event (front_record (run_record layers back j c.program s out).output) ≡ tree d) × (DoorOf e d → ⊥)
    none_in_between = none_between c s b e h n out room

    -- What is written is an event, and the number says why the way ends there.
    pub the_number_says : (d : Event) × (read_event written ≡ tree d) × EndsSo e d n answer.taken answer.number (step_record layers back c.program written out).number
    the_number_says = (_, written_reads c s b e h n out room, number_told c s b e h n out room)

    -- It is never 6: an event from which steps back lead to a query's first event is reached, so its door is that event or was met before.
    pub never_6 : answer.number ≡ 6 → ⊥
    never_6 = number_not_six c s b e h n out room

  -- From a reached event there is a door, so many steps back: a limit of so many or more leads there, and a lower one is spent on the way.
  module _ (q : Start layers) (ms : List Move) (e : Event) (h : EndsAt c q ms e) where
    abbrev pub reply : ℕ → List ℕ → RunReply
    reply n out = goal_door_record layers n c.program (served c q ms).event out

    pub reached_has_door : DoorBack e (served c q ms) reply
    reached_has_door = door_back c q ms e h

    -- So only 0 and 32 occur.
    pub only_0_and_32 : (n : ℕ) (out : List ℕ) → 32768 ≤ length out → ((reply n out).number ≡ 0) ⊎ ((reply n out).number ≡ 32)
    only_0_and_32 n out room = go (dec_le reached_has_door.steps n)
      where
        go : Dec (reached_has_door.steps ≤ n) → ((reply n out).number ≡ 0) ⊎ ((reply n out).number ≡ 32)
        go (yes l) = inl (ap (λ r. r.number) (reached_has_door.enough n out room l))
        go (no l) = inr (reached_has_door.fewer n out room (omega (arith, l))).0
