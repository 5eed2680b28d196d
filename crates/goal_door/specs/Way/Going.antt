-- The way back in code: runs from call to call, and what holds between two of them. The way stands at an event that is not the door, whose record is at the
-- front of a buffer, and what is still to come is the way from there on.
use Rattle.std.specs.Prelude.{◌≡◌, false, List, ℕ, ◌+◌, ◌-◌, ◌≤◌, ◌<◌, length, take}
use Rattle.std.specs.declared.ops.ControlFlow.{ControlFlow}
use Rattle.std.specs.declared.ops.ControlFlow.TheVariants.{Continue, Break}
use Rattle.records.specs.Format.Syntax.{Event, Definition}
use Rattle.records.specs.Format.Encode.{event_record}
use Rattle.records.specs.Ends.Places.{event_places, part_ends}
use Rattle.records.specs.Gate.Gate.{Accepted, tree, read_program, read_event}
use Rattle.records.specs.Gate.Question.{question_number, allowed}
use Rattle.records.specs.Gate.Reply.{outcome_number}
use Rattle.records.specs.declared.places.Places.{Places}
use Rattle.records.specs.declared.put.Range.{Range}
use Rattle.stepper.specs.Rules.Machine.{StepOutcome, refused, gives}
use Rattle.stepper.specs.Run.Run.{RunEnd, stop_number}
use Rattle.stepper.specs.Run.RunLaws.{then}
use Rattle.stepper.specs.Services.Desk.{layers}
use Rattle.stepper.specs.Services.Services.{machine}
use Rattle.stepper.specs.declared.run.RunAnswer.{RunAnswer}
use Rattle.goal_door.specs.Form.GoalDoor.{is_door, way_back, to_door}
use Rattle.goal_door.specs.declared.way.Standing.{Standing}
use Rattle.goal_door.specs.declared.way.WayEnd.{WayEnd}

-- from an event's goal on to the end of its ancestors: a record has them one after the other
abbrev pub goal_and_ancestors : Places → Range
goal_and_ancestors p = record { from = p.goal.from; to = p.ancestors.to }

-- the record s is accepted, and these are the places of the event that it is read as
abbrev pub PlacesOf : List ℕ → Places → Type 0
PlacesOf s p = Accepted (read_event s) × ((e : Event) → read_event s ≡ tree e → p ≡ event_places e)

-- where the limit is spent: the number of the question that refuses the next step back, or that of the limit
unfoldable pub next_number : StepOutcome → ℕ
unfolding question_number
next_number (refused q) = question_number q
next_number (gives c) = question_number allowed

-- the way behind a run
abbrev pub way_at : Standing → RunAnswer → Standing
way_at last r = record { taken = last.taken + r.taken; length = r.length; ends = r.ends }

-- the way has ended: what is told of it, and its event's record at the front of the buffer
pub record WayEnded (w : RunEnd) (p : WayEnd) (here : List ℕ) : Type 0 where
  pub number_is : outcome_number p.outcome ≡ stop_number w.why
  pub taken_is : p.standing.taken ≡ w.taken
  pub front : take p.standing.length here ≡ event_record w.event
  pub inside : p.standing.length ≤ length here
  pub ends_are : p.standing.ends ≡ part_ends w.event

module _ (program s : List ℕ) (ds : List Definition) (e : Event) (limit : ℕ) where
  -- the way from e, whose record is s, stands where p tells, behind a run of as many steps
  pub record WayStands (p : Standing) (here : List ℕ) : Type 0 where
    pub program_reads : read_program program ≡ tree ds
    pub sought : read_event s ≡ tree e
    pub event : Event
    pub reads : read_event (take p.length here) ≡ tree event
    pub inside : p.length ≤ length here
    pub ends_are : p.ends ≡ part_ends event
    pub within : p.taken ≤ limit
    pub passed : is_door e event ≡ false
    pub behind : RunEnd
    pub made : behind.taken ≡ p.taken
    pub rest : to_door (machine layers ds) limit e ≡ then behind (way_back (machine layers ds) e (limit - p.taken) event)

  -- a turn later: the way goes on, at an event further back, or it has ended
  abbrev pub WayTurned : (last : Standing) → ControlFlow WayEnd Standing → (here : List ℕ) → Type 0
  WayTurned last (Continue p) here = WayStands p here × (last.taken < p.taken)
  WayTurned last (Break p) here = WayEnded (to_door (machine layers ds) limit e) p here
