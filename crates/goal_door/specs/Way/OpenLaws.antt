-- Laws of the way's start and end: it starts at the given event, which may be the door, and its end is what the service replies.
use Rattle.std.specs.Prelude.{◌≡◌, refl, Bool, true, false, List, ℕ, ◌-◌, ◌≤◌, take, Result, Ok, Err}
use Rattle.std.proofs.Common.{sym, ◌∙◌, ap, arith}
use Rattle.std.proofs.Math.ListN.{length}
use Rattle.std.proofs.Math.Seq.{length-take-le}
use Rattle.records.specs.Ends.Places.{EndsOf}
use Rattle.records.specs.Format.HeadLaws.{Known, bytes_all}
use Rattle.records.specs.Gate.Door.{BothPassed, gate}
use Rattle.records.specs.Gate.Gate.{read_program, read_event}
use Rattle.records.specs.Gate.Question.{refusal_number}
use Rattle.records.specs.Gate.Reply.{reply_with, told, outcome_number}
use Rattle.records.specs.Writing.Patched.{Put}
use Rattle.records.specs.Writing.PatchedLaws.{put_length, put_front, front_put}
use Rattle.records.specs.declared.places.PartEnds.{PartEnds}
use Rattle.records.specs.declared.questions.Refusal.{Refusal}
use Rattle.stepper.specs.Rules.Machine.{Machine}
use Rattle.stepper.specs.Run.Run.{spent, ended, stop_number}
use Rattle.stepper.specs.Run.RunLaws.{then_ended}
use Rattle.stepper.specs.Run.RunService.{RunReplied}
use Rattle.stepper.specs.Run.RunServiceLaws.{gated_refused, gated_replied}
use Rattle.stepper.specs.Services.Desk.{layers}
use Rattle.stepper.specs.Services.DeskLaws.{lawful}
use Rattle.stepper.specs.Services.Services.{machine}
use Rattle.goal_door.specs.Form.Service.{goal_door_answer, goal_door_record}
use Rattle.goal_door.specs.Form.GoalDoor.{is_door, way_back, to_door}
use Rattle.goal_door.specs.Form.GoalDoorLaws.{way_ends}
use Rattle.goal_door.specs.Way.Going.{WayEnded, WayStands}
use Rattle.goal_door.specs.declared.way.Standing.{Standing}
use Rattle.goal_door.specs.declared.way.WayEnd.{WayEnd}

module _ {program s here : List ℕ} (w : BothPassed program s) (limit : ℕ) where
  -- the start, with the event's record put at the front of the buffer,
  module _ {zeros : List ℕ} {n : ℕ} {ends : PartEnds} {found : Bool} (known : Known s) (p : Put zeros 0 s here n) (room : length s ≤ length zeros) (k : EndsOf s ends)
      (f : found ≡ is_door w.event w.event) where
    abbrev M : Machine
    M = machine layers w.definitions

    abbrev first : Standing
    first = record { taken = 0; length = n; ends = ends }

    starts_inside : n ≤ length here
    starts_inside = omega (arith, p.place, put_length p)

    front : take n here ≡ s
    front = front_put p room

    -- which is the door
    pub first_ended : found ≡ true → WayEnded (to_door M limit w.event) (record { outcome = Ok tt; standing = first }) here
    unfolding stop_number
    first_ended i =
        rw (way_ends M w.event w.event limit (sym f ∙ i))
        (record { number_is = refl; taken_is = refl; front = front ∙ (lawful.event_read s (bytes_all s known) w.event w.reads).0; inside = starts_inside; ends_are = k w.event w.reads })

    -- or from which the way goes on
    pub first_stands : found ≡ false → WayStands program s w.definitions w.event limit first here
    first_stands i =
        let less : limit ≡ limit - 0 = omega arith in
        record {
          program_reads = w.program_reads;
          sought = w.reads;
          event = w.event;
          reads = ap read_event front ∙ w.reads;
          inside = starts_inside;
          ends_are = k w.event w.reads;
          within = omega arith;
          passed = sym f ∙ i;
          behind = ended w.event spent;
          made = refl;
          rest = ap (λ i. way_back M w.event i w.event) less ∙ then_ended w.event spent (way_back M w.event (limit - 0) w.event);
        }

  -- and the end: its event's record, put into the output, is what the service replies
  pub door_replied : {out out' : List ℕ} {r : WayEnd} {n : ℕ} → WayEnded (to_door (machine layers w.definitions) limit w.event) r here → length here ≡ 32768 → 32768 ≤ length out
      → Put out 0 (take r.standing.length here) out' n → RunReplied (goal_door_record layers limit program s out) (outcome_number r.outcome) r.standing.taken out'
  unfolding goal_door_record goal_door_answer reply_with
  door_replied {out} {out'} {r} end size room p =
      let short : length (take r.standing.length here) ≤ length out = omega (arith, length-take-le r.standing.length here end.inside, end.inside) in
      gated_replied out (λ M. to_door M limit) w room end.number_is end.taken_is (rw end.front at (put_front p short))

-- the gate says no
pub door_unopened : (limit : ℕ) (program s out : List ℕ) {o : Result (Unit {0}) Refusal} {f : Refusal} → o ≡ told (gate (read_program program) (read_event s) (length out))
    → o ≡ Err f → RunReplied (goal_door_record layers limit program s out) (refusal_number f) 0 out
unfolding goal_door_record goal_door_answer
door_unopened limit program s out e z = gated_refused (λ M. to_door M limit) program s out e z
