-- Laws of the way in code: a run to the next call takes the way there, where it ends at the door and goes on at any other call; where the run comes to no
-- call, the way ends with the number of the question that says no.
use Rattle.std.specs.Prelude.{◌≡◌, Bool, List, [], ℕ, ◌+◌, ◌-◌, ◌≤◌, length, take, Result, Ok, Err}
use Rattle.std.specs.declared.ops.ControlFlow.TheVariants.{Continue, Break}
use Rattle.std.proofs.Math.Path.{refl, sym, ap}
use Rattle.std.proofs.Common.{◌∙◌, arith}
use Rattle.std.proofs.Math.Bool.{true, false}
use Rattle.std.proofs.Math.Option.{none-ne-some}
use Rattle.records.specs.Ends.Places.{event_places}
use Rattle.records.specs.Format.Syntax.{Event, event, Definition}
use Rattle.records.specs.Gate.Door.{BothPassed}
use Rattle.records.specs.Gate.OutcomeLaws.{refusal_positive}
use Rattle.records.specs.Gate.Question.{question_number, allowed, refusal_number}
use Rattle.records.specs.Gate.Reply.{reply_with, outcome_number}
use Rattle.records.specs.Gate.ReplyLaws.{number_positive}
use Rattle.records.specs.declared.places.Places.{Places}
use Rattle.records.specs.declared.questions.Refusal.{Refusal}
use Rattle.stepper.specs.Rules.Machine.{Machine, StepOutcome, refused, gives}
use Rattle.stepper.specs.Rules.Rules.{step, step_back}
use Rattle.stepper.specs.Run.Run.{Stop, spent, met, full, by, RunEnd, ended, run, stop_number}
use Rattle.stepper.specs.Run.RunLaws.{then, then_then, StopTold, run_within, run_told, run_met_steps}
use Rattle.stepper.specs.Run.RunLoop.{met_case, run_outcome, RanHere, asked}
use Rattle.stepper.specs.Run.RunLoopLaws.{tells_met, tells_unmet}
use Rattle.stepper.specs.Services.Desk.{layers}
use Rattle.stepper.specs.Services.Services.{machine, reply}
use Rattle.stepper.specs.Walks.Crossing.{ancestors_of}
use Rattle.stepper.specs.declared.run.RunAnswer.{RunAnswer}
use Rattle.stepper.specs.declared.run.RunOrder.{RunOrder}
use Rattle.stepper.specs.declared.run.RunStop.TheVariants.{Refused}
use Rattle.goal_door.specs.Form.GoalDoor.{is_door, way_back, to_door}
use Rattle.goal_door.specs.Form.GoalDoorLaws.{way_ends, way_refused, way_spent, way_follows, run_passes}
use Rattle.goal_door.specs.Form.NextCall.{to_next_call, call_order}
use Rattle.goal_door.specs.Way.Going.{next_number, way_at, WayStands, WayTurned}
use Rattle.goal_door.specs.declared.way.Standing.{Standing}

-- the number of a step that is made, and of one that is refused, where the limit is spent
pub next_made : {n : ℕ} (out : List ℕ) (a : StepOutcome) → n ≡ (reply out a).number → n ≡ 0 → 32 ≡ next_number a
unfolding next_number reply_with question_number
next_made out (refused q) e z = absurd (number_positive q (sym e ∙ z))
next_made out (gives c) e z = refl

pub next_refused : {n : ℕ} (out : List ℕ) (a : StepOutcome) → n ≡ (reply out a).number → (n ≡ 0 → ⊥) → n ≡ next_number a
unfolding next_number reply_with
next_refused out (refused q) e z = e
next_refused out (gives c) e z = absurd (z e)

-- the order for as many ancestors as the event has
pub order_told : {p : Places} (e : Event) → p ≡ event_places e → call_order p.ancestors.count ≡ call_order (length (ancestors_of e))
unfolding event_places
order_told (event p g u s) h = rw h refl

module _ {program s : List ℕ} {ds : List Definition} {e : Event} {limit : ℕ} {last : Standing} {here : List ℕ} (g : WayStands program s ds e limit last here) where
  abbrev M : Machine
  M = machine layers ds

  -- the event where the way stands and the program pass questions 1 to 4 and 11 to 14
  abbrev pub way_passed : BothPassed program (take last.length here)
  way_passed = record { definitions = ds; program_reads = g.program_reads; event = g.event; reads = g.reads }

  abbrev pub left : ℕ
  left = limit - last.taken

  abbrev pub ahead : RunEnd
  ahead = run M (to_next_call (length (ancestors_of e))) left g.event

  -- what is still to come behind the run to the next call
  rest_ahead : to_door M limit e ≡ then (then g.behind ahead) (way_back M e (left - ahead.taken) ahead.event)
  rest_ahead = g.rest ∙ ap (then g.behind) (way_follows M e left g.event g.passed) ∙ then_then g.behind ahead _

  ahead_within : ahead.taken ≤ left
  ahead_within = run_within M (to_next_call (length (ancestors_of e))) left g.event

  -- the order that the places of the event sought tell makes this run
  pub ran_ahead : {o : RunOrder} {p : Places} {r : RunAnswer} {here' : List ℕ} → o ≡ call_order p.ancestors.count → p ≡ event_places e → RanHere (run M (asked o []) left g.event) r here here'
      → RanHere ahead r here here'
  ran_ahead i k h = rw (i ∙ order_told e k) at h

  module _ {r : RunAnswer} {here' : List ℕ} (ran : RanHere ahead r here here') where
    pub taken_small : last.taken + r.taken ≤ limit
    taken_small = omega (arith, ran.tells.taken_is, ahead_within, g.within)

    -- so do the event reached and the program
    abbrev pub ahead_passed : BothPassed program (take r.length here')
    ahead_passed = record { definitions = ds; program_reads = g.program_reads; event = ahead.event; reads = ran.reads }

    -- the way ends there for a reason
    way_stops : {p : Standing} {o : Result (Unit {0}) Refusal} (why : Stop) → way_back M e (left - ahead.taken) ahead.event ≡ ended ahead.event why
        → outcome_number o ≡ stop_number why → p ≡ way_at last r → WayTurned program s ds e limit last (Break (record { outcome = o; standing = p })) here'
    unfolding then
    way_stops {p} {o} why w i q =
        let all = rest_ahead ∙ ap (then (then g.behind ahead)) w in
        rw (q, all) (record {
          number_is = i;
          taken_is = omega (arith, ran.tells.taken_is, g.made);
          front = ran.front;
          inside = ran.inside;
          ends_are = ran.tells.ends_are;
        })

    module _ (m : met_case r.stop ≡ true) where
      is_met : ahead.why ≡ met
      is_met = tells_met ran.tells m

      -- at a call the way ends if that is the door,
      pub turned_door : {p : Standing} {found : Bool} → found ≡ is_door e ahead.event → found ≡ true → p ≡ way_at last r
          → WayTurned program s ds e limit last (Break (record { outcome = Ok tt; standing = p })) here'
      unfolding stop_number
      turned_door f i q = way_stops met (way_ends M e ahead.event (left - ahead.taken) (sym f ∙ i)) refl q

      -- and else it goes on
      pub turned_on : {p : Standing} {found : Bool} → found ≡ is_door e ahead.event → found ≡ false → p ≡ way_at last r → WayTurned program s ds e limit last (Continue p) here'
      unfolding then
      turned_on f i q =
          let less : left - ahead.taken ≡ limit - (last.taken + r.taken) = omega (arith, ran.tells.taken_is) in
          rw q (
            record {
              program_reads = g.program_reads;
              sought = g.sought;
              event = ahead.event;
              reads = ran.reads;
              inside = ran.inside;
              ends_are = ran.tells.ends_are;
              within = taken_small;
              passed = sym f ∙ i;
              behind = then g.behind ahead;
              made = omega (arith, g.made, ran.tells.taken_is);
              rest = rw less at rest_ahead;
            },
            omega (arith, ran.tells.taken_is, run_met_steps M (to_next_call (length (ancestors_of e))) left g.event is_met),
          )

    module _ (m : met_case r.stop ≡ false) where
      not_met : ahead.why ≡ met → ⊥
      not_met = tells_unmet ran.tells m

      passes : is_door e ahead.event ≡ false
      passes = run_passes M e left g.event g.passed not_met

      -- why the run stopped
      told : (w : Stop) → Type 0
      told = StopTold M (to_next_call (length (ancestors_of e))) left ahead

      run_says : told ahead.why
      unfolding told
      run_says = run_told M (to_next_call (length (ancestors_of e))) left g.event

      -- where a step was refused, it ends with the question that refused it
      pub turned_refused : {p : Standing} {f : Refusal} → r.stop ≡ Refused f → p ≡ way_at last r
          → WayTurned program s ds e limit last (Break (record { outcome = Err f; standing = p })) here'
      unfolding stop_number step told
      turned_refused {p} {f} z q = go ahead.why refl run_says
        where
          number : refusal_number f ≡ stop_number ahead.why
          number = rw z at ran.tells.number_is

          go : (w : Stop) → ahead.why ≡ w → told w → WayTurned program s ds e limit last (Break (record { outcome = Err f; standing = p })) here'
          go spent i t = absurd (refusal_positive f (number ∙ ap stop_number i))
          go met i t = absurd (not_met i)
          go full i t = absurd (refusal_positive f (number ∙ ap stop_number i))
          go (by k) i t = way_stops (by k) (way_refused M e ahead.event passes (left - ahead.taken) k t) (number ∙ ap stop_number i) q

      -- and where all steps are taken, with the one that refuses the next step, or with the limit
      pub turned_spent : {p : Standing} {f : Refusal} → outcome_number (run_outcome r.stop) ≡ 0 → refusal_number f ≡ next_number (step_back M ahead.event) → p ≡ way_at last r
          → WayTurned program s ds e limit last (Break (record { outcome = Err f; standing = p })) here'
      unfolding stop_number next_number told
      turned_spent {p} {f} z j q = go ahead.why refl run_says
        where
          ends : left - ahead.taken ≡ 0 → (a : StepOutcome) → step_back M ahead.event ≡ a → refusal_number f ≡ next_number a
              → WayTurned program s ds e limit last (Break (record { outcome = Err f; standing = p })) here'
          ends l (refused k) i h = way_stops (by k) (way_refused M e ahead.event passes (left - ahead.taken) k i) h q
          ends l (gives c) i h = way_stops (by allowed) (rw l (way_spent M e ahead.event passes c i)) h q

          go : (w : Stop) → ahead.why ≡ w → told w → WayTurned program s ds e limit last (Break (record { outcome = Err f; standing = p })) here'
          go spent i t = ends (omega (arith, t)) (step_back M ahead.event) refl j
          go met i t = absurd (not_met i)
          go full i t = absurd (none-ne-some _ t)
          go (by k) i t = absurd (number_positive k (sym (ap stop_number i) ∙ sym ran.tells.number_is ∙ z))
