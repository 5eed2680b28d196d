-- Laws of a step's answer: refused, or emitted from a plan; and what the gate's number says.
use Rattle.std.specs.Prelude.{◌≡◌, refl, false, List, ℕ, ◌≤◌, ◌<◌, length, Result, Ok, Err}
use Rattle.std.proofs.Math.Path.{sym, ap}
use Rattle.std.proofs.Common.{◌∙◌, lt-ltb}
use Rattle.std.proofs.Math.Option.{none}
use Rattle.records.specs.Format.Syntax.{Event}
use Rattle.records.specs.Format.Encode.{event_record}
use Rattle.records.specs.Gate.Question.{Question, fits, question_number, refusal_number}
use Rattle.records.specs.Gate.Gate.{tree, read_program, read_event}
use Rattle.records.specs.Ends.Places.{part_ends}
use Rattle.records.specs.Writing.Emitted.{Emitted}
use Rattle.records.specs.Writing.Plan.{planned, PlanInside, plan_ends}
use Rattle.records.specs.declared.plan.Plan.{Plan}
use Rattle.records.specs.Gate.Receipt.{Receipt, receipt_of}
use Rattle.records.specs.Gate.OutcomeLaws.{told_refuses, refusal_same, refusal_positive}
use Rattle.records.specs.declared.questions.Refusal.{Refusal}
use Rattle.records.specs.declared.questions.Refusal.TheVariants.{Fits}
use Rattle.records.specs.Format.HeadLaws.{Known, bytes_all}
use Rattle.records.specs.Gate.GateLaws.{event_tree}
use Rattle.records.specs.Gate.Reply.{through, reply_with, Replied, answer_length, Receipted, told, outcome_number}
use Rattle.records.specs.Gate.ReplyLaws.{number_positive, number_refuses, gives_injective, refused_not_gives, reply_number, receipted_bytes}
use Rattle.records.specs.Gate.Door.{gate}
use Rattle.records.specs.Gate.DoorLaws.{room_enough, gate_both, gate_open}
use Rattle.stepper.specs.Rules.Machine.{StepOutcome, refused, gives}
use Rattle.stepper.specs.Walks.Walk.{Direction}
use Rattle.stepper.specs.Rules.Rules.{fitting, limited_by, step}
use Rattle.stepper.specs.Services.Services.{too_long, record_limit, machine, step_answer, step_record}
use Rattle.stepper.specs.Services.ServiceLaws.{limit_fits, emit_answer_event, read_recordable}
use Rattle.stepper.specs.Rules.AnswerLaws.{fitting_put}
use Rattle.stepper.specs.Services.Desk.{layers}
use Rattle.stepper.specs.Services.DeskLaws.{lawful}
use Rattle.stepper.specs.Plans.Made.{Plans}
use Rattle.stepper.specs.Step.Stepped.{StepAnswer, Stepped, Determines, refuses, emits, BothPassed, gate_number}

pub stepped_refused : {before : List ℕ} {r : Refusal} (q : Question) → refusal_number r ≡ question_number q → Stepped (refused q) before (Err r) before
unfolding answer_length reply_with question_number
stepped_refused q e = record { number_is = e; length_is = refl; ends_are = λ c k. absurd (refused_not_gives k); output_is = refl }

-- a record that is too long is refused
pub long_refused : {before : List ℕ} (e : Event) → 32768 < length (event_record e) → Stepped (limited_by record_limit false (gives e)) before (Err Fits) before
unfolding limited_by fitting record_limit too_long question_number
long_refused e h = rw (lt-ltb 32768 (length (event_record e)) h) (stepped_refused fits refl)

abbrev its_answer : Event → StepOutcome
its_answer e = limited_by record_limit false (gives e)

-- what is emitted of an event's plan, where the output passes question 5, is the answer under question 10
module _ {s : List ℕ} {p : Plan} {e : Event} {before after : List ℕ} (h : 32768 ≤ length before) (w : Plans s p e) where
  emitted : {emit : Receipt} → Emitted before (planned p s) emit after → Receipted event_record (its_answer e) before emit after
  unfolding limited_by
  emitted m = receipted_bytes event_record before (its_answer e) (rw (w.is, emit_answer_event (length before) e, room_enough (its_answer e) h) at m)

  pub stepped_unemitted : {r : Refusal} → Emitted before (planned p s) (receipt_of (Err r)) after → Stepped (its_answer e) before (Err r) after
  unfolding answer_length
  stepped_unemitted {r} m =
      let refuses = (number_refuses (its_answer e) (emitted m).number_is (refusal_positive r)).refuses in
      record {
        number_is = (emitted m).number_is ∙ sym (reply_number event_record before (its_answer e));
        length_is = sym (ap (answer_length event_record) refuses);
        ends_are = λ c k. absurd (refused_not_gives (sym refuses ∙ k));
        output_is = (emitted m).output_is;
      }

  pub stepped_emitted : {n : ℕ} → Emitted before (planned p s) (receipt_of (Ok n)) after → Stepped (its_answer e) before (Ok (record { length = n; ends = plan_ends p })) after
  unfolding limited_by
  stepped_emitted m = record {
    number_is = (emitted m).number_is ∙ sym (reply_number event_record before (its_answer e));
    length_is = (emitted m).length_is;
    ends_are = λ c k. let g = fitting_put (record_limit e) (gives e) c k in w.ends (limit_fits e g.0) ∙ ap part_ends (gives_injective g.1);
    output_is = (emitted m).output_is;
  }

-- what a number and a plan determine
module _ {n : ℕ} {p : Plan} {s : List ℕ} {a : StepOutcome} {before : List ℕ} where
  pub determined_no : {r : Refusal} → Determines n p s a → n ≡ refusal_number r → Stepped a before (Err r) before
  determined_no (refuses q i k) z = rw k (stepped_refused q (sym z ∙ i))
  determined_no {r} (emits i w k) z = absurd (refusal_positive r (sym z ∙ i))

  pub determined_yes : {after : List ℕ} {answer : StepAnswer} → Determines n p s a → n ≡ 0
      → ((e : Event) → Plans s p e → Stepped (limited_by record_limit false (gives e)) before answer after) → Stepped a before answer after
  determined_yes (refuses q i k) z f = absurd (number_positive q (sym i ∙ z))
  determined_yes (emits {e} i w k) z f = rw k (f e w)

pub determined_within : {n : ℕ} {p : Plan} {s : List ℕ} {a : StepOutcome} → Determines n p s a → n ≡ 0 → PlanInside p s
determined_within (refuses q i k) z = absurd (number_positive q (sym i ∙ z))
determined_within (emits i w k) z = w.within

-- the gate says yes
pub gate_passed : (program s : List ℕ) {room : ℕ} → gate_number program s room ≡ 0 → BothPassed program s × (32768 ≤ room)
gate_passed program s {room} h = gate_open program s room (sym h) refl

-- the gate says no
pub gate_refused : (d : Direction) (program s out : List ℕ) {outcome : Result (Unit {0}) Refusal} {r : Refusal}
    → outcome ≡ told (gate (read_program program) (read_event s) (length out)) → outcome ≡ Err r → Replied (step_record layers d program s out) (refusal_number r) out
unfolding step_record step_answer through reply_with
gate_refused d program s out is z =
    let w = told_refuses (gate (read_program program) (read_event s) (length out)) is z in
    rw w.1 (record { number_is = ap refusal_number (sym w.2) ∙ refusal_same w.0; output_is = refl })

-- a step inside is the service's, once the gate said yes
pub stepped_replied : (d : Direction) (program s : List ℕ) {out after : List ℕ} {answer : StepAnswer} (w : BothPassed program s) → 32768 ≤ length out
    → Stepped (step (machine layers w.definitions) d w.event) out answer after → Replied (step_record layers d program s out) (outcome_number answer) after
unfolding step_record step_answer through
stepped_replied d program s w h m = rw (gate_both (read_program program) (read_event s) w.program_reads w.reads h) (record { number_is = m.number_is; output_is = m.output_is })

-- an accepted event is a record
pub event_short : (s : List ℕ) → Known s → {e : Event} → read_event s ≡ tree e → length s ≤ 32768
event_short s known {e} h = (event_tree s (bytes_all s known) e h).short

pub event_limited : (s : List ℕ) → Known s → (e : Event) → read_event s ≡ tree e → record_limit e ≡ none
event_limited s known e h = (read_recordable layers lawful s (bytes_all s known) e h).1
