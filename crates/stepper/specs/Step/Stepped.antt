-- A step inside a run, and the gate before it: what the code of a step answers, where the records are accepted and the output passes question 5.
use Rattle.std.specs.Prelude.{◌≡◌, false, List, ℕ, Result, Ok, Err}
use Rattle.records.specs.Format.Syntax.{Event}
use Rattle.records.specs.Format.Encode.{event_record}
use Rattle.records.specs.Gate.Question.{Question, question_number}
use Rattle.records.specs.Gate.Reply.{answer_number, answer_length, outcome_number}
use Rattle.records.specs.Gate.Door.{gate}
pub use Rattle.records.specs.Gate.Door.{BothPassed}
use Rattle.records.specs.Gate.Gate.{read_program, read_event}
use Rattle.records.specs.Ends.Places.{part_ends}
use Rattle.records.specs.declared.plan.Plan.{Plan}
use Rattle.records.specs.declared.places.PartEnds.{PartEnds}
use Rattle.records.specs.declared.questions.Refusal.{Refusal}
use Rattle.stepper.specs.declared.emit.Reached.{Reached}
use Rattle.stepper.specs.Rules.Machine.{StepOutcome, refused, gives}
use Rattle.stepper.specs.Rules.Rules.{limited_by}
use Rattle.stepper.specs.Services.Services.{record_limit, reply}
use Rattle.stepper.specs.Plans.Made.{Plans}

-- code tells the record that was written, or the question that refuses
abbrev pub StepAnswer : Type 0
StepAnswer = Result Reached Refusal

-- how long that record is, and where its parts end; a refusal writes nothing
abbrev pub reached_length : StepAnswer → ℕ
reached_length (Ok r) = r.length
reached_length (Err e) = 0

abbrev pub reached_ends : StepAnswer → PartEnds
reached_ends (Ok r) = r.ends
reached_ends (Err e) = record { goal = 0; ancestors = 0 }

-- the number, the length of the record that was written, where its parts end, and the output afterwards are the answer's
pub record Stepped (a : StepOutcome) (before : List ℕ) (answer : StepAnswer) (after : List ℕ) : Type 0 where
  pub number_is : outcome_number answer ≡ (reply before a).number
  pub length_is : reached_length answer ≡ answer_length event_record a
  pub ends_are : (e : Event) → a ≡ gives e → reached_ends answer ≡ part_ends e
  pub output_is : after ≡ (reply before a).output

-- the number of a question and a plan over s determine a step's answer: the question refuses, or the plan's event is given under question 10
pub data Determines (n : ℕ) (p : Plan) (s : List ℕ) (a : StepOutcome) : Type 0 where
  refuses : (q : Question) → n ≡ question_number q → a ≡ refused q → Determines n p s a
  emits : {e : Event} → n ≡ 0 → Plans s p e → a ≡ limited_by record_limit false (gives e) → Determines n p s a

-- 1 to 4 of the program, 11 to 14 of the event, then 5 for an output of `room` bytes; else 0
abbrev pub gate_number : List ℕ → List ℕ → ℕ → ℕ
gate_number program s room = answer_number (gate (read_program program) (read_event s) room)
