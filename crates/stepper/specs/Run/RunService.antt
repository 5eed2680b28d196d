-- The run service: the run with no aim and no log behind the gate, on bytes (SPECIFICATION 8.5).
use Rattle.std.specs.Prelude.{◌≡◌, List, ℕ, length}
use Rattle.records.specs.Format.Encode.{event_record}
use Rattle.records.specs.Format.Syntax.{Event}
use Rattle.records.specs.Gate.Question.{question_number}
use Rattle.records.specs.Gate.Reply.{Answer, through, reply_with}
use Rattle.records.specs.Gate.Door.{gate}
use Rattle.stepper.specs.Services.Layers.{Layers}
use Rattle.stepper.specs.Rules.Machine.{Machine, refused, gives}
use Rattle.stepper.specs.Services.Services.{machine}
use Rattle.stepper.specs.Walks.Walk.{Direction}
use Rattle.stepper.specs.Run.Run.{plain, RunEnd, run, stop_number}

-- a run's number, the steps taken, and the output afterwards
pub record RunReply : Type 0 where
  pub number : ℕ
  pub taken : ℕ
  pub output : List ℕ

-- what the gate refuses is not begun; a run that was begun leaves the event that it came to, and has the number of what stopped it
unfoldable pub run_reply : List ℕ → Answer RunEnd → RunReply
unfolding through question_number stop_number reply_with
run_reply out a = record {
  number = through question_number a (λ r. stop_number r.why);
  taken = through (λ q. 0) a (λ r. r.taken);
  output = (reply_with (λ r. event_record r.event) out a).output;
}

-- 1 to 4 of the program, 11 to 14 of the event, 5, then what is begun at the event under the program's rules
unfoldable pub gated : Layers → (begun : Machine → Event → RunEnd) → (program s : List ℕ) → (room : ℕ) → Answer RunEnd
unfolding through gate
gated L begun program s room =
    through refused (gate (L.read_program program) (L.read_event s) room) (λ t. gives (begun (machine L t.program) t.event))

-- here the run
unfoldable pub run_answer : Layers → Direction → ℕ → List ℕ → List ℕ → (room : ℕ) → Answer RunEnd
unfolding gated run
run_answer L d n program s room = gated L (λ M. run M (plain d) n) program s room

-- the run service
unfoldable pub run_record : Layers → Direction → ℕ → List ℕ → List ℕ → List ℕ → RunReply
unfolding run_reply run_answer
run_record L d n program s out = run_reply out (run_answer L d n program s (length out))

-- the contract of the run service: the number, the steps taken and the output afterwards are the reply's
pub record RunReplied (r : RunReply) (number taken : ℕ) (after : List ℕ) : Type 0 where
  pub number_is : number ≡ r.number
  pub taken_is : taken ≡ r.taken
  pub output_is : after ≡ r.output
