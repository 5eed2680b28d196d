-- The service of the answers on bytes (SPECIFICATION 8.12): 1 to 4 of the program, 11 to 13 of the query, 5, and 10 of the first event of 'Q, fail'; then
-- the answers, which are written also where something stops the list.
use Rattle.std.specs.Prelude.{◌≡◌, false, List, ℕ, length}
use Rattle.records.specs.Format.Syntax.{Goal, Event}
use Rattle.records.specs.Gate.Question.{question_number}
use Rattle.records.specs.Gate.Reply.{Answer, through, reply_with}
use Rattle.records.specs.Gate.Door.{Trees, gate}
use Rattle.records.specs.Gate.Gate.{Reading}
use Rattle.stepper.specs.Rules.Machine.{refused, gives}
use Rattle.stepper.specs.Rules.Rules.{first_event, limited_by}
use Rattle.stepper.specs.Services.Layers.{Layers}
use Rattle.stepper.specs.Services.Services.{record_limit, machine}
use Rattle.answers.specs.Form.Answers.{all_of, Written, answers_from, answers}

-- question 10 of an event
unfoldable pub fitting_event : Event → Answer Event
unfolding limited_by record_limit
fitting_event e = limited_by record_limit false (gives e)

-- 1 to 4 of the program, 11 to 13 of the query, 5 of an output of `room` bytes, and 10 of the first event of 'Q, fail'
unfoldable pub begin_answer : {A : Type 0} → Reading A → Reading Goal → (room : ℕ) → Answer (Trees A Goal)
unfolding through gate fitting_event first_event
begin_answer p r room =
    through refused (gate p r room) (λ t. through refused (fitting_event (first_event (all_of t.event))) (λ e. gives t))

unfoldable pub answers_answer : Layers → ℕ → (program query : List ℕ) → (room : ℕ) → Answer Written
unfolding through begin_answer answers_from
answers_answer L n program query room =
    through refused (begin_answer (L.read_program program) (L.read_query query) room) (λ t. gives (answers (machine L t.program) t.event n room))

-- its number, the bytes written, the steps made, and the output afterwards
pub record AnswersReply : Type 0 where
  pub number : ℕ
  pub written : ℕ
  pub taken : ℕ
  pub output : List ℕ

-- what is refused before the walk writes nothing
unfoldable pub answers_reply : List ℕ → Answer Written → AnswersReply
unfolding through question_number reply_with
answers_reply out a = record {
  number = through question_number a (λ w. w.number);
  written = through (λ q. 0) a (λ w. length w.bytes);
  taken = through (λ q. 0) a (λ w. w.taken);
  output = (reply_with (λ w. w.bytes) out a).output;
}

unfoldable pub answers_record : Layers → ℕ → (program query out : List ℕ) → AnswersReply
unfolding answers_reply answers_answer
answers_record L n program query out = answers_reply out (answers_answer L n program query (length out))

-- the contract of the service: what code tells, and the output afterwards, are the reply's
pub record AnswersReplied (r : AnswersReply) (number written taken : ℕ) (after : List ℕ) : Type 0 where
  pub number_is : number ≡ r.number
  pub written_is : written ≡ r.written
  pub taken_is : taken ≡ r.taken
  pub output_is : after ≡ r.output
