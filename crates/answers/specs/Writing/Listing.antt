-- The list of answers in code: the run to the next exit, and what holds between two answers. As many as are written stand at the front of the output, the
-- walk of 'Q, fail' stands at an event whose record is at the front of a buffer, and what is still to be written is what is written from there on.
use Rattle.std.specs.Prelude.{◌≡◌, List, ◌++◌, ℕ, ◌+◌, ◌-◌, ◌*◌, ◌≤◌, ◌<◌, length, take, Result, Ok, Err}
use Rattle.std.specs.declared.ops.ControlFlow.{ControlFlow}
use Rattle.std.specs.declared.ops.ControlFlow.TheVariants.{Continue, Break}
use Rattle.records.specs.Format.Syntax.{Goal, Event, Definition}
use Rattle.records.specs.Format.Formed.{All}
use Rattle.records.specs.Gate.Gate.{tree, read_program, read_event}
use Rattle.records.specs.Writing.Patched.{Put}
use Rattle.records.specs.Gate.Reply.{outcome_number}
use Rattle.records.specs.declared.questions.Refusal.{Refusal}
use Rattle.terms.specs.declared.pairs.ListedPair.{ListedPair}
use Rattle.terms.specs.Theory.Outcome.{value_limit}
use Rattle.stepper.specs.Services.Desk.{layers}
use Rattle.stepper.specs.Services.Services.{machine}
use Rattle.stepper.specs.Run.RunLoop.{run_outcome}
use Rattle.stepper.specs.Walks.Reached.{Reached}
use Rattle.stepper.specs.declared.run.RunAnswer.{RunAnswer}
use Rattle.answers.specs.Form.Answer.{query_variables}
use Rattle.answers.specs.Form.Answers.{all_of, Written, answers_from, answers}
use Rattle.answers.specs.declared.service.Listing.{Listing}
use Rattle.answers.specs.declared.service.ListAnswer.{ListAnswer}

-- the list before the first answer
abbrev pub first_listing : ℕ → Listing
first_listing len = record { written = 0; taken = 0; length = len }

-- where the walk stops before another exit, and where it comes to one: the list goes on if the answer there is given
abbrev pub stopped_listing : Listing → RunAnswer → ListAnswer
stopped_listing last r = record { outcome = run_outcome r.stop; written = last.written; taken = last.taken + r.taken }

abbrev pub answered_listing : Listing → RunAnswer → Result ℕ Refusal → ControlFlow ListAnswer Listing
answered_listing last r (Ok n) = Continue (record { written = last.written + n; taken = last.taken + r.taken; length = r.length })
answered_listing last r (Err e) = Break (record { outcome = Err e; written = last.written; taken = last.taken + r.taken })

-- the table and the buffer that an answer needs, for the event in `here`
pub record AnswerTables (here : List ℕ) (listed : List ListedPair) (value : List ℕ) : Type 0 where
  pub room : length here ≡ 32768
  pub entries : 32768 ≤ 5 * length listed
  pub limit : length value ≡ value_limit

-- bytes and steps in front of what is written
abbrev pub behind : List ℕ → ℕ → Written → Written
behind b k w = record { bytes = b ++ w.bytes; taken = w.taken + k; number = w.number }

module _ (program : List ℕ) (ds : List Definition) (q : Goal) (variables : List ℕ) (steps : ℕ) (before : List ℕ) where
  -- the list stands where p tells
  pub record ListStands (p : Listing) (here out : List ℕ) : Type 0 where
    pub program_reads : read_program program ≡ tree ds
    pub variables_are : variables ≡ query_variables q
    pub variables_few : length variables ≤ 65535
    pub variables_small : All (λ v. v < 65536) variables
    pub event : Event
    pub reached : Reached (machine layers ds) (all_of q) p.taken event
    pub reads : read_event (take p.length here) ≡ tree event
    pub inside : p.length ≤ length here
    pub within : p.taken ≤ steps
    pub kept : List ℕ
    pub put : Put before 0 kept out p.written
    pub room : length kept ≤ length before
    pub rest : answers (machine layers ds) q steps (length before)
        ≡ behind kept p.taken (answers_from (machine layers ds) q (steps - p.taken) (length before - length kept) event)

-- the list is written: what is told of it, and the output afterwards
pub record Listed (w : Written) (before : List ℕ) (p : ListAnswer) (out : List ℕ) : Type 0 where
  pub number_is : outcome_number p.outcome ≡ w.number
  pub taken_is : p.taken ≡ w.taken
  pub put : Put before 0 w.bytes out p.written
  pub room : length w.bytes ≤ length before

-- an answer later: the list goes on, at a later event, or it is written
abbrev pub Turned : (program : List ℕ) → List Definition → Goal → (variables : List ℕ) → ℕ → (before : List ℕ) → Listing → ControlFlow ListAnswer Listing → (here out : List ℕ) → Type 0
Turned program ds q variables steps before last (Continue p) here out =
    ListStands program ds q variables steps before p here out × (last.taken < p.taken)
Turned program ds q variables steps before last (Break p) here out = Listed (answers (machine layers ds) q steps (length before)) before p out
