-- What is left of a text after some of its pages, and what a page gives of it.
use Rattle.std.specs.Prelude.{◌≡◌, Bool, true, false, List, [], ◌∷◌, ◌++◌, ℕ, suc, ◌-◌, ◌≤◌, ◌<◌, min, length, take, None, Result, Ok, Err}
use Rattle.records.specs.Gate.Question.{refusal_number}
use Rattle.records.specs.Gate.Reply.{through}
use Rattle.records.specs.Gate.Door.{door}
use Rattle.records.specs.Gate.Gate.{read_program, read_event}
use Rattle.records.specs.Writing.Patched.{Put}
use Rattle.records.specs.declared.questions.Refusal.{Refusal}
use Rattle.stepper.specs.Services.Services.{machine}
use Rattle.stepper.specs.Services.Desk.{layers}
use Rattle.walk_text.specs.Line.{stop_bytes}
use Rattle.walk_text.specs.Text.{step_limit, rest_of_text, refused_text, text}
use Rattle.stepper.specs.declared.run.RunOrder.{RunOrder}
use Rattle.stepper.specs.declared.run.RunStop.{RunStop}
use Rattle.stepper.specs.declared.run.RunStop.TheVariants.{Spent, Met, Full, Refused}
use Rattle.walk_text.specs.declared.text.Stand.{Stand}
use Rattle.walk_text.specs.declared.text.Rest.{Rest}
use Rattle.walk_text.specs.declared.text.Rest.TheVariants.{Start, Walking, Done}
use Rattle.walk_text.specs.declared.text.Page.{Page}

-- is nothing left?
abbrev pub done : Rest → Bool
done Start = false
done (Walking s) = false
done Done = true

-- the record of the event at which a walk stands, whose line is printed, and the steps made until there
abbrev pub present : Stand → List ℕ
present s = take (min s.length 32768) s.event

abbrev pub steps_made : Stand → ℕ
steps_made s = min s.step step_limit

-- what follows the line of that event. A record that no page left there is refused by its number
unfoldable pub lines_left : (program : List ℕ) → Stand → List ℕ
lines_left program s =
    through refused_text (door (read_program program) (read_event (present s))) (λ t. rest_of_text (machine layers t.program) (steps_made s) t.event)

-- what is left of the text of a program slice and a query slice
unfoldable pub left_text : (program query : List ℕ) → Rest → List ℕ
left_text program query Start = text program query
left_text program query (Walking s) = lines_left program s
left_text program query Done = []

-- no more pages than these are left
abbrev pub pages_left : Rest → ℕ
pages_left Start = suc step_limit
pages_left (Walking s) = suc (step_limit - steps_made s)
pages_left Done = 0

-- a page, from a place on, of a text of at most so many pages: the bytes put there are the text's front, what they leave of it is left, and pages
-- grow fewer
pub record PageOf (program query whole : List ℕ) (most : ℕ) (before : List ℕ) (at : ℕ) (r : Page) (after : List ℕ) : Type 0 where
  pub bytes : List ℕ
  pub put : Put before at bytes after r.used
  pub inside : r.used ≤ length after
  pub text_is : whole ≡ bytes ++ left_text program query r.rest
  pub fewer : 0 < most → pages_left r.rest < most

-- a page from the front on, or the question that refuses the records: the text is its stop line then, and nothing is put
abbrev pub PageOrRefusal : (program query whole : List ℕ) (most : ℕ) (before : List ℕ) → Result Page Refusal → (after : List ℕ) → Type 0
PageOrRefusal program query whole most before (Ok page) after = PageOf program query whole most before 0 page after
PageOrRefusal program query whole most before (Err refusal) after = (whole ≡ stop_bytes (refusal_number refusal)) × (after ≡ before)

-- the next page of what is left
abbrev pub Paged : (program query : List ℕ) → Rest → (before : List ℕ) → Page → (after : List ℕ) → Type 0
Paged program query rest before = PageOf program query (left_text program query rest) (pages_left rest) before 0

-- the order of a walk's run: forward, no aim, and a log
abbrev pub walk_order : RunOrder
walk_order = record { back = false; aim = None; logged = true }

-- did a run stop because its log is full?
abbrev pub full_case : RunStop → Bool
full_case Spent = false
full_case Met = false
full_case Full = true
full_case (Refused r) = false

-- the line of every query's first event: "0 call 0 0"
abbrev pub first_line : List ℕ
first_line = 0x30 ∷ 0x20 ∷ 0x63 ∷ 0x61 ∷ 0x6C ∷ 0x6C ∷ 0x20 ∷ 0x30 ∷ 0x20 ∷ 0x30 ∷ 0x0A ∷ []
