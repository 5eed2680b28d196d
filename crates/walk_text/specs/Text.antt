-- What the walk program prints, from bytes to bytes (SPECIFICATION 8.10): a line for each event of at most 100,000 steps, and the stop line; of the two
-- slices that it takes of its input, and of the input itself.
use Rattle.std.specs.Prelude.{List, ◌++◌, ℕ, zero, suc, ◌-◌, length, drop}
use Rattle.records.specs.Format.Syntax.{Event}
use Rattle.records.specs.Gate.Question.{Question, question_number}
use Rattle.records.specs.Gate.Reply.{through}
use Rattle.records.specs.Gate.Door.{program_door}
use Rattle.records.specs.Gate.Gate.{read_program}
use Rattle.stepper.specs.Rules.Machine.{Machine, StepOutcome, refused, gives}
use Rattle.stepper.specs.Rules.Rules.{step_forward}
use Rattle.stepper.specs.Services.Services.{machine, first_answer}
use Rattle.stepper.specs.Services.Desk.{layers}
use Rattle.walk_text.specs.Line.{line_bytes, stop_bytes}
use Rattle.walk_text.specs.Input.{taken}

-- a walk makes at most so many steps
abbrev pub step_limit : ℕ
step_limit = 100000

-- the stop line with the number of the question that refuses a step, or what is printed of the event that the step gives
abbrev pub answer_text : StepOutcome → (Event → List ℕ) → List ℕ
answer_text (refused q) text = stop_bytes (question_number q)
answer_text (gives c) text = text c

-- what follows the line of the event e, at which a walk stands after `step` steps, with at most n steps to go
unfoldable pub after_line : Machine → (n step : ℕ) → Event → List ℕ
unfolding question_number line_bytes stop_bytes step_forward
after_line M zero step e = stop_bytes 0
after_line M (suc n) step e = answer_text (step_forward M e) (λ c. line_bytes (suc step) c ++ after_line M n (suc step) c)

-- the same, with as many steps to go as are left of the limit
abbrev pub rest_of_text : Machine → (step : ℕ) → Event → List ℕ
rest_of_text M step e = after_line M (step_limit - step) step e

-- what is printed from the line of the event e on, at which a walk stands after `step` steps
abbrev pub text_from : Machine → (step : ℕ) → Event → List ℕ
text_from M step e = line_bytes step e ++ rest_of_text M step e

-- the stop line of a record or a first event that a question refuses
abbrev pub refused_text : Question → List ℕ
refused_text q = stop_bytes (question_number q)

-- the text of a program slice and a query slice: the program is questioned first, then the query and its first event, which a record's room is
-- lent for; then the walk from that event
unfoldable pub text : (program query : List ℕ) → List ℕ
text program query =
    through refused_text (program_door (read_program program)) (λ P.
    answer_text (first_answer layers query 32768) (text_from (machine layers P) 0))

-- the text of an input: what is taken of it as the program's record, then as the query's, and nothing behind that
unfoldable pub printed : (input : List ℕ) → List ℕ
printed input = text (taken input) (taken (drop (length (taken input)) input))
