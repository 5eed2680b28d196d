-- The service of the greatest variable (SPECIFICATION 8.11): questions 11 to 14, put to the event, and then the part and the variable. A refusal tells neither.
use Rattle.std.specs.Prelude.{List, ℕ, Option, Some, None, Result, Ok, Err}
use Rattle.records.specs.Format.Syntax.{Event}
use Rattle.records.specs.Format.Syntax.Event.{event}
use Rattle.records.specs.Gate.Gate.{read_event}
use Rattle.records.specs.Gate.Question.{question_number, refusal_number}
use Rattle.records.specs.declared.questions.Refusal.{Refusal}
use Rattle.records.specs.Gate.Reply.{through}
use Rattle.records.specs.Gate.Door.{event_door}
use Rattle.terms.specs.Body.Greatest.{greatest_variable}
use Rattle.terms.specs.declared.greatest.Greatest.{Greatest}
use Rattle.terms.specs.declared.greatest.Part.{Part}
use Rattle.terms.specs.declared.greatest.Part.TheVariants.{Bets as InBets, Goal as InGoal, Ancestors as InAncestors}

-- a number, 0 if it is done, and beside it the part and the variable
pub record GreatestReply : Type 0 where
  pub number : ℕ
  pub part : ℕ
  pub variable : ℕ

abbrev pub part_number : Part → ℕ
part_number InBets = 1
part_number InGoal = 2
part_number InAncestors = 3

-- what is told of each answer: done, the number of the part, and the variable beside it
abbrev pub greatest_told : Option Greatest → GreatestReply
greatest_told None = record { number = 0; part = 0; variable = 0 }
greatest_told (Some g) = record { number = 0; part = part_number g.part; variable = g.variable }

-- what code answers
abbrev pub part_reply : Result (Option Greatest) Refusal → GreatestReply
part_reply (Ok g) = greatest_told g
part_reply (Err r) = record { number = refusal_number r; part = 0; variable = 0 }

-- an event's
abbrev pub greatest_in : Event → Option Greatest
greatest_in (event p g ancestors bets) = greatest_variable g ancestors bets

-- the reply for the bytes of an event's record, or for any others
unfoldable pub greatest_record : List ℕ → GreatestReply
unfolding through event_door question_number
greatest_record s =
    through (λ q. record { number = question_number q; part = 0; variable = 0 }) (event_door (read_event s)) (λ e. greatest_told (greatest_in e))
