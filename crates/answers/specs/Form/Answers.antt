-- Every answer of a query Q (SPECIFICATION 8.12): the walk of 'Q, fail' from its first event, an answer at each exit of Q whose only ancestor is
-- 1/Q,fail, and as many of the answers as are given and fit. Choices: the walk is the list of its events, so that an answer is told by its event
-- alone; what stops the list is the answer that is refused, or the run of as many steps.
use Rattle.std.specs.Prelude.{List, [], ◌∷◌, ◌++◌, ℕ, zero, suc, ◌-◌, length}
use Rattle.std.proofs.Math.Logic.{ite}
use Rattle.std.proofs.Math.Option.{Option, none, some}
use Rattle.records.specs.Format.Syntax.{Goal, failure, conj, first, in_conj, Bet, exit, Event, event, event?}
use Rattle.records.specs.Gate.Question.{question_number}
use Rattle.records.specs.Gate.Reply.{Answer, through}
use Rattle.terms.specs.Values.ValueService.{bets_of}
use Rattle.stepper.specs.Rules.Machine.{Machine}
use Rattle.stepper.specs.Rules.Rules.{step_forward, first_event}
use Rattle.stepper.specs.Walks.Walk.{forward}
use Rattle.stepper.specs.Run.Run.{plain, run, stop_number}
use Rattle.answers.specs.Form.Answer.{solution_for, solution, solution_into}

-- 'Q, fail'
abbrev pub all_of : Goal → Goal
all_of q = conj q failure

-- the exit of Q with the bets s whose only ancestor is 1/Q,fail
abbrev pub exit_of : Goal → List Bet → Event
exit_of q s = event exit q (in_conj first q failure ∷ []) s

-- the bets of an event that is such an exit
unfoldable pub exit_bets : Goal → Event → Option (List Bet)
unfolding event?
exit_bets q e = ite (event? e (exit_of q (bets_of e))) (some (bets_of e)) none

-- the events of a walk behind e, of at most n steps forward
unfoldable pub events : Machine → ℕ → Event → List Event
unfolding through step_forward
events M zero e = []
events M (suc n) e = through (λ k. []) (step_forward M e) (λ c. c ∷ events M n c)

-- 0, or the number of the question that stops it
unfoldable pub events_number : Machine → ℕ → Event → ℕ
unfolding run stop_number
events_number M n e = stop_number (run M (plain forward) n e).why

-- what is written: the bytes of the answers, the steps made, and a number
pub record Written : Type 0 where
  pub bytes : List ℕ
  pub taken : ℕ
  pub number : ℕ

-- nothing more, with this number
abbrev pub no_more : ℕ → Written
no_more n = record { bytes = []; taken = 0; number = n }

-- a step more in front
abbrev pub a_step : Written → Written
a_step w = record { bytes = w.bytes; taken = suc w.taken; number = w.number }

-- an answer's bytes in front
abbrev pub an_answer : List ℕ → Written → Written
an_answer b w = record { bytes = b ++ w.bytes; taken = w.taken; number = w.number }

-- an answer that is put to so much room: its bytes and what follows in the room behind it, or, where it is refused, nothing and its number
unfoldable pub settled : (room : ℕ) → Answer (List ℕ) → (ℕ → Written) → Written
unfolding through question_number
settled room a rest = through (λ k. no_more (question_number k)) a (λ b. an_answer b (rest (room - length b)))

-- what is written from an event on, with so much room left: where it is an exit of Q, its answer; an answer that is refused ends it
unfoldable pub from_event : Goal → (room : ℕ) → Option (List Bet) → (ℕ → Written) → Written
unfolding settled solution_for solution_into
from_event q room none rest = rest room
from_event q room (some s) rest = settled room (solution_into room (solution q s)) rest

-- what is written of the events of a walk that ends with the number n
unfoldable pub written : Goal → (room : ℕ) → List Event → (n : ℕ) → Written
unfolding exit_bets from_event
written q room [] n = no_more n
written q room (e ∷ es) n = a_step (from_event q room (exit_bets q e) (λ r. written q r es n))

-- the answers of Q within n steps of the walk of 'Q, fail', from an event of it on
unfoldable pub answers_from : Machine → Goal → (n room : ℕ) → Event → Written
unfolding written events events_number
answers_from M q n room e = written q room (events M n e) (events_number M n e)

-- and from its first event on
abbrev pub answers : Machine → Goal → (n room : ℕ) → Written
answers M q n room = answers_from M q n room (first_event (all_of q))
