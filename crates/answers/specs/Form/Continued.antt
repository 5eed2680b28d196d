-- The walk of a query that is asked again at each of its exits, and the bets at those exits.
use Rattle.std.specs.Prelude.{List, [], ◌∷◌, ℕ, zero, suc}
use Rattle.std.proofs.Math.Option.{Option, none, some}
use Rattle.records.specs.Format.Syntax.{Goal, Bet, call, exit, fail, redo, Event, event}
use Rattle.records.specs.Gate.Reply.{through}
use Rattle.stepper.specs.Rules.Machine.{Machine, StepOutcome, gives}
use Rattle.stepper.specs.Rules.Rules.{step_forward}
use Rattle.answers.specs.Form.Answers.{exit_bets}

-- a step forward; from an exit without ancestors, where there is none, the redo of the same goal with the same bets
unfoldable pub step_or_redo : Machine → Event → StepOutcome
unfolding step_forward
step_or_redo M (event call g u s) = step_forward M (event call g u s)
step_or_redo M (event exit g [] s) = gives (event redo g [] s)
step_or_redo M (event exit g (a ∷ u) s) = step_forward M (event exit g (a ∷ u) s)
step_or_redo M (event fail g u s) = step_forward M (event fail g u s)
step_or_redo M (event redo g u s) = step_forward M (event redo g u s)

-- the events behind e, of at most n such steps
unfoldable pub continued : Machine → ℕ → Event → List Event
unfolding through step_or_redo
continued M zero e = []
continued M (suc n) e = through (λ k. []) (step_or_redo M e) (λ c. c ∷ continued M n c)

-- the bets of an exit without ancestors
abbrev pub own_bets : Event → Option (List Bet)
own_bets (event call g u s) = none
own_bets (event exit g [] s) = some s
own_bets (event exit g (a ∷ u) s) = none
own_bets (event fail g u s) = none
own_bets (event redo g u s) = none

-- those of a list of events
abbrev pub with_bets : Option (List Bet) → List (List Bet) → List (List Bet)
with_bets none l = l
with_bets (some s) l = s ∷ l

abbrev pub own_exits : List Event → List (List Bet)
own_exits [] = []
own_exits (e ∷ es) = with_bets (own_bets e) (own_exits es)

-- the bets of the exits at which answers of q are told
abbrev pub answer_exits : Goal → List Event → List (List Bet)
answer_exits q [] = []
answer_exits q (e ∷ es) = with_bets (exit_bets q e) (answer_exits q es)
