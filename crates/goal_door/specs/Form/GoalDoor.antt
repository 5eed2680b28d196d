-- The door of a goal (SPECIFICATION 8.13): from an event e, the nearest event, e itself included, found by steps back, that calls the same goal with the same
-- ancestors. Choices: an end is told as that of a run, which met its aim where it is the door; the limit is asked last, behind the questions of the step
-- back that would be next. (`door` of records, the questions at the entrance of each service, is no matter of this.)
use Rattle.std.specs.Prelude.{Bool, true, false, cond, List, ℕ, zero, suc}
use Rattle.std.proofs.Math.Logic.{ite}
use Rattle.records.specs.Format.Syntax.{Bet, call, Event, event, event?}
use Rattle.records.specs.Gate.Question.{allowed}
use Rattle.records.specs.Gate.Reply.{through}
use Rattle.terms.specs.Values.ValueService.{bets_of}
use Rattle.stepper.specs.Rules.Machine.{Machine}
use Rattle.stepper.specs.Rules.Rules.{step_back}
use Rattle.stepper.specs.Run.Run.{mark, met, by, RunEnd, ended, past}

-- the call of an event's goal with its ancestors, and with the bets s
abbrev pub call_of : Event → List Bet → Event
call_of (event p g u t) s = event call g u s

-- is d a call of the goal of e with the ancestors of e, whatever its bets?
unfoldable pub is_door : (e d : Event) → Bool
unfolding event?
is_door e d = ite (event? d (call_of e (bets_of d))) true false

-- the way back from e stands at d: it ends where d is the door, or where a question of the next step back refuses; where that gives c, this follows
unfoldable pub from_here : Machine → (e d : Event) → (Event → RunEnd) → RunEnd
unfolding is_door through step_back
from_here M e d next = cond (is_door e d) (ended d met) (through (λ q. ended d (by q)) (step_back M d) next)

-- so the way goes on from d, of at most n steps
unfoldable pub way_back : Machine → (e : Event) → (n : ℕ) → (d : Event) → RunEnd
unfolding from_here past mark
way_back M e zero d = from_here M e d (λ c. ended d (by allowed))
way_back M e (suc n) d = from_here M e d (λ c. past (mark c) (way_back M e n c))

-- and from e itself
abbrev pub to_door : Machine → ℕ → Event → RunEnd
to_door M n e = way_back M e n e
