-- A goal that is called in the middle of a walk, on the ancestors u and the bets s of its call, and its own walk: that of the goal as a query, its unifiers,
-- bodies and limits as they are on u and s.
use Rattle.std.specs.Prelude.{◌≡◌, List, ◌++◌, ℕ}
use Rattle.records.specs.Format.Syntax.{Goal, Ancestor, Bet, Event, event}
use Rattle.stepper.specs.Rules.Machine.{Machine}
use Rattle.stepper.specs.Walks.Reached.{Reached}

module _ (u : List Ancestor) (s : List Bet) where
  -- an event, with u and s below its own stacks
  abbrev pub event_on : Event → Event
  event_on (event p g v t) = event p g (v ++ u) (t ++ s)

  -- the machine that answers as M does on u and s
  abbrev pub machine_on : Machine → Machine
  machine_on M = record {
    unify = λ t. M.unify (t ++ s);
    body = λ p ts v t. M.body p ts (v ++ u) (t ++ s);
    result_limit = λ e. M.result_limit (event_on e);
    candidate_limit = λ e. M.candidate_limit (event_on e);
  }

  -- the event is the k-th of g's own walk, on u and s
  abbrev pub InOwnWalk : Machine → Goal → ℕ → Event → Type 0
  InOwnWalk M g k e = (d : Event) × Reached (machine_on M) g k d × (event_on d ≡ e)
