-- Lists of steps on events, and the events that they reach (SPECIFICATION 9.1, 9.2).
use Rattle.std.specs.Prelude.{List, ℕ, ◌<◌}
use Rattle.std.proofs.Math.Option.{Option}
use Rattle.records.specs.Format.Syntax.{Goal, Event}
use Rattle.stepper.specs.Rules.Machine.{Machine, Admits}
use Rattle.stepper.specs.Rules.Rules.{step, first_event, accepted, Lent, attempt}
use Rattle.stepper.specs.Walks.Walk.{Direction, Tally, walk, Reach}

module _ (M : Machine) where
  -- the event of a step, if it is accepted
  abbrev pub accepted_step : Direction → Event → Option Event
  accepted_step d e = accepted (step M d e)

  -- the event of a step that is lent an output, if it is accepted
  abbrev pub attempted : Lent → Event → Option Event
  attempted l e = accepted (attempt M l e)

  -- a list of steps from the query's first event, each with its direction and the output that it is lent: where the list ends, and how many
  -- were accepted
  abbrev pub steps : {Move : Type 0} → (Move → Lent) → Goal → List Move → Tally Event
  steps lent q = walk (λ m. (lent m).direction) (λ m. attempted (lent m)) (first_event q)

  -- the query's first event is admitted
  abbrev pub Fit : Goal → Type 0
  Fit q = Admits M (first_event q)

  -- the event after n accepted steps forward from the query's first event
  abbrev pub Reached : Goal → ℕ → Event → Type 0
  Reached = Reach first_event accepted_step

  -- the walk comes to the event in fewer than n steps forward
  abbrev pub Before : Goal → ℕ → Event → Type 0
  Before q n e = (i : ℕ) × (i < n) × Reached q i e
