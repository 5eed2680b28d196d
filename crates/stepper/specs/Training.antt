-- What training material says of walks (SPECIFICATION 9.9), of the desk's services on bytes: every fail has its call, every redo its exit, and all events
-- are about the query. `Program`, `Start`, `Move` and `served` are those of `Demands`: ms is any list of steps, forward and back, accepted or refused,
-- under the program c from q's first event, and `served` has the record at which it ends and how many steps either way were accepted. The record of an
-- event reads as that event, and each list ends at one (`demand_3`). `AtEnd e` says that e is final: exit or fail without ancestors, so that question 6
-- refuses a step forward. `ancestor_goal a` is the ancestor a without its tag. `TrainingExample` has a walk.
use Rattle.std.specs.Prelude.{◌≡◌, List, [], ◌∷◌, ◌++◌, ℕ, ◌+◌, ◌<◌, ◌≤◌, length, replicate}
use Rattle.std.proofs.Common.{arith}
use Rattle.records.specs.Format.Syntax.{Goal, Ancestor, Bet, Port, call, exit, fail, redo, Event, event}
use Rattle.records.specs.Format.Encode.{event_record}
use Rattle.records.specs.Gate.Gate.{tree, read_event}
use Rattle.stepper.specs.Rules.Refusals.{AtEnd}
use Rattle.stepper.specs.Walks.Reached.{Before}
use Rattle.stepper.specs.Walks.ReachedLaws.{fail_has_call, redo_has_exit}
use Rattle.stepper.specs.Walks.Crossing.{ancestor_goal}
use Rattle.stepper.specs.Walks.InsideLaws.{final_goal, inside_query}
use Rattle.stepper.specs.Walks.ByteDemands.{read_reached, reached_served}
use Rattle.stepper.specs.Services.Services.{Program, rules_of, Start, Move, forward_into, served}
use Rattle.stepper.specs.Services.Desk.{layers}
use Rattle.stepper.specs.Services.DeskLaws.{lawful}

module _ (c : Program layers) (q : Start layers) (ms : List Move) where
  -- the list of steps ms ends at the event e
  abbrev pub EndsAt : Event → Type 0
  EndsAt e = read_event (served c q ms).event ≡ tree e

  -- The event e is earlier in the walk: k steps forward from q's first event, k less than the net number of ms, are all accepted and end at the record
  -- of e, where each is lent the same buffer, whichever it is of 32,768 bytes or more.
  abbrev pub Earlier : Event → Type 0
  Earlier e = (k : ℕ) × (k + (served c q ms).backs < (served c q ms).forwards)
      × ((out : List ℕ) → 32768 ≤ length out
      → served c q (replicate k (forward_into out)) ≡ record { event = event_record e; forwards = k; backs = 0 })

  earlier : (e : Event) (n : ℕ) → n + (served c q ms).backs ≡ (served c q ms).forwards → Before (rules_of c) q.goal n e → Earlier e
  earlier e n z (k, l, r) = (k, omega arith, reached_served layers lawful c q k e r)

  module _ (g : Goal) (u : List Ancestor) (s : List Bet) where
    -- Where the list ends at fail G, a call of the same G with the same ancestors and bets is earlier in the walk.
    pub every_fail_has_its_call : EndsAt (event fail g u s) → Earlier (event call g u s)
    every_fail_has_its_call h = let (n, r, z) = read_reached layers lawful c q ms _ h in earlier _ n z (fail_has_call (rules_of c) q.goal n g u s r)

    -- Where it ends at redo G, an exit of the same G with the same ancestors and bets is earlier in the walk.
    pub every_redo_has_its_exit : EndsAt (event redo g u s) → Earlier (event exit g u s)
    every_redo_has_its_exit h = let (n, r, z) = read_reached layers lawful c q ms _ h in earlier _ n z (redo_has_exit (rules_of c) q.goal n g u s r)

  module _ (p : Port) (g : Goal) (u : List Ancestor) (s : List Bet) (h : EndsAt (event p g u s)) where
    -- The goal of a final event is the query.
    pub final_goal_is_query : AtEnd (event p g u s) → g ≡ q.goal
    final_goal_is_query = let (n, r, _) = read_reached layers lawful c q ms _ h in final_goal (rules_of c) q.goal n p g u s r

    -- Any other event after the first has ancestors, and the bottom one, without its tag, is the query.
    pub bottom_ancestor_is_query : (served c q ms).backs < (served c q ms).forwards → (AtEnd (event p g u s) → ⊥)
        → (w : List Ancestor) × (a : Ancestor) × (u ≡ w ++ (a ∷ [])) × (ancestor_goal a ≡ q.goal)
    bottom_ancestor_is_query after_first = let (n, r, z) = read_reached layers lawful c q ms _ h in inside_query (rules_of c) q.goal n _ (omega arith) r
