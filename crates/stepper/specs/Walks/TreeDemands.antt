-- Demand 2's step back and demand 3, on events: for every machine, every list of steps and all refusals.
use Rattle.std.specs.Prelude.{◌≡◌, ◌↔◌, List, ℕ, ◌+◌}
use Rattle.std.proofs.Math.Path.{refl, ap}
use Rattle.records.specs.Format.Syntax.{Goal, Event}
use Rattle.records.specs.Gate.Question.{possible}
use Rattle.stepper.specs.Rules.Machine.{Machine, LimitLaws, refused, gives}
use Rattle.stepper.specs.Rules.Rules.{step_forward, candidate, step_back, step, first_event, accepted, Lent}
use Rattle.stepper.specs.Walks.Walk.{net}
use Rattle.stepper.specs.Walks.WalkLaws.{at_walk, ends_equal}
use Rattle.stepper.specs.Rules.AnswerLaws.{accepted_gives, gives_accepted}
use Rattle.stepper.specs.Walks.Inverse.{forward_back}
use Rattle.stepper.specs.Walks.Reached.{accepted_step, attempted, steps, Fit, Reached}
use Rattle.stepper.specs.Walks.ReachedLaws.{Anything, first_injective, unlimited, unlimited_undone, unlimited_no_before, attempt_unlimited, attempt_steps, reached_legal, reached_admitted}

module _ (M : Machine) where
  -- Demand 3, on events. Two lists of any steps, refused ones among them, end at the same event exactly where their queries and their net numbers
  -- are the same.
  pub same_end_always : {Move : Type 0} (lent : Move → Lent) (p q : Goal) (ms ns : List Move)
      → ((steps M lent p ms).event ≡ (steps M lent q ns).event) ↔ ((p ≡ q) × (net (steps M lent p ms) ≡ net (steps M lent q ns)))
  same_end_always lent p q ms ns =
      ends_equal first_event (unlimited M) (λ q. Unit {0}) first_injective (unlimited_no_before M) (unlimited_undone M)
      (λ m. (lent m).direction) (λ m. attempted M (lent m)) (λ m. attempt_unlimited M (lent m)) p q ms ns tt tt

  -- From a query's first event a step back is refused by question 6.
  pub first_back : (q : Goal) → step_back M (first_event q) ≡ refused possible
  unfolding step_back first_event candidate
  first_back q = refl

  module _ (limits : LimitLaws M) where
    -- Demand 2, on events. A step back undoes an accepted step forward from a reached event.
    pub reached_back : (q : Goal) (n : ℕ) (d e : Event) → Fit M q → Reached M q n d → step_forward M d ≡ gives e → step_back M e ≡ gives d
    reached_back q n d e f r h =
        (forward_back M q Anything limits d e (reached_legal M q Anything n d (λ c h. tt) r) tt (reached_admitted M limits q n d f r) h).1

    -- Every list of steps ends at a reached event, as many steps from the first one as it counts.
    pub steps_reach : {Move : Type 0} (lent : Move → Lent) (q : Goal) (ms : List Move) → Fit M q
        → (n : ℕ) × Reached M q n (steps M lent q ms).event × (n + (steps M lent q ms).backs ≡ (steps M lent q ms).forwards)
    unfolding step accepted
    steps_reach lent q ms f =
        at_walk first_event (accepted_step M) (Fit M) first_injective (λ q. ap accepted (first_back q))
        (λ q n d e f r h. gives_accepted _ d (reached_back q n d e f r (accepted_gives _ e h)))
        (λ m. (lent m).direction) (λ m. attempted M (lent m))
        (λ m d e h. gives_accepted _ e (attempt_steps M (lent m) d e (accepted_gives _ e h))) q ms f
