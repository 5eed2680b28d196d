-- What the demands on lists of steps rest on: reached events are legal, so each step forward on the way is undone by the step back; that holds whatever
-- questions 5 and 10 refuse, since it holds of the rules without them. And what stands before a reached event: the call of a fail, the exit of a redo
-- (SPECIFICATION 9.9).
use Rattle.std.specs.Prelude.{◌≡◌, ◌⊎◌, List}
use Rattle.std.proofs.Math.Path.{refl, ap, subst}
use Rattle.std.proofs.Common.{◌∙◌, inl, inr, arith}
use Rattle.std.proofs.Math.Option.{Option, none, some}
use Prim.Native.Nat.{ℕ, zero, suc, ◌<◌, ◌≤◌}
use Rattle.records.specs.Format.Syntax.{Goal, Ancestor, Bet, Port, call, exit, fail, redo, Event, event}
use Rattle.records.specs.Gate.DoorLaws.{room_enough, room_gives}
use Rattle.stepper.specs.Rules.Machine.{Machine, Admits, LimitLaws, StepOutcome, refused, gives, answer?}
use Rattle.stepper.specs.Rules.Rules.{matching, rule, candidate, ununifiable, step_forward, checked, step_back, step, first_event, accepted, Lent, attempt}
use Rattle.stepper.specs.Walks.Walk.{Direction, forward, back, Reach}
use Rattle.stepper.specs.Rules.AnswerLaws.{matching_yes, matching_gives, fitting_gives, accepted_gives, gives_accepted}
use Rattle.stepper.specs.Rules.Listed.{Rule}
use Rattle.stepper.specs.Rules.ListedLaws.{forward_by_rule, forward_listed}
use Rattle.stepper.specs.Walks.WalkLaws.{reach_same}
use Rattle.stepper.specs.Walks.Legal.{Legal}
use Rattle.stepper.specs.Walks.Inverse.{rule_good}
use Rattle.stepper.specs.Rules.AdmittedLaws.{step_admitted}
use Rattle.stepper.specs.Walks.Reached.{accepted_step, attempted, Fit, Reached, Before}

-- nothing is known of the events passed on the way
abbrev pub Anything : Event → Type 0
Anything e = Unit {0}

-- a query is the goal of its first event
pub first_injective : (p q : Goal) → first_event p ≡ first_event q → p ≡ q
unfolding first_event
first_injective p q h = cc

module _ (M : Machine) where
  -- the rules read either way, with no limit on the result
  unfoldable pub unlimited_check : Event → StepOutcome → StepOutcome
  unlimited_check e (refused q) = refused q
  unlimited_check e (gives c) = matching (answer? (rule M c) (gives e)) c

  unfoldable pub unlimited : Direction → Event → Option Event
  unfolding unlimited_check
  unlimited forward e = accepted (rule M e)
  unlimited back e = accepted (unlimited_check e (candidate M e))

  -- its steps forward go by the rules
  unlimited_rule : (d e : Event) → unlimited forward d ≡ some e → rule M d ≡ gives e
  unfolding unlimited
  unlimited_rule d e h = accepted_gives (rule M d) e h

  -- What accepted steps reach is legal, where each goes by a rule; Seen is what is known of the events passed on the way.
  ruled_legal : (taken : Direction → Event → Option Event) → ((d e : Event) → taken forward d ≡ some e → rule M d ≡ gives e)
      → (q : Goal) (Seen : Event → Type 0) (n : ℕ) (e : Event) → ((i : ℕ) (d : Event) → i < n → Reach first_event taken q i d → Seen d)
      → Reach first_event taken q n e → Legal M q Seen e
  unfolding Reach first_event
  ruled_legal taken by_rule q Seen zero e before h = subst (Legal M q Seen) h (refl, refl)
  ruled_legal taken by_rule q Seen (suc n) e before h =
      let d = h.0 in
      let legal = ruled_legal taken by_rule q Seen n d (λ i c l. before i c (omega arith)) h.1 in
      (rule_good M q Seen d e legal (before n d (omega arith) h.1) (by_rule d e h.2)).0

  -- the step back undoes the step forward
  pub unlimited_undone : (q : Goal) (n : ℕ) (d e : Event) → Unit {0} → Reach first_event unlimited q n d
      → unlimited forward d ≡ some e → unlimited back e ≡ some d
  unfolding unlimited unlimited_check
  unlimited_undone q n d e f r h =
      let legal = ruled_legal unlimited unlimited_rule q Anything n d (λ i c l k. tt) r in
      ap (λ a. accepted (unlimited_check e a)) (rule_good M q Anything d e legal tt (unlimited_rule d e h)).1
      ∙ gives_accepted _ d (matching_yes (answer? (rule M d) (gives e)) d (accepted_gives (rule M d) e h))

  pub unlimited_no_before : (q : Goal) → unlimited back (first_event q) ≡ none
  unfolding unlimited first_event candidate accepted
  unlimited_no_before q = refl

  -- an accepted step is one of the rules', read in its direction
  step_unlimited : (s : Direction) (d e : Event) → step M s d ≡ gives e → unlimited s d ≡ some e
  unfolding step unlimited step_back checked unlimited_check
  step_unlimited forward d e h = gives_accepted (rule M d) e (forward_by_rule M d e h)
  step_unlimited back d e h = gives_accepted _ e (go (candidate M d) h)
    where
      go : (a : StepOutcome) → checked M d a ≡ gives e → unlimited_check d a ≡ gives e
      go (refused q) k = k
      go (gives c) k =
          let r = matching_gives (answer? (step_forward M c) (gives d)) c e (fitting_gives (ununifiable M c) (M.candidate_limit c) _ e k) in
          matching_yes (answer? (rule M c) (gives d)) c (forward_by_rule M c d r.0) ∙ ap gives r.1

  pub attempt_steps : (l : Lent) (d e : Event) → attempt M l d ≡ gives e → step M l.direction d ≡ gives e
  unfolding attempt
  attempt_steps l d e h = (room_gives l.room (step M l.direction d) h).1

  -- question 5 says yes to an output of 32,768 bytes or more
  pub steps_attempt : (l : Lent) (d : Event) → 32768 ≤ l.room → attempt M l d ≡ step M l.direction d
  unfolding attempt
  steps_attempt l d n = room_enough (step M l.direction d) n

  pub attempt_unlimited : (l : Lent) (d e : Event) → attempted M l d ≡ some e → unlimited l.direction d ≡ some e
  attempt_unlimited l d e h = step_unlimited l.direction d e (attempt_steps l d e (accepted_gives (attempt M l d) e h))

  -- Reached events are legal, whatever Seen is known of those before them,
  pub reached_legal : (q : Goal) (Seen : Event → Type 0) (n : ℕ) (e : Event) → ((d : Event) → Before M q n d → Seen d) → Reached M q n e → Legal M q Seen e
  unfolding step
  reached_legal q Seen n e before =
      ruled_legal (accepted_step M) (λ d e h. forward_by_rule M d e (accepted_gives _ e h)) q Seen n e (λ i d l h. before d (i, l, h))

  -- and they are admitted
  pub reached_admitted : LimitLaws M → (q : Goal) (n : ℕ) (e : Event) → Fit M q → Reached M q n e → Admits M e
  unfolding Reach
  reached_admitted i q zero e f h = subst (Admits M) h f
  reached_admitted i q (suc n) e f h = step_admitted M i forward h.0 e (reached_admitted i q n h.0 f h.1) (accepted_gives _ e h.2)

  -- One event is n steps from the first,
  pub one_event : (q : Goal) (n : ℕ) (d e : Event) → Reached M q n d → Reached M q n e → d ≡ e
  one_event q n = reach_same first_event (accepted_step M) n q

  -- and a rule leads to it from the one before.
  pub reached_by_rule : (q : Goal) (n : ℕ) (e : Event) → Reached M q (suc n) e → (d : Event) × Reached M q n d × Rule M d e
  unfolding Reach step
  reached_by_rule q n e h = (h.0, h.1, forward_listed M h.0 e (accepted_gives _ e h.2))

  module _ (q : Goal) (n : ℕ) where
    legal_by_before : (e : Event) → Reached M q n e → Legal M q (Before M q n) e
    legal_by_before e = reached_legal q (Before M q n) n e (λ d h. h)

    -- A fail has its call before it, with the same ancestors and bets,
    pub fail_has_call : (g : Goal) (u : List Ancestor) (s : List Bet) → Reached M q n (event fail g u s) → Before M q n (event call g u s)
    fail_has_call g u s h = (legal_by_before (event fail g u s) h).1

    -- a redo its exit,
    pub redo_has_exit : (g : Goal) (u : List Ancestor) (s : List Bet) → Reached M q n (event redo g u s) → Before M q n (event exit g u s)
    redo_has_exit g u s h = (legal_by_before (event redo g u s) h).4

    -- and every event is a call, or has a call of its goal with its ancestors before it.
    pub has_call : (p : Port) (g : Goal) (u : List Ancestor) (s : List Bet) → Reached M q n (event p g u s)
        → (p ≡ call) ⊎ ((r : List Bet) × Before M q n (event call g u r))
    has_call call g u s h = inl refl
    has_call exit g u s h = let c = legal_by_before (event exit g u s) h in inr (c.0, c.2)
    has_call fail g u s h = inr (s, fail_has_call g u s h)
    has_call redo g u s h = let c = legal_by_before (event redo g u s) h in inr (c.0, c.2)
