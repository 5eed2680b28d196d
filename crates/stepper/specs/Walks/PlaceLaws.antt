-- Laws of places in a walk. An event stands in one place; the event in front of a reached one is the source that its rule names, read back; and a walk
-- that comes later to some event goes on from each one before it.
use Rattle.std.specs.Prelude.{◌≡◌, refl}
use Rattle.std.proofs.Common.{sym, ◌∙◌, ap, subst, arith}
use Prim.Native.Nat.{ℕ, zero, suc, ◌-◌, ◌<◌}
use Rattle.records.specs.Format.Syntax.{Goal, Event}
use Rattle.stepper.specs.Rules.AnswerLaws.{accepted_gives, gives_accepted}
use Rattle.stepper.specs.Rules.ListedLaws.{forward_by_rule}
use Rattle.stepper.specs.Rules.Machine.{Machine, gives}
use Rattle.stepper.specs.Rules.Rules.{candidate, step, step_forward, first_event}
use Rattle.stepper.specs.Walks.Inverse.{rule_good}
use Rattle.stepper.specs.Walks.Reached.{Reached}
use Rattle.stepper.specs.Walks.ReachedLaws.{Anything, first_injective, unlimited, unlimited_undone, unlimited_no_before, reached_legal, one_event}
use Rattle.stepper.specs.Walks.Walk.{Reach}
use Rattle.stepper.specs.Walks.WalkLaws.{reach_unique}

module _ (M : Machine) (q : Goal) where
  -- the step in front of a reached event
  stepped : (n : ℕ) (e : Event) → Reached M q (suc n) e → (d : Event) × Reached M q n d × (step_forward M d ≡ gives e)
  unfolding Reach step
  stepped n e (d, h, k) = (d, h, accepted_gives _ e k)

  -- The event in front of a reached one is its source.
  pub reached_from : (n : ℕ) (e : Event) → Reached M q (suc n) e → (d : Event) × Reached M q n d × (candidate M e ≡ gives d)
  reached_from n e h =
      let (d, k, r) = stepped n e h in
      (d, k, (rule_good M q Anything d e (reached_legal M q Anything n d (λ c i. tt) k) tt (forward_by_rule M d e r)).1)

  -- what the limits admit is reached without them too
  reached_unlimited : (n : ℕ) (e : Event) → Reached M q n e → Reach first_event (unlimited M) q n e
  unfolding Reach unlimited
  reached_unlimited zero e h = h
  reached_unlimited (suc n) e h =
      let (d, k, r) = stepped n e h in
      (d, reached_unlimited n d k, gives_accepted _ e (forward_by_rule M d e r))

  -- An event stands in one place.
  pub one_place : (i j : ℕ) (e : Event) → Reached M q i e → Reached M q j e → i ≡ j
  one_place i j e h k =
      (reach_unique first_event (unlimited M) (λ q. Unit {0}) first_injective (unlimited_no_before M) (unlimited_undone M)
      i j q q e tt tt (reached_unlimited i e h) (reached_unlimited j e k)).1

  -- A walk that comes later to some event goes on from each one before it.
  pub goes_on : (n : ℕ) (last : Event) → Reached M q n last → (i : ℕ) (e : Event) → i < n → Reached M q i e
      → (d : Event) × Reached M q (suc i) d × (step_forward M e ≡ gives d)
  goes_on zero last h i e l k = absurd (omega arith)
  goes_on (suc n) last h i e l k = let (d, r, by) = stepped n last h in go d r by (n - i) refl (goes_on n d r i e)
    where
      go : (d : Event) → Reached M q n d → step_forward M d ≡ gives last → (m : ℕ) → n - i ≡ m
          → (i < n → Reached M q i e → (d : Event) × Reached M q (suc i) d × (step_forward M e ≡ gives d))
          → (d : Event) × Reached M q (suc i) d × (step_forward M e ≡ gives d)
      go d r by zero z f =
          let same : n ≡ i = omega arith in
          let here : d ≡ e = one_event M q i d e (subst (λ x. Reached M q x d) same r) k in
          (last, subst (λ x. Reached M q (suc x) last) same h, ap (step_forward M) (sym here) ∙ by)
      go d r by (suc m) z f = f (omega arith) k
