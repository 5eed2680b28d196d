-- From two events of a walk inward: the event behind the first, by its rule, and the one in front of the second, by the rules read back.
use Rattle.std.specs.Prelude.{◌≡◌, refl}
use Rattle.std.proofs.Common.{sym, ◌∙◌, arith}
use Rattle.std.proofs.Math.Path.{subst}
use Prim.Native.Nat.{ℕ, zero, suc, ◌<◌, ◌≤◌}
use Rattle.records.specs.Format.Syntax.{Goal, Event}
use Rattle.records.specs.Gate.ReplyLaws.{gives_injective}
use Rattle.stepper.specs.Rules.ListedLaws.{forward_by_rule}
use Rattle.stepper.specs.Rules.Machine.{Machine, gives}
use Rattle.stepper.specs.Rules.Rules.{rule, candidate, first_event}
use Rattle.stepper.specs.Walks.PlaceLaws.{reached_from, goes_on}
use Rattle.stepper.specs.Walks.Reached.{Reached}
use Rattle.stepper.specs.Walks.ReachedLaws.{one_event}
use Rattle.stepper.specs.Walks.Walk.{Reach}

module _ (M : Machine) (q : Goal) where
  -- behind the event in place i comes `behind`, in front of the one in place n stands `front`, and the one comes before the other
  pub record Inner (i n : ℕ) (behind front : Event) : Type 0 where
    pub place : ℕ
    pub is : n ≡ suc place
    pub behind_at : Reached M q (suc i) behind
    pub front_at : Reached M q place front
    pub apart : suc i < place

  -- two events stand in two places
  before_it : (i n : ℕ) (d e : Event) → Reached M q i d → Reached M q n e → (d ≡ e → ⊥) → i ≤ n → i < n
  before_it i n d e h k o l =
      let other : i ≡ n → ⊥ = λ same. o (one_event M q n d e (subst (λ x. Reached M q x d) same h) k) in
      omega (arith, other)

  -- They do where `behind` is neither the second event nor `front`; and the second event is not the walk's first.
  pub inner : (i n : ℕ) (e d behind front : Event) → Reached M q i e → Reached M q n d → i < n → rule M e ≡ gives behind → candidate M d ≡ gives front
      → (first_event q ≡ d → ⊥) → (behind ≡ d → ⊥) → (behind ≡ front → ⊥) → Inner i n behind front
  unfolding Reach
  inner i zero e d behind front h k l r c not_first one two = absurd (not_first k)
  inner i (suc n) e d behind front h k l r c not_first one two =
      let (b, there, z) = goes_on M q (suc n) d k i e l h in
      let (f, here, y) = reached_from M q n d k in
      let behind_at = subst (Reached M q (suc i)) (gives_injective (sym (forward_by_rule M e b z) ∙ r)) there in
      let front_at = subst (Reached M q n) (gives_injective (sym y ∙ c)) here in
      let before = before_it (suc i) (suc n) behind d behind_at k one l in
      record { place = n; is = refl; behind_at = behind_at; front_at = front_at; apart = before_it (suc i) n behind front behind_at front_at two (omega arith) }
