-- Where two lists of moves end: at equal events exactly when they started from equal queries and made as many accepted steps forward, less
-- accepted steps back. And: moves on records walk in step with the same moves on events.
use Rattle.std.specs.Prelude.{◌≡◌, ◌↔◌, ◌-ℤ◌, nat_abs}
use Rattle.std.proofs.Math.Path.{refl, sym, ap, subst}
use Rattle.std.proofs.Common.{◌∙◌, arith}
use Rattle.std.proofs.Math.Option.{Option, none, some, some-injective, none-ne-some, map}
use mathlib.Core.List.{List, [], ◌∷◌}
use Prim.Native.Nat.{ℕ, zero, suc, ◌+◌}
use Rattle.std.proofs.Math.IntN.{pos, pos-+ℤ-pos, +ℤ-neg_ℤ_cancel}
use Rattle.stepper.specs.Walks.Walk.{Direction, forward, back, Tally, at_start, after, net, encoded, moves, walk, Reach}

module _ {Query Event : Type 0} (first : Query → Event) (step : Direction → Event → Option Event) where
  -- the events n steps from a query's first event are one event
  pub reach_same : (n : ℕ) (q : Query) (d e : Event) → Reach first step q n d → Reach first step q n e → d ≡ e
  unfolding Reach
  reach_same zero q d e h k = sym h ∙ k
  reach_same (suc n) q d e h k =
      some-injective d e (sym h.2 ∙ ap (step forward) (reach_same n q h.0 k.0 h.1 k.1) ∙ k.2)

  -- The queries in question are those that are fit. From a first event no step back is accepted, and each accepted step forward on the way
  -- from the first event of a fit query is undone by the step back.
  module _ (Fit : Query → Type 0)
      (first_injective : (p q : Query) → first p ≡ first q → p ≡ q)
      (no_before : (q : Query) → step back (first q) ≡ none)
      (undone : (q : Query) (n : ℕ) (d e : Event) → Fit q → Reach first step q n d → step forward d ≡ some e → step back e ≡ some d) where
    -- no event after the first is a first event
    not_first : (p q : Query) (n : ℕ) (e : Event) → Fit q → first p ≡ e → Reach first step q (suc n) e → ⊥
    unfolding Reach
    not_first p q n e g h k =
        none-ne-some k.0 (sym (no_before p) ∙ ap (step back) h ∙ undone q n k.0 e g k.1 k.2)

    -- an event is reached from one query, in one number of steps
    pub reach_unique : (n m : ℕ) (p q : Query) (e : Event) → Fit p → Fit q → Reach first step p n e → Reach first step q m e → (p ≡ q) × (n ≡ m)
    unfolding Reach
    reach_unique zero zero p q e f g h k = (first_injective p q (h ∙ sym k), refl)
    reach_unique zero (suc m) p q e f g h k = absurd (not_first p q m e g h k)
    reach_unique (suc n) zero p q e f g h k = absurd (not_first q p n e f k h)
    reach_unique (suc n) (suc m) p q e f g h k =
        let same : h.0 ≡ k.0 = some-injective h.0 k.0 (sym (undone p n h.0 e f h.1 h.2) ∙ undone q m k.0 e g k.1 k.2) in
        let r = reach_unique n m p q k.0 f g (subst (Reach first step p n) same h.1) k.1 in
        (r.0, ap suc r.1)

    -- what holds after every move: the event stands as many steps from the first as were accepted, less those back
    abbrev pub At : Query → Tally Event → Type 0
    At q t = (n : ℕ) × Reach first step q n t.event × (n + t.backs ≡ t.forwards)

    at_after : (q : Query) (d : Direction) (t : Tally Event) (o : Option Event) → Fit q
        → ((e : Event) → o ≡ some e → step d t.event ≡ some e) → At q t → At q (after d o t)
    unfolding after Reach
    at_after q d t none f h a = a
    at_after q forward t (some e) f h a = (suc a.0, (t.event, a.1, h e refl), omega (arith, a.2))
    at_after q back t (some e) f h a = go a.0 a.1 a.2
      where
        go : (n : ℕ) → Reach first step q n t.event → n + t.backs ≡ t.forwards
            → (m : ℕ) × Reach first step q m e × (m + suc t.backs ≡ t.forwards)
        go zero r s = absurd (none-ne-some e (sym (no_before q) ∙ ap (step back) r ∙ h e refl))
        go (suc n) r s =
            let same : r.0 ≡ e = some-injective r.0 e (sym (undone q n r.0 t.event f r.1 r.2) ∙ h e refl) in
            (n, subst (Reach first step q n) same r.1, omega (arith, s))

    net_is : (q : Query) (t : Tally Event) (a : At q t) → net t ≡ pos a.0
    unfolding net
    net_is q t a =
        ap (λ x. pos x -ℤ pos t.backs) (sym a.2) ∙ ap (λ x. x -ℤ pos t.backs) (sym (pos-+ℤ-pos a.0 t.backs))
        ∙ +ℤ-neg_ℤ_cancel (pos a.0) (pos t.backs)

    -- Moves refuse what they like; what they accept is the step in their direction.
    module _ {Move : Type 0} (direction : Move → Direction) (attempt : Move → Event → Option Event)
        (genuine : (m : Move) (d e : Event) → attempt m d ≡ some e → step (direction m) d ≡ some e) where
      at_moves : (q : Query) (ms : List Move) (t : Tally Event) → Fit q → At q t → At q (moves direction attempt ms t)
      unfolding moves
      at_moves q [] t f a = a
      at_moves q (m ∷ ms) t f a =
          let o = attempt m t.event in
          at_moves q ms (after (direction m) o t) f (at_after q (direction m) t o f (genuine m t.event) a)

      -- a list from the first event of a fit query ends at an event that is reached, in as many steps as it counts
      pub at_walk : (q : Query) (ms : List Move) → Fit q → At q (walk direction attempt (first q) ms)
      unfolding walk Reach
      at_walk q ms f = at_moves q ms (at_start (first q)) f (0, refl, refl)

      -- Two lists of moves, each from its query's first event, end at the same event exactly where queries and net numbers are the same.
      pub ends_equal : (p q : Query) (ms ns : List Move) → Fit p → Fit q
          → ((walk direction attempt (first p) ms).event ≡ (walk direction attempt (first q) ns).event)
          ↔ ((p ≡ q) × (net (walk direction attempt (first p) ms) ≡ net (walk direction attempt (first q) ns)))
      ends_equal p q ms ns f g = (there, again)
        where
          t : Tally Event
          t = walk direction attempt (first p) ms

          w : Tally Event
          w = walk direction attempt (first q) ns

          a : At p t
          a = at_walk p ms f

          b : At q w
          b = at_walk q ns g

          there : t.event ≡ w.event → (p ≡ q) × (net t ≡ net w)
          there h =
              let r = reach_unique a.0 b.0 p q w.event f g (subst (Reach first step p a.0) h a.1) b.1 in
              (r.0, net_is p t a ∙ ap pos r.1 ∙ sym (net_is q w b))

          again : (p ≡ q) × (net t ≡ net w) → t.event ≡ w.event
          again h =
              let n : a.0 ≡ b.0 = ap nat_abs (sym (net_is p t a) ∙ h.1 ∙ net_is q w b) in
              let r : Reach first step q b.0 t.event
              = subst (λ x. Reach first step x b.0 t.event) h.0 (subst (λ x. Reach first step p x t.event) n a.1) in
              reach_same b.0 q t.event w.event r b.1

-- Moves on events, and a service on their records that answers alike for events with a property which accepted moves keep.
module _ {Move Event Record : Type 0} (direction : Move → Direction) (attempt : Move → Event → Option Event)
    (Formed : Event → Type 0) (kept : (m : Move) (d e : Event) → Formed d → attempt m d ≡ some e → Formed e)
    (encode : Event → Record) (service : Move → Record → Option Record)
    (agrees : (m : Move) (e : Event) → Formed e → service m (encode e) ≡ map encode (attempt m e)) where
  after_encoded : (d : Direction) (o : Option Event) (t : Tally Event) → after d (map encode o) (encoded encode t) ≡ encoded encode (after d o t)
  unfolding after encoded
  after_encoded d none t = refl
  after_encoded forward (some e) t = refl
  after_encoded back (some e) t = refl

  after_formed : (d : Direction) (o : Option Event) (t : Tally Event) → Formed t.event → ((e : Event) → o ≡ some e → Formed e)
      → Formed (after d o t).event
  unfolding after
  after_formed d none t f h = f
  after_formed forward (some e) t f h = h e refl
  after_formed back (some e) t f h = h e refl

  moves_encoded : (ms : List Move) (t : Tally Event) → Formed t.event
      → (moves direction service ms (encoded encode t) ≡ encoded encode (moves direction attempt ms t)) × Formed (moves direction attempt ms t).event
  unfolding moves encoded
  moves_encoded [] t f = (refl, f)
  moves_encoded (m ∷ ms) t f =
      let o = attempt m t.event in
      let r = moves_encoded ms (after (direction m) o t) (after_formed (direction m) o t f (λ e. kept m t.event e f)) in (
        ap (λ o. moves direction service ms (after (direction m) o (encoded encode t))) (agrees m t.event f)
            ∙ ap (moves direction service ms) (after_encoded (direction m) o t) ∙ r.0,
        r.1,
      )

  -- a list on records walks as the list on events does, and keeps the property
  pub walk_encoded : (e : Event) (ms : List Move) → Formed e
      → (walk direction service (encode e) ms ≡ encoded encode (walk direction attempt e ms)) × Formed (walk direction attempt e ms).event
  unfolding walk encoded
  walk_encoded e ms f = moves_encoded ms (at_start e) f

-- a walk on records counts as the walk on events does
pub net_encoded : {Event Record : Type 0} (encode : Event → Record) (t : Tally Event) → net (encoded encode t) ≡ net t
unfolding net encoded
net_encoded encode t = refl
