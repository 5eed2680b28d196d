-- Laws of the walk inside a goal: from an entry of a goal a walk stays inside up to the next end of it, and read back from an end up to an entry. So
-- every event after the first is inside the query, or an end of it (SPECIFICATION 9.9).
use Rattle.std.specs.Prelude.{◌≡◌, ◌⊎◌, length}
use Rattle.std.proofs.Common.{sym, ◌∙◌, ap, subst, inr, arith, length-append}
use Rattle.std.proofs.Math.Logic.{inl}
use mathlib.Core.List.{List, [], ◌∷◌, ◌++◌, head-eq_of_cons-eq, tail-eq_of_cons-eq}
use Rattle.std.proofs.Math.Decide.{ℕ_discrete}
use Prim.Native.Nat.{ℕ, zero, suc, ◌<◌}
use Rattle.records.specs.Format.Syntax.{Goal, Ancestor, Bet, Port, Event, event, call}
use Rattle.stepper.specs.Rules.Machine.{Machine}
use Rattle.stepper.specs.Rules.Rules.{first_event}
use Rattle.stepper.specs.Rules.Listed.{Rule}
use Rattle.stepper.specs.Rules.Refusals.{AtEnd}
use Rattle.stepper.specs.Walks.Walk.{Reach}
use Rattle.stepper.specs.Walks.Reached.{Reached}
use Rattle.stepper.specs.Walks.ReachedLaws.{one_event, reached_by_rule}
use Rattle.stepper.specs.Walks.Crossing.{ancestor_goal, Entry, call_entry, End, Crossing, goes_in, goes_through, goes_across, goes_out}
use Rattle.stepper.specs.Walks.CrossingLaws.{rule_crosses, crosses_back, Sides, end_under, end_same, entry_not_end, entry_to_end, end_to_entry, end_is_final, final_is_end, end_is_last}
use Rattle.stepper.specs.Walks.Inside.{AboveGoal, InsideGoal, WalkInside, StillOrEnded}

-- a stack with one ancestor more
above_more : {g : Goal} {u v : List Ancestor} (b : Ancestor) → AboveGoal g u v → AboveGoal g u (b ∷ v)
above_more b x = (b ∷ x.0, x.1, ap (b ∷◌) x.2, x.3)

-- and with one less: the one that g put, or one above it
above_less : (g : Goal) (u v : List Ancestor) (b : Ancestor) → AboveGoal g u (b ∷ v) → ((ancestor_goal b ≡ g) × (v ≡ u)) ⊎ AboveGoal g u v
above_less g u v b (w, a, h, k) = go w h
  where
    go : (w : List Ancestor) → b ∷ v ≡ w ++ (a ∷ u) → ((ancestor_goal b ≡ g) × (v ≡ u)) ⊎ AboveGoal g u v
    go [] h = inl (ap ancestor_goal (head-eq_of_cons-eq h) ∙ k, tail-eq_of_cons-eq h)
    go (x ∷ w) h = inr (w, a, tail-eq_of_cons-eq h, k)

-- it is higher than what it stands on
above_higher : (g : Goal) (u v : List Ancestor) → AboveGoal g u v → length u < length v
above_higher g u v (w, a, h, k) = let l = ap length h ∙ length-append w (a ∷ u) in omega arith

-- so an event inside is no end of a goal under u
pub inside_not_end : {g h : Goal} {u : List Ancestor} {e : Event} → InsideGoal g u e → End h u e → ⊥
inside_not_end {g} {u = u} x y = omega (arith, above_higher g u u (subst (AboveGoal g u) (end_under y) x))

-- and a query's first event is inside no goal, and no end
first_outside : (g : Goal) (u : List Ancestor) (q : Goal) → InsideGoal g u (event call q [] []) ⊎ End g u (event call q [] []) → ⊥
first_outside g u q (inl x) = omega (arith, above_higher g u [] x)
first_outside g u q (inr x) = entry_not_end call_entry x

-- a crossing from inside, or from an entry, leads inside or to an end, and the other way round
module _ {In Out : Goal → List Ancestor → Event → Type 0} (sides : Sides In Out) (g : Goal) (u : List Ancestor) where
  open sides use {in_under, out_under, in_same, not_both}

  crossing_stays : {e d : Event} → Crossing In Out e d → InsideGoal g u e ⊎ In g u e → InsideGoal g u d ⊎ Out g u d
  crossing_stays (goes_in {a = a} k x y) (inr z) = inl ([], a, in_under y ∙ ap (a ∷◌) (sym (in_under x) ∙ in_under z), k ∙ in_same x z)
  crossing_stays (goes_in {a = a} k x y) (inl z) = inl (subst (AboveGoal g u) (sym (in_under y)) (above_more a (subst (AboveGoal g u) (in_under x) z)))
  crossing_stays {d = d} (goes_through {g = h} {u = v} x y) (inr z) =
      inr (subst (λ h. Out h u d) (in_same x z) (subst (λ v. Out h v d) (sym (in_under x) ∙ in_under z) y))
  crossing_stays (goes_through x y) (inl z) = inl (subst (AboveGoal g u) (in_under x ∙ sym (out_under y)) z)
  crossing_stays (goes_across k x y) (inr z) = absurd (not_both z x)
  crossing_stays (goes_across {a = a} {b = b} {u = v} k x y) (inl z) =
      inl (subst (AboveGoal g u) (sym (in_under y)) (go (above_less g u v a (subst (AboveGoal g u) (out_under x) z))))
    where
      go : ((ancestor_goal a ≡ g) × (v ≡ u)) ⊎ AboveGoal g u v → AboveGoal g u (b ∷ v)
      go (inl p) = ([], b, ap (b ∷◌) p.1, sym k ∙ p.0)
      go (inr p) = above_more b p
  crossing_stays (goes_out k x y) (inr z) = absurd (not_both z x)
  crossing_stays {d = d} (goes_out {g = h} {a = a} {u = v} k x y) (inl z) = go (above_less g u v a (subst (AboveGoal g u) (out_under x) z))
    where
      go : ((ancestor_goal a ≡ g) × (v ≡ u)) ⊎ AboveGoal g u v → InsideGoal g u d ⊎ Out g u d
      go (inl p) = inr (subst (λ h. Out h u d) (sym k ∙ p.0) (subst (λ v. Out h v d) p.1 y))
      go (inr p) = inl (subst (AboveGoal g u) (sym (out_under y)) p)

module _ (M : Machine) (g : Goal) (u : List Ancestor) where
  -- a rule from inside a goal, or from an entry of it, leads inside or to an end of it,
  pub stays_inside : {e d : Event} → Rule M e d → InsideGoal g u e ⊎ Entry g u e → InsideGoal g u d ⊎ End g u d
  stays_inside r = crossing_stays entry_to_end g u (rule_crosses r)

  -- and one that leads inside, or to an end, comes from inside or from an entry
  pub comes_from_inside : {e d : Event} → Rule M e d → InsideGoal g u d ⊎ End g u d → InsideGoal g u e ⊎ Entry g u e
  comes_from_inside r = crossing_stays end_to_entry g u (crosses_back (rule_crosses r))

  module _ (q : Goal) where
    -- the walk inside a goal begins at an entry,
    begins : {i : ℕ} (d : Event) → Reached M q i d → Entry g u d → WalkInside M q g u i (suc i)
    begins d r y = record { start = d; reached = r; entry = y; later = omega arith; inside = λ k e l m h. absurd (omega arith) }

    -- and goes on over an event inside
    goes_on : {i n : ℕ} (e : Event) → Reached M q n e → InsideGoal g u e → WalkInside M q g u i n → WalkInside M q g u i (suc n)
    goes_on {i} {n} e h x w = record {
      start = w.start;
      reached = w.reached;
      entry = w.entry;
      later = (let z = w.later in omega arith);
      inside = λ k d l m r. still k d l m r (ℕ_discrete k n);
    }
      where
        still : (k : ℕ) (d : Event) → i < k → k < suc n → Reached M q k d → Dec (k ≡ n) → InsideGoal g u d
        still k d l m r (yes z) = subst (InsideGoal g u) (one_event M q n e d h (subst (λ k. Reached M q k d) z r)) x
        still k d l m r (no z) = w.inside k d l (omega (arith, z)) r

    one_more : {i n : ℕ} (b e : Event) → Rule M b e → Reached M q (suc n) e → WalkInside M q g u i (suc n) → InsideGoal g u b ⊎ Entry g u b
        → StillOrEnded M q g u i (suc n) e
    one_more {i} {n} b e rule h w x = go (stays_inside rule x)
      where
        go : InsideGoal g u e ⊎ End g u e → StillOrEnded M q g u i (suc n) e
        go (inl y) = inl (w, y)
        go (inr y) = inr (record { number = suc n; by_then = omega arith; walked = w; last = e; reached = h; end = y })

    -- From an entry on, a walk stays inside up to the next end.
    pub inside_until_end : (i : ℕ) (d : Event) → Reached M q i d → Entry g u d → (n : ℕ) (e : Event) → i < n → Reached M q n e → StillOrEnded M q g u i n e
    inside_until_end i d r y zero e l h = absurd (omega arith)
    inside_until_end i d r y (suc n) e l h =
        let (b, k, rule) = reached_by_rule M q n e h in
        go b k rule (ℕ_discrete i n) (λ m. inside_until_end i d r y n b m k)
      where
        go : (b : Event) → Reached M q n b → Rule M b e → Dec (i ≡ n) → (i < n → StillOrEnded M q g u i n b) → StillOrEnded M q g u i (suc n) e
        go b k rule (yes z) f =
            one_more b e rule h (subst (λ n. WalkInside M q g u i (suc n)) z (begins d r y))
            (inr (subst (Entry g u) (one_event M q n d b (subst (λ k. Reached M q k d) z r) k) y))
        go b k rule (no z) f = on (f (omega (arith, z)))
          where
            on : StillOrEnded M q g u i n b → StillOrEnded M q g u i (suc n) e
            on (inl (w, x)) = one_more b e rule h (goes_on b k x w) (inl x)
            on (inr x) = inr (record {
              number = x.number;
              by_then = (let z = x.by_then in omega arith);
              walked = x.walked;
              last = x.last;
              reached = x.reached;
              end = x.end;
            })

    -- What is inside, or an end, has an entry before it, since which the walk has been inside.
    pub inside_since_entry : (n : ℕ) (e : Event) → Reached M q n e → InsideGoal g u e ⊎ End g u e → (i : ℕ) × WalkInside M q g u i n
    unfolding Reach first_event
    inside_since_entry zero e h x = absurd (first_outside g u q (subst (λ e. InsideGoal g u e ⊎ End g u e) (sym h) x))
    inside_since_entry (suc n) e h x =
        let (b, k, rule) = reached_by_rule M q n e h in
        go b k (comes_from_inside rule x) (λ y. inside_since_entry n b k (inl y))
      where
        go : (b : Event) → Reached M q n b → InsideGoal g u b ⊎ Entry g u b → (InsideGoal g u b → (i : ℕ) × WalkInside M q g u i n)
            → (i : ℕ) × WalkInside M q g u i (suc n)
        go b k (inr y) f = (n, begins b k y)
        go b k (inl y) f = ((f y).0, goes_on b k y (f y).1)

module _ (M : Machine) (q : Goal) where
  -- Every event of a walk after the first is inside the query, or an end of it.
  pub about_query : (n : ℕ) (e : Event) → Reached M q (suc n) e → InsideGoal q [] e ⊎ End q [] e
  unfolding Reach first_event
  about_query zero e h = let (d, k, rule) = reached_by_rule M q 0 e h in stays_inside M q [] rule (inr (subst (Entry q []) k call_entry))
  about_query (suc n) e h = let (d, k, rule) = reached_by_rule M q (suc n) e h in stays_inside M q [] rule (go d rule (about_query n d k))
    where
      go : (d : Event) → Rule M d e → InsideGoal q [] d ⊎ End q [] d → InsideGoal q [] d ⊎ Entry q [] d
      go d rule (inl x) = inl x
      go d rule (inr x) = absurd (end_is_last rule x)

  -- The goal of a final event is the query,
  pub final_goal : (n : ℕ) (p : Port) (g : Goal) (u : List Ancestor) (s : List Bet) → Reached M q n (event p g u s) → AtEnd (event p g u s) → g ≡ q
  unfolding Reach first_event
  final_goal zero p g u s h w = absurd (subst AtEnd (sym h) w)
  final_goal (suc n) p g u s h w = go (about_query n (event p g u s) h) (final_is_end p g u s w)
    where
      go : InsideGoal q [] (event p g u s) ⊎ End q [] (event p g u s) → End g [] (event p g u s) → g ≡ q
      go (inl x) y = absurd (inside_not_end x y)
      go (inr x) y = end_same y x

  -- and any other event after the first is inside the query.
  pub inside_query : (n : ℕ) (e : Event) → 0 < n → Reached M q n e → (AtEnd e → ⊥) → InsideGoal q [] e
  inside_query zero e l h no_end = absurd (omega arith)
  inside_query (suc n) e l h no_end = go (about_query n e h)
    where
      go : InsideGoal q [] e ⊎ End q [] e → InsideGoal q [] e
      go (inl x) = x
      go (inr x) = absurd (no_end (end_is_final x))
