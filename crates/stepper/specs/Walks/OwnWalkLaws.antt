-- From a call of a goal up to the next end of it, as far as it goes, a walk is the goal's own walk on the ancestors and bets of the call.
use Rattle.std.specs.Prelude.{◌≡◌, ◌⊎◌, length}
use Rattle.std.proofs.Math.Path.{refl, subst}
use Rattle.std.proofs.Common.{sym, ◌∙◌, ap, inl, inr, add-zero, add-suc, arith, length-append}
use mathlib.Core.List.{List, [], ◌∷◌, ◌++◌}
use Rattle.std.proofs.Math.Decide.{ℕ_discrete}
use Prim.Native.Nat.{ℕ, zero, suc, ◌+◌}
use Rattle.records.specs.Format.Syntax.{Goal, truth, failure, equal, conj, disj, atom, first, second, Ancestor, called, in_conj, in_disj, Bet, unifier, or, call, exit, fail, redo, Event, event, goal?}
use Rattle.terms.specs.Values.ValueService.{bets_of}
use Rattle.stepper.specs.Rules.Machine.{Machine, Admits, StepOutcome, gives}
use Rattle.stepper.specs.Rules.Rules.{selected, matching, rule, ununifiable, step, step_forward, first_event}
use Rattle.stepper.specs.Rules.AnswerLaws.{Given, given_matching, given_unifier, given_body, matching_yes, accepted_gives, gives_accepted}
use Rattle.stepper.specs.Rules.ListedLaws.{rule_iff, forward_iff}
use Rattle.stepper.specs.Walks.Walk.{Reach}
use Rattle.stepper.specs.Walks.Legal.{Solved, by_truth, by_equal, by_conj, by_disj, by_atom, CalledUnder, Legal}
use Rattle.stepper.specs.Walks.Reached.{Reached}
use Rattle.stepper.specs.Walks.ReachedLaws.{Anything, one_event, reached_legal}
use Rattle.stepper.specs.Walks.Crossing.{call_entry, redo_entry, End, exit_end, fail_end}
use Rattle.stepper.specs.Walks.CrossingLaws.{end_under, entry_not_end}
use Rattle.stepper.specs.Walks.Inside.{InsideBetween, WalkInside}
use Rattle.stepper.specs.Walks.InsideLaws.{inside_not_end}
use Rattle.stepper.specs.Walks.OwnWalk.{event_on, machine_on, InOwnWalk}

module _ (M : Machine) (g : Goal) (u : List Ancestor) (s : List Bet) where
  -- the machine of g's own walk
  abbrev own : Machine
  own = machine_on u s M

  -- the event d is, on u and s, the one that the answer gives
  abbrev GivenOn : StepOutcome → Event → Type 0
  GivenOn a d = (c : Event) × (a ≡ gives c) × (event_on u s c ≡ d)

  -- the event d is, on u and s, the one that the rules of own lead to from e
  abbrev RuleOn : Event → Event → Type 0
  RuleOn e = GivenOn (rule own e)

  call_on : (h : Goal) (v : List Ancestor) (t : List Bet) → Given (RuleOn (event call h v t)) (rule M (event call h (v ++ u) (t ++ s)))
  unfolding rule
  call_on truth v t = (_, refl, refl)
  call_on failure v t = (_, refl, refl)
  call_on (equal l r) v t =
      given_unifier (RuleOn (event call (equal l r) v t)) (M.unify (t ++ s) l r) _ _
      (λ k. (event fail (equal l r) v t, rw k, refl)) (λ m k. (event exit (equal l r) v (unifier m ∷ t), rw k, refl))
  call_on (conj a b) v t = (_, refl, refl)
  call_on (disj a b) v t = (_, refl, refl)
  call_on (atom p ts) v t =
      given_body (RuleOn (event call (atom p ts) v t)) (M.body p ts (v ++ u) (t ++ s)) _ _
      (λ k. (event fail (atom p ts) v t, rw k, refl)) (λ b k. (event call b (called p ts ∷ v) t, rw k, refl))

  -- a rule that asks for the goal a
  goal_on : (h a : Goal) (c : Event) → Given (GivenOn (matching (goal? h a) c)) (matching (goal? h a) (event_on u s c))
  goal_on h a c = given_matching (GivenOn (matching (goal? h a) c)) (goal? h a) (event_on u s c) (λ k. (c, matching_yes (goal? h a) c k, refl))

  exit_on : (h : Goal) (v : List Ancestor) (r t : List Bet) → CalledUnder own g Anything v h r → (End g [] (event exit h v t) → ⊥)
      → Given (RuleOn (event exit h v t)) (rule M (event exit h (v ++ u) (t ++ s)))
  unfolding rule
  exit_on h [] r t c o = absurd (o (subst (λ x. End g [] (event exit x [] t)) (sym c.0) exit_end))
  exit_on h (in_conj first a b ∷ v) r t c o = goal_on h a (event call b (in_conj second a b ∷ v) t)
  exit_on h (in_conj second a b ∷ v) r t c o = goal_on h b (event exit (conj a b) v t)
  exit_on h (in_disj n a b ∷ v) r t c o = goal_on h (selected n a b) (event exit (disj a b) v (or n ∷ t))
  exit_on h (called p ts ∷ v) r t c o = (_, refl, refl)

  fail_on : (h : Goal) (v : List Ancestor) (r t : List Bet) → CalledUnder own g Anything v h r → (End g [] (event fail h v t) → ⊥)
      → Given (RuleOn (event fail h v t)) (rule M (event fail h (v ++ u) (t ++ s)))
  unfolding rule
  fail_on h [] r t c o = absurd (o (subst (λ x. End g [] (event fail x [] t)) (sym c.0) fail_end))
  fail_on h (in_conj first a b ∷ v) r t c o = goal_on h a (event fail (conj a b) v t)
  fail_on h (in_conj second a b ∷ v) r t c o = goal_on h b (event redo a (in_conj first a b ∷ v) t)
  fail_on h (in_disj first a b ∷ v) r t c o = goal_on h a (event call b (in_disj second a b ∷ v) t)
  fail_on h (in_disj second a b ∷ v) r t c o = goal_on h b (event fail (disj a b) v t)
  fail_on h (called p ts ∷ v) r t c o = (_, refl, refl)

  -- what a redo takes back was put since the call
  redo_on : (h : Goal) (v : List Ancestor) (r t : List Bet) → Solved own g Anything h v r t
      → Given (RuleOn (event redo h v t)) (rule M (event redo h (v ++ u) (t ++ s)))
  unfolding rule
  redo_on h v r t by_truth = (_, refl, refl)
  redo_on h v r t (by_equal k) = (_, refl, refl)
  redo_on h v r t (by_conj y z w y' z' w') = (_, refl, refl)
  redo_on h v r t (by_disj n y z w) = (_, refl, refl)
  redo_on h v r t (by_atom k y z w) = (_, refl, refl)

  rule_on : (e : Event) → Legal own g Anything e → (End g [] e → ⊥) → Given (RuleOn e) (rule M (event_on u s e))
  rule_on (event call h v t) l o = call_on h v t
  rule_on (event exit h v t) l o = exit_on h v l.0 t l.1 o
  rule_on (event fail h v t) l o = fail_on h v t t l.0 o
  rule_on (event redo h v t) l o = redo_on h v l.0 t l.3

  -- question 10 is left out alike
  ununifiable_on : (e : Event) → ununifiable M (event_on u s e) ≡ ununifiable own e
  unfolding ununifiable
  ununifiable_on (event call truth v t) = refl
  ununifiable_on (event call failure v t) = refl
  ununifiable_on (event call (equal l r) v t) = refl
  ununifiable_on (event call (conj a b) v t) = refl
  ununifiable_on (event call (disj a b) v t) = refl
  ununifiable_on (event call (atom p ts) v t) = refl
  ununifiable_on (event exit h v t) = refl
  ununifiable_on (event fail h v t) = refl
  ununifiable_on (event redo h v t) = refl

  -- so a step of M that is accepted is one of its own
  pub step_on : (d e : Event) → Legal own g Anything d → (End g [] d → ⊥) → step_forward M (event_on u s d) ≡ gives e
      → (c : Event) × (step_forward own d ≡ gives c) × (event_on u s c ≡ e)
  step_on d e l o h =
      let (r, fits) = (forward_iff M (event_on u s d) e).0 h in
      let (c, z, f) = subst (Given (RuleOn d)) ((rule_iff M (event_on u s d) e).1 r) (rule_on d l o) in
      (c, (forward_iff own d c).1 ((rule_iff own d c).0 z, λ k. subst (Admits M) (sym f) (fits (ununifiable_on d ∙ k))), f)

  end_on : {e : Event} → End g [] e → End g u (event_on u s e)
  end_on exit_end = exit_end
  end_on fail_end = fail_end

  module _ (q : Goal) (i : ℕ) (start : Reached M q i (event call g u s)) where
    -- the event k steps behind the call, with those in between inside g, is the k-th of g's own walk
    own_event : (k : ℕ) (e : Event) → Reached M q (i + k) e → InsideBetween M q g u i (i + k) → InOwnWalk u s M g k e
    unfolding Reach first_event step
    own_event zero e h inside = (event call g [] [], refl, one_event M q i (event call g u s) e start (subst (λ n. Reached M q n e) (add-zero i) h))
    own_event (suc k) e h inside =
        let x : Reached M q (suc (i + k)) e = subst (λ n. Reached M q n e) (add-suc i k) h in
        go x.0 x.1 (accepted_gives _ e x.2) (own_event k x.0 x.1 (λ j c l m. inside j c l (omega arith)))
      where
        go : (b : Event) → Reached M q (i + k) b → step_forward M b ≡ gives e → InOwnWalk u s M g k b → InOwnWalk u s M g (suc k) e
        go b r f (d, w, y) =
            let (c, z, x) = step_on d e (reached_legal own g Anything k d (λ c h. tt) w) (not_end (ℕ_discrete k 0)) (ap (step_forward M) y ∙ f) in
            (c, (d, w, gives_accepted _ c z), x)
          where
            not_end : Dec (k ≡ 0) → End g [] d → ⊥
            not_end (yes p) z = entry_not_end call_entry (subst (End g []) (sym (subst (λ n. Reached own g n d) p w)) z)
            not_end (no p) z = inside_not_end (inside (i + k) b (omega (arith, p)) (omega arith) r) (subst (End g u) y (end_on z))

    module _ (k : ℕ) (e : Event) (h : Reached M q (i + k) e) (w : WalkInside M q g u i (i + k)) where
      -- The walk inside g from a call of it is g's own walk on the ancestors and bets of the call.
      pub own_walk : InOwnWalk u s M g k e
      own_walk = own_event k e h w.inside

      -- So the bets of the call stay at the bottom;
      pub bets_below : (t : List Bet) × (bets_of e ≡ t ++ s)
      bets_below = go own_walk
        where
          go : InOwnWalk u s M g k e → (t : List Bet) × (bets_of e ≡ t ++ s)
          go (event p h v t, w, y) = (t, ap bets_of (sym y))

      -- fail with those bets, or exit with those by which g is solved on top of them
      abbrev pub FailedOrSolved : Type 0
      FailedOrSolved = (e ≡ event fail g u s) ⊎ ((t : List Bet) × (e ≡ event exit g u (t ++ s)) × Solved own g Anything g [] [] t)

      -- and the end of the walk is so.
      pub end_bets : End g u e → FailedOrSolved
      end_bets z = let (d, w, y) = own_walk in go d (reached_legal own g Anything k d (λ c h. tt) w) (subst (End g u) (sym y) z) y
        where
          higher : (a : Ancestor) (v : List Ancestor) → (a ∷ v) ++ u ≡ u → ⊥
          higher a v h = let l = sym (length-append (a ∷ v) u) ∙ ap length h in omega arith

          go : (d : Event) → Legal own g Anything d → End g u (event_on u s d) → event_on u s d ≡ e → FailedOrSolved
          go (event call h v t) l z y = absurd (entry_not_end call_entry z)
          go (event redo h v t) l z y = absurd (entry_not_end redo_entry z)
          go (event exit h (a ∷ v) t) l z y = absurd (higher a v (end_under z))
          go (event fail h (a ∷ v) t) l z y = absurd (higher a v (end_under z))
          go (event fail h [] t) ((n, m), _) z y = inl (sym y ∙ ap (λ h. event fail h u (t ++ s)) n ∙ ap (λ t. event fail g u (t ++ s)) m)
          go (event exit h [] t) (r, (n, m), _, solved) z y = inr (
            t,
            sym y ∙ ap (λ h. event exit h u (t ++ s)) n,
            subst (λ r. Solved own g Anything g [] r t) m (subst (λ h. Solved own g Anything h [] r t) n solved),
          )
