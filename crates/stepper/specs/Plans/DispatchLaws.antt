-- The dispatch is complete, and its plans are those of the listed rules: what is found by an event's rule is there.
use Rattle.std.specs.Prelude.{◌≡◌, ℕ, length, Some}
use Rattle.std.proofs.Math.Path.{refl}
use Rattle.std.proofs.Common.{sym, subst, arith, ne_eqb}
use mathlib.Core.List.{List, [], ◌∷◌}
use Rattle.records.specs.Format.Syntax.{Goal, truth, failure, equal, conj, disj, atom, first, second, Ancestor, called, in_conj, in_disj, Bet, unifier, or, by, Port, call, exit, fail, redo, Event, event}
use Rattle.records.specs.Gate.Question.{possible, matches, question_number}
use Rattle.stepper.specs.Rules.Machine.{Machine}
use Rattle.stepper.specs.Rules.Rules.{selected, top_unifier, top_or, top_by, from_call, from_exit, from_fail, from_redo, rule, into_call, into_exit, into_fail, into_redo, candidate}
use Rattle.stepper.specs.Rules.Listed.{Rule, conj_call, conj_exit_first, conj_fail_first, conj_exit_second, conj_fail_second, conj_redo, disj_call, disj_fail_first, disj_fail_second, disj_exit_first, disj_exit_second, disj_redo, true_call, true_redo, fail_call, equal_redo, atom_exit, atom_fail, atom_redo}
use Rattle.stepper.specs.Rules.Sources.{Source}
use Rattle.stepper.specs.Plans.View.{PartsOf, event_view}
use Rattle.stepper.specs.Plans.WhichRule.{call_rule, exit_rule, fail_rule, redo_rule, forward_rule, call_source, exit_source, fail_source, redo_source, back_rule}
use Rattle.stepper.specs.Plans.RulePlans.{forward_plan, back_plan}
use Rattle.stepper.specs.Plans.Made.{Plans}
use Rattle.stepper.specs.Plans.LayoutLaws.{kept_plans, bet_dropped_plans, entered_conj_plans, entered_disj_plans, chosen_plans, reached_conj_plans, reached_disj_plans, conj_left_plans, disj_left_plans, left_with_or_plans, atom_left_plans, atom_left_by_plans, body_entered_plans}
use Rattle.stepper.specs.Plans.Halves.{Leaves, LeavesBack, Like}
use Rattle.stepper.specs.Plans.HalfLaws.{half_of_conj, half_of_disj}
use Rattle.stepper.specs.Plans.Dispatch.{no_rule_number, no_source_number, LeadsOn, ComesFrom, ForwardFound, BackFound}
use Rattle.stepper.specs.declared.rules.Rule.{Rule as Found}
use Rattle.stepper.specs.declared.rules.Rule.TheVariants.{EqualCall, EqualRedo, AtomCall, AtomFail}

-- a rule that is not a given one
abbrev pub Not : Found → Found → Type 0
Not r q = r ≡ q → ⊥

module _ (M : Machine) (t : List ℕ) where
  leads : {e d : Event} → Rule M e d → Plans t (forward_plan (event_view e) (forward_rule (event_view e))) d → LeadsOn M t e
  leads r p = record { next = _; rule = r; plans = p }

  comes : {c e : Event} → Source M c e → Plans t (back_plan (event_view e) (back_rule (event_view e))) c → ComesFrom M t e
  comes r p = record { before = _; source = r; plans = p }

  -- a rule that asks for the goal a: it is enough to look at the event whose goal is a
  module _ (p : Port) {u : List Ancestor} (s : List Bet) {g a : Goal} (h : g ≡ a) where
    at_half : (PartsOf t (event p a u s) → LeadsOn M t (event p a u s)) → PartsOf t (event p g u s) → LeadsOn M t (event p g u s)
    at_half f w = subst (λ x. LeadsOn M t (event p x u s)) (sym h) (f (subst (λ x. PartsOf t (event p x u s)) h w))

    at_half_back : (PartsOf t (event p a u s) → ComesFrom M t (event p a u s)) → PartsOf t (event p g u s) → ComesFrom M t (event p g u s)
    at_half_back f w = subst (λ x. ComesFrom M t (event p x u s)) (sym h) (f (subst (λ x. PartsOf t (event p x u s)) h w))

  pub forward_found : (e : Event) → PartsOf t e → ForwardFound M t e (forward_rule (event_view e))
  unfolding event_view forward_rule call_rule exit_rule fail_rule redo_rule forward_plan rule from_call from_exit from_fail from_redo top_unifier top_or top_by selected no_rule_number question_number
  forward_found (event call truth u s) w = λ k. leads true_call (kept_plans exit w)
  forward_found (event call failure u s) w = λ k. leads fail_call (kept_plans fail w)
  forward_found (event call (equal l r) u s) w = record { left = l; right = r; ancestors = u; bets = s; is = refl }
  forward_found (event call (conj a b) u s) w = λ k. leads conj_call (entered_conj_plans call first w)
  forward_found (event call (disj a b) u s) w = λ k. leads disj_call (entered_disj_plans call first w)
  forward_found (event call (atom p ts) u s) w = record { predicate = p; terms = ts; ancestors = u; bets = s; is = refl }
  forward_found (event exit g [] s) w = record { question = possible; refuses = refl; numbered = refl }
  forward_found (event exit g (in_conj first a b ∷ u) s) w = λ k. at_half exit s ((half_of_conj first a b w).0 (k tt)) (λ w. leads conj_exit_first (reached_conj_plans call first second w)) w
  forward_found (event exit g (in_conj second a b ∷ u) s) w = λ k. at_half exit s ((half_of_conj second a b w).0 (k tt)) (λ w. leads conj_exit_second (conj_left_plans exit second w)) w
  forward_found (event exit g (in_disj first a b ∷ u) s) w = λ k. at_half exit s ((half_of_disj first a b w).0 (k tt)) (λ w. leads disj_exit_first (left_with_or_plans exit first w)) w
  forward_found (event exit g (in_disj second a b ∷ u) s) w = λ k. at_half exit s ((half_of_disj second a b w).0 (k tt)) (λ w. leads disj_exit_second (left_with_or_plans exit second w)) w
  forward_found (event exit g (called p ts ∷ u) s) w = λ k. leads atom_exit (atom_left_by_plans exit w)
  forward_found (event fail g [] s) w = record { question = possible; refuses = refl; numbered = refl }
  forward_found (event fail g (in_conj first a b ∷ u) s) w = λ k. at_half fail s ((half_of_conj first a b w).0 (k tt)) (λ w. leads conj_fail_first (conj_left_plans fail first w)) w
  forward_found (event fail g (in_conj second a b ∷ u) s) w = λ k. at_half fail s ((half_of_conj second a b w).0 (k tt)) (λ w. leads conj_fail_second (reached_conj_plans redo second first w)) w
  forward_found (event fail g (in_disj first a b ∷ u) s) w = λ k. at_half fail s ((half_of_disj first a b w).0 (k tt)) (λ w. leads disj_fail_first (reached_disj_plans call first second w)) w
  forward_found (event fail g (in_disj second a b ∷ u) s) w = λ k. at_half fail s ((half_of_disj second a b w).0 (k tt)) (λ w. leads disj_fail_second (disj_left_plans fail second w)) w
  forward_found (event fail g (called p ts ∷ u) s) w = λ k. leads atom_fail (atom_left_plans fail w)
  forward_found (event redo truth u s) w = λ k. leads true_redo (kept_plans fail w)
  forward_found (event redo failure u s) w = record { question = matches; refuses = refl; numbered = refl }
  forward_found (event redo (equal l r) u []) w = record { question = matches; refuses = refl; numbered = refl }
  forward_found (event redo (equal l r) u (unifier m ∷ s)) w = λ k. leads equal_redo (bet_dropped_plans fail w)
  forward_found (event redo (equal l r) u (or n ∷ s)) w = record { question = matches; refuses = refl; numbered = refl }
  forward_found (event redo (equal l r) u (by c ∷ s)) w = record { question = matches; refuses = refl; numbered = refl }
  forward_found (event redo (conj a b) u s) w = λ k. leads conj_redo (entered_conj_plans redo second w)
  forward_found (event redo (disj a b) u []) w = record { question = matches; refuses = refl; numbered = refl }
  forward_found (event redo (disj a b) u (unifier m ∷ s)) w = record { question = matches; refuses = refl; numbered = refl }
  forward_found (event redo (disj a b) u (or n ∷ s)) w = λ k. leads (disj_redo n) (chosen_plans redo n w)
  forward_found (event redo (disj a b) u (by c ∷ s)) w = record { question = matches; refuses = refl; numbered = refl }
  forward_found (event redo (atom p ts) u []) w = record { question = matches; refuses = refl; numbered = refl }
  forward_found (event redo (atom p ts) u (unifier m ∷ s)) w = record { question = matches; refuses = refl; numbered = refl }
  forward_found (event redo (atom p ts) u (or n ∷ s)) w = record { question = matches; refuses = refl; numbered = refl }
  forward_found (event redo (atom p ts) u (by c ∷ s)) w = λ k. leads atom_redo (body_entered_plans redo w)

  pub back_found : (e : Event) → PartsOf t e → BackFound M t e (back_rule (event_view e))
  unfolding event_view back_rule call_source exit_source fail_source redo_source back_plan candidate into_call into_exit into_fail into_redo top_unifier top_or top_by selected no_source_number question_number
  back_found (event call g [] []) w = record { question = possible; refuses = refl; numbered = refl }
  back_found (event call g [] (b ∷ s)) w = record { question = matches; refuses = refl; numbered = rw (ne_eqb (length (b ∷ s)) 0 (omega arith)) refl }
  back_found (event call g (in_conj first a b ∷ u) s) w = λ k. at_half_back call s ((half_of_conj first a b w).0 (k tt)) (λ w. comes (conj_call, tt) (conj_left_plans call first w)) w
  back_found (event call g (in_conj second a b ∷ u) s) w = λ k. at_half_back call s ((half_of_conj second a b w).0 (k tt)) (λ w. comes (conj_exit_first, tt) (reached_conj_plans exit second first w)) w
  back_found (event call g (in_disj first a b ∷ u) s) w = λ k. at_half_back call s ((half_of_disj first a b w).0 (k tt)) (λ w. comes (disj_call, tt) (disj_left_plans call first w)) w
  back_found (event call g (in_disj second a b ∷ u) s) w = λ k. at_half_back call s ((half_of_disj second a b w).0 (k tt)) (λ w. comes (disj_fail_first, tt) (reached_disj_plans fail second first w)) w
  back_found (event call g (called p ts ∷ u) s) w = record { goal = g; predicate = p; terms = ts; ancestors = u; bets = s; is = refl }
  back_found (event exit truth u s) w = λ k. comes (true_call, tt) (kept_plans call w)
  back_found (event exit failure u s) w = record { question = matches; refuses = refl; numbered = refl }
  back_found (event exit (equal l r) u []) w = record { question = matches; refuses = refl; numbered = refl }
  back_found (event exit (equal l r) u (unifier m ∷ s)) w = record { left = l; right = r; ancestors = u; bindings = m; bets = s; is = refl }
  back_found (event exit (equal l r) u (or n ∷ s)) w = record { question = matches; refuses = refl; numbered = refl }
  back_found (event exit (equal l r) u (by c ∷ s)) w = record { question = matches; refuses = refl; numbered = refl }
  back_found (event exit (conj a b) u s) w = λ k. comes (conj_exit_second, tt) (entered_conj_plans exit second w)
  back_found (event exit (disj a b) u []) w = record { question = matches; refuses = refl; numbered = refl }
  back_found (event exit (disj a b) u (unifier m ∷ s)) w = record { question = matches; refuses = refl; numbered = refl }
  back_found (event exit (disj a b) u (or first ∷ s)) w = λ k. comes (disj_exit_first, tt) (chosen_plans exit first w)
  back_found (event exit (disj a b) u (or second ∷ s)) w = λ k. comes (disj_exit_second, tt) (chosen_plans exit second w)
  back_found (event exit (disj a b) u (by c ∷ s)) w = record { question = matches; refuses = refl; numbered = refl }
  back_found (event exit (atom p ts) u []) w = record { question = matches; refuses = refl; numbered = refl }
  back_found (event exit (atom p ts) u (unifier m ∷ s)) w = record { question = matches; refuses = refl; numbered = refl }
  back_found (event exit (atom p ts) u (or n ∷ s)) w = record { question = matches; refuses = refl; numbered = refl }
  back_found (event exit (atom p ts) u (by c ∷ s)) w = λ k. comes (atom_exit, tt) (body_entered_plans exit w)
  back_found (event fail truth u s) w = λ k. comes (true_redo, tt) (kept_plans redo w)
  back_found (event fail failure u s) w = λ k. comes (fail_call, tt) (kept_plans call w)
  back_found (event fail (equal l r) u s) w = record { left = l; right = r; ancestors = u; bets = s; is = refl }
  back_found (event fail (conj a b) u s) w = λ k. comes (conj_fail_first, tt) (entered_conj_plans fail first w)
  back_found (event fail (disj a b) u s) w = λ k. comes (disj_fail_second, tt) (entered_disj_plans fail second w)
  back_found (event fail (atom p ts) u s) w = record { predicate = p; terms = ts; ancestors = u; bets = s; is = refl }
  back_found (event redo g [] s) w = record { question = matches; refuses = refl; numbered = refl }
  back_found (event redo g (in_conj first a b ∷ u) s) w = λ k. at_half_back redo s ((half_of_conj first a b w).0 (k tt)) (λ w. comes (conj_fail_second, tt) (reached_conj_plans fail first second w)) w
  back_found (event redo g (in_conj second a b ∷ u) s) w = λ k. at_half_back redo s ((half_of_conj second a b w).0 (k tt)) (λ w. comes (conj_redo, tt) (conj_left_plans redo second w)) w
  back_found (event redo g (in_disj n a b ∷ u) s) w = λ k. at_half_back redo s ((half_of_disj n a b w).0 (k tt)) (λ w. comes (disj_redo n, tt) (left_with_or_plans redo n w)) w
  back_found (event redo g (called p ts ∷ u) s) w = λ k. comes (atom_redo, tt) (atom_left_by_plans redo w)

  -- a rule made of the event's parts
  led : {e : Event} (r : Found) → Not r EqualCall → Not r AtomCall → ForwardFound M t e (Some r) → (Leaves e → Like t e) → LeadsOn M t e
  led EqualCall no_equality no_body f = absurd (no_equality refl)
  led AtomCall no_equality no_body f = absurd (no_body refl)
  led r no_equality no_body f = f

  came : {e : Event} (r : Found) → Not r EqualCall → Not r EqualRedo → Not r AtomCall → Not r AtomFail → BackFound M t e (Some r)
      → (LeavesBack e → Like t e) → ComesFrom M t e
  came EqualCall no_unifier no_equality no_body no_atom f = absurd (no_unifier refl)
  came EqualRedo no_unifier no_equality no_body no_atom f = absurd (no_equality refl)
  came AtomCall no_unifier no_equality no_body no_atom f = absurd (no_body refl)
  came AtomFail no_unifier no_equality no_body no_atom f = absurd (no_atom refl)
  came r no_unifier no_equality no_body no_atom f = f

  pub forward_led : (e : Event) → PartsOf t e → {r : Found} → forward_rule (event_view e) ≡ Some r → Not r EqualCall → Not r AtomCall
      → (Leaves e → Like t e) → LeadsOn M t e
  forward_led e w {r} h no_equality no_body = led r no_equality no_body (subst (ForwardFound M t e) h (forward_found e w))

  pub back_led : (e : Event) → PartsOf t e → {r : Found} → back_rule (event_view e) ≡ Some r → Not r EqualCall → Not r EqualRedo → Not r AtomCall
      → Not r AtomFail → (LeavesBack e → Like t e) → ComesFrom M t e
  back_led e w {r} h no_unifier no_equality no_body no_atom =
      came r no_unifier no_equality no_body no_atom (subst (BackFound M t e) h (back_found e w))
