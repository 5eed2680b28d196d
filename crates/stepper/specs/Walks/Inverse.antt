-- A step back undoes a step forward, on legal events; and a step forward keeps them legal.
use Rattle.std.specs.Prelude.{◌≡◌, refl}
use Rattle.std.proofs.Common.{sym, ◌∙◌, subst}
use Rattle.std.proofs.Math.Path.{ap}
use mathlib.Core.List.{List, [], ◌∷◌}
use Rattle.records.specs.Format.Syntax.{Goal, truth, failure, equal, conj, disj, atom, first, second, Ancestor, called, in_conj, in_disj, Bet, Port, call, exit, fail, redo, Event, event, goal?}
use Rattle.stepper.specs.Rules.Machine.{Machine, Admits, LimitLaws, gives, answer?}
use Rattle.stepper.specs.Rules.Rules.{selected, matching, rule, ununifiable, step_forward, candidate, checked, step_back}
use Rattle.stepper.specs.Rules.AnswerLaws.{Given, given_matching, given_unifier, given_body, matching_yes, fitting_none}
use Rattle.stepper.specs.Rules.ListedLaws.{forward_by_rule}
use Rattle.stepper.specs.Walks.Legal.{Solved, by_truth, by_equal, by_conj, by_disj, by_atom, CalledUnder, Legal}

module _ (M : Machine) (Q : Goal) (Seen : Event → Type 0) where
  -- a step's result is legal, and read back it names the event as its source
  abbrev pub Good : Event → Event → Type 0
  Good e d = Legal M Q Seen d × (candidate M d ≡ gives e)

  call_good : (g : Goal) (u : List Ancestor) (s : List Bet) → Legal M Q Seen (event call g u s) → Seen (event call g u s)
      → Given (Good (event call g u s)) (rule M (event call g u s))
  unfolding rule candidate
  call_good truth u s c n = ((s, c, n, by_truth), refl)
  call_good failure u s c n = ((c, n), refl)
  call_good (equal l r) u s c n =
      given_unifier (Good (event call (equal l r) u s)) (M.unify s l r) _ _ (λ h. ((c, n), rw h)) (λ m h. ((s, c, n, by_equal h), rw h))
  call_good (conj a b) u s c n = ((refl, c, n), matching_yes (goal? a a) _ refl)
  call_good (disj a b) u s c n = ((refl, c, n), matching_yes (goal? a a) _ refl)
  call_good (atom p ts) u s c n =
      given_body (Good (event call (atom p ts) u s)) (M.body p ts u s) _ _ (λ h. ((c, n), rw h)) (λ g h. ((h, c, n), rw h))

  -- a rule that asks for the goal a: it is enough to look at the event whose goal is a
  on_goal : (p : Port) (u : List Ancestor) (s : List Bet) (g a : Goal) (d : Event) → Legal M Q Seen (event p g u s) → Seen (event p g u s)
      → (Legal M Q Seen (event p a u s) → Seen (event p a u s) → Good (event p a u s) d) → Given (Good (event p g u s)) (matching (goal? g a) d)
  on_goal p u s g a d c n k =
      given_matching (Good (event p g u s)) (goal? g a) d
      (λ h. subst (λ x. Good (event p x u s) d) (sym h) (k (subst (λ x. Legal M Q Seen (event p x u s)) h c) (subst (λ x. Seen (event p x u s)) h n)))

  exit_good : (g : Goal) (u : List Ancestor) (s : List Bet) → Legal M Q Seen (event exit g u s) → Seen (event exit g u s)
      → Given (Good (event exit g u s)) (rule M (event exit g u s))
  unfolding rule candidate
  exit_good g [] s c n = tt
  exit_good g (in_conj first a b ∷ u) s c n =
      on_goal exit _ s g a _ c n (λ c n. ((refl, (c.0, c.1.1, c.1.2, c.3, n, c.2)), matching_yes (goal? b b) _ refl))
  exit_good g (in_conj second a b ∷ u) s c n =
      on_goal exit _ s g b _ c n (λ c n. let r = c.1.1 in ((r.0, r.1, r.2, by_conj r.3 r.4 r.5 c.3 n c.2), refl))
  exit_good g (in_disj k a b ∷ u) s c n =
      on_goal exit _ s g (selected k a b) _ c n (λ c n. ((c.0, c.1.1, c.1.2, by_disj k c.3 n c.2), refl))
  exit_good g (called p ts ∷ u) s c n = ((c.0, c.1.1, c.1.2, by_atom c.1.0 c.3 n c.2), refl)

  fail_good : (g : Goal) (u : List Ancestor) (s : List Bet) → Legal M Q Seen (event fail g u s) → Seen (event fail g u s)
      → Given (Good (event fail g u s)) (rule M (event fail g u s))
  unfolding rule candidate
  fail_good g [] s c n = tt
  fail_good g (in_conj first a b ∷ u) s c n = on_goal fail _ s g a _ c n (λ c n. ((c.0.1, c.0.2), refl))
  fail_good g (in_conj second a b ∷ u) s c n =
      on_goal fail _ s g b _ c n (λ c n. let r = c.0.1 in ((r.0, (refl, r.1, r.2), r.5, r.3, r.4), matching_yes (goal? a a) _ refl))
  fail_good g (in_disj first a b ∷ u) s c n = on_goal fail _ s g a _ c n (λ c n. ((refl, c.0.1, c.0.2), matching_yes (goal? b b) _ refl))
  fail_good g (in_disj second a b ∷ u) s c n = on_goal fail _ s g b _ c n (λ c n. ((c.0.1, c.0.2), refl))
  fail_good g (called p ts ∷ u) s c n = ((c.0.1, c.0.2), rw c.0.0)

  redo_good : (g : Goal) (u : List Ancestor) (r s : List Bet) → CalledUnder M Q Seen u g r → Seen (event call g u r) → Solved M Q Seen g u r s
      → Given (Good (event redo g u s)) (rule M (event redo g u s))
  unfolding rule candidate
  redo_good g u r s c n by_truth = ((c, n), refl)
  redo_good g u r s c n (by_equal h) = ((c, n), rw h)
  redo_good g u r s c n (by_conj {b = b} {t = t} y z w y' z' w') = ((t, (refl, (r, c, n, y, z, w)), w', y', z'), matching_yes (goal? b b) _ refl)
  redo_good g u r s c n (by_disj k y z w) = ((r, (refl, c, n), w, y, z), matching_yes (goal? _ _) _ refl)
  redo_good g u r s c n (by_atom h y z w) = ((r, (h, c, n), w, y, z), refl)

  -- every rule, from every legal event
  pub good : (e : Event) → Legal M Q Seen e → Seen e → Given (Good e) (rule M e)
  good (event call g u s) c n = call_good g u s c n
  good (event exit g u s) c n = exit_good g u s c n
  good (event fail g u s) c n = fail_good g u s c n
  good (event redo g u s) c n = redo_good g u c.0 s c.1 c.2 c.3

  pub rule_good : (e d : Event) → Legal M Q Seen e → Seen e → rule M e ≡ gives d → Good e d
  rule_good e d c n h = subst (Given (Good e)) h (good e c n)

  -- a step forward from a legal event leads to a legal one, from which the step back leads back
  pub forward_back : LimitLaws M → (e d : Event) → Legal M Q Seen e → Seen e → Admits M e → step_forward M e ≡ gives d
      → Legal M Q Seen d × (step_back M d ≡ gives e)
  unfolding step_back checked
  forward_back limits e d c n l h =
      let g = rule_good e d c n (forward_by_rule M e d h) in
      (g.0, ap (checked M d) g.1 ∙ rw ((limits.as_candidate e).0 l) (fitting_none (ununifiable M e) _) ∙ matching_yes (answer? (step_forward M e) (gives d)) e h)
