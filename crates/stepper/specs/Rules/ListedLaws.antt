-- The function of `Rules` and the list of `Listed` agree: the function gives exactly what a listed rule leads to.
use Rattle.std.specs.Prelude.{◌≡◌, ◌↔◌, false}
use Rattle.std.proofs.Math.Path.{refl, ap, subst}
use Rattle.std.proofs.Common.{sym, ◌∙◌}
use mathlib.Core.List.{List, [], ◌∷◌}
use Rattle.records.specs.Gate.ReplyLaws.{gives_injective}
use Rattle.records.specs.Format.Never.{never}
use Rattle.records.specs.Format.Syntax.{Goal, truth, failure, equal, conj, disj, atom, Half, first, second, Ancestor, called, in_conj, in_disj, Bet, or, Port, call, exit, fail, redo, Event, event, goal?}
use Rattle.stepper.specs.Rules.Machine.{Machine, Admits, StepOutcome, refused, gives, answer?}
use Rattle.stepper.specs.Rules.Rules.{matching, fitting, selected, rule, ununifiable, limited_by, step_forward, candidate, checked, step_back}
use Rattle.stepper.specs.Rules.AnswerLaws.{Given, given_goal, given_unifier, given_body, given_top_unifier, given_top_or, given_top_by, matching_yes, matching_gives, fitting_gives, fitting_iff}
use Rattle.stepper.specs.Rules.Listed.{Rule, conj_call, conj_exit_first, conj_fail_first, conj_exit_second, conj_fail_second, conj_redo, disj_call, disj_fail_first, disj_fail_second, disj_exit_first, disj_exit_second, disj_redo, true_call, true_redo, fail_call, equal_call, equal_clash, equal_redo, atom_call, atom_undefined, atom_exit, atom_fail, atom_redo}

module _ (M : Machine) where
  -- each listed rule is followed
  pub rule_follows : (e d : Event) → Rule M e d → rule M e ≡ gives d
  unfolding rule
  rule_follows e d conj_call = refl
  rule_follows e d conj_exit_first = matching_yes (goal? _ _) _ refl
  rule_follows e d conj_fail_first = matching_yes (goal? _ _) _ refl
  rule_follows e d conj_exit_second = matching_yes (goal? _ _) _ refl
  rule_follows e d conj_fail_second = matching_yes (goal? _ _) _ refl
  rule_follows e d conj_redo = refl
  rule_follows e d disj_call = refl
  rule_follows e d disj_fail_first = matching_yes (goal? _ _) _ refl
  rule_follows e d disj_fail_second = matching_yes (goal? _ _) _ refl
  rule_follows e d disj_exit_first = matching_yes (goal? _ _) _ refl
  rule_follows e d disj_exit_second = matching_yes (goal? _ _) _ refl
  rule_follows e d (disj_redo n) = refl
  rule_follows e d true_call = refl
  rule_follows e d true_redo = refl
  rule_follows e d fail_call = refl
  rule_follows e d (equal_call h) = rw h
  rule_follows e d (equal_clash h) = rw h
  rule_follows e d equal_redo = refl
  rule_follows e d (atom_call h) = rw h
  rule_follows e d (atom_undefined h) = rw h
  rule_follows e d atom_exit = refl
  rule_follows e d atom_fail = refl
  rule_follows e d atom_redo = refl

  -- a rule that asks for the goal a
  for_goal : (p : Port) (u : List Ancestor) (s : List Bet) (g a : Goal) (d : Event) → Rule M (event p a u s) d
      → Given (Rule M (event p g u s)) (matching (goal? g a) d)
  for_goal p u s g a d r = given_goal (λ x. Rule M (event p x u s)) g a d r

  pub disj_exit : (n : Half) (a b : Goal) (u : List Ancestor) (s : List Bet)
      → Rule M (event exit (selected n a b) (in_disj n a b ∷ u) s) (event exit (disj a b) u (or n ∷ s))
  unfolding selected
  disj_exit first a b u s = disj_exit_first
  disj_exit second a b u s = disj_exit_second

  -- and nothing else is
  rule_listed : (e : Event) → Given (Rule M e) (rule M e)
  unfolding rule
  rule_listed (event call truth u s) = true_call
  rule_listed (event call failure u s) = fail_call
  rule_listed (event call (equal l r) u s) =
      given_unifier (Rule M (event call (equal l r) u s)) (M.unify s l r) _ _ (λ h. equal_clash h) (λ m h. equal_call h)
  rule_listed (event call (conj a b) u s) = conj_call
  rule_listed (event call (disj a b) u s) = disj_call
  rule_listed (event call (atom p ts) u s) =
      given_body (Rule M (event call (atom p ts) u s)) (M.body p ts u s) _ _ (λ h. atom_undefined h) (λ m h. atom_call h)
  rule_listed (event exit g [] s) = tt
  rule_listed (event exit g (in_conj first a b ∷ u) s) = for_goal exit _ s g a _ conj_exit_first
  rule_listed (event exit g (in_conj second a b ∷ u) s) = for_goal exit _ s g b _ conj_exit_second
  rule_listed (event exit g (in_disj n a b ∷ u) s) = for_goal exit _ s g (selected n a b) _ (disj_exit n a b u s)
  rule_listed (event exit g (called p ts ∷ u) s) = atom_exit
  rule_listed (event fail g [] s) = tt
  rule_listed (event fail g (in_conj first a b ∷ u) s) = for_goal fail _ s g a _ conj_fail_first
  rule_listed (event fail g (in_conj second a b ∷ u) s) = for_goal fail _ s g b _ conj_fail_second
  rule_listed (event fail g (in_disj first a b ∷ u) s) = for_goal fail _ s g a _ disj_fail_first
  rule_listed (event fail g (in_disj second a b ∷ u) s) = for_goal fail _ s g b _ disj_fail_second
  rule_listed (event fail g (called p ts ∷ u) s) = atom_fail
  rule_listed (event redo truth u s) = true_redo
  rule_listed (event redo failure u s) = tt
  rule_listed (event redo (equal l r) u s) = given_top_unifier (λ s. Rule M (event redo (equal l r) u s)) s _ (λ m t. equal_redo)
  rule_listed (event redo (conj a b) u s) = conj_redo
  rule_listed (event redo (disj a b) u s) = given_top_or (λ s. Rule M (event redo (disj a b) u s)) s _ (λ n t. disj_redo n)
  rule_listed (event redo (atom p ts) u s) = given_top_by (λ s. Rule M (event redo (atom p ts) u s)) s _ (λ g t. atom_redo)

  -- the function gives an event exactly when a listed rule leads to it
  pub rule_iff : (e d : Event) → (rule M e ≡ gives d) ↔ Rule M e d
  rule_iff e d = (λ h. subst (Given (Rule M e)) h (rule_listed e), rule_follows e d)

  -- at most one rule leads on from an event
  pub rule_unique : (e c d : Event) → Rule M e c → Rule M e d → c ≡ d
  rule_unique e c d h k = gives_injective (sym (rule_follows e c h) ∙ rule_follows e d k)

  -- question 10 only refuses
  pub forward_by_rule : (e d : Event) → step_forward M e ≡ gives d → rule M e ≡ gives d
  unfolding step_forward limited_by
  forward_by_rule e d h = go (rule M e) h
    where
      go : (a : StepOutcome) → limited_by M.result_limit (ununifiable M e) a ≡ gives d → a ≡ gives d
      go (refused q) k = k
      go (gives c) k = fitting_gives (ununifiable M e) (M.result_limit c) (gives c) d k

  -- a step forward gives what a listed rule leads to, if question 10 says yes to it or is not put
  forward_asks : (e d : Event) → rule M e ≡ gives d → step_forward M e ≡ fitting (ununifiable M e) (M.result_limit d) (gives d)
  unfolding step_forward limited_by
  forward_asks e d h = ap (limited_by M.result_limit (ununifiable M e)) h

  pub forward_iff : (e d : Event) → (step_forward M e ≡ gives d) ↔ (Rule M e d × (ununifiable M e ≡ false → Admits M d))
  forward_iff e d = (
    (λ h.
        let k = forward_by_rule e d h in
        ((rule_iff e d).0 k, (fitting_iff (ununifiable M e) (M.result_limit d) d).0 (sym (forward_asks e d k) ∙ h))),
    (λ h. forward_asks e d (rule_follows e d h.0) ∙ (fitting_iff (ununifiable M e) (M.result_limit d) d).1 h.1),
  )

  -- a step back gives the candidate, which steps forward to the given event
  back_by_candidate : (e c : Event) → step_back M e ≡ gives c → (candidate M e ≡ gives c) × (step_forward M c ≡ gives e)
  unfolding step_back checked
  back_by_candidate e c h = go (candidate M e) h
    where
      go : (a : StepOutcome) → checked M e a ≡ gives c → (a ≡ gives c) × (step_forward M c ≡ gives e)
      go (refused q) k = never cc
      go (gives d) k =
          let r = matching_gives (answer? (step_forward M d) (gives e)) d c (fitting_gives (ununifiable M d) (M.candidate_limit d) _ c k) in
          (ap gives r.1, subst (λ x. step_forward M x ≡ gives e) r.1 r.0)

  pub back_candidate : (e c : Event) → step_back M e ≡ gives c → candidate M e ≡ gives c
  back_candidate e c h = (back_by_candidate e c h).0

  pub back_steps_forward : (e c : Event) → step_back M e ≡ gives c → step_forward M c ≡ gives e
  back_steps_forward e c h = (back_by_candidate e c h).1

  -- a step forward goes by a listed rule, and a step back is one read from right to left
  pub forward_listed : (e d : Event) → step_forward M e ≡ gives d → Rule M e d
  forward_listed e d h = (rule_iff e d).0 (forward_by_rule e d h)

  pub back_listed : (e c : Event) → step_back M e ≡ gives c → Rule M c e
  back_listed e c h = forward_listed c e (back_steps_forward e c h)
