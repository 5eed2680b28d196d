-- The candidate of `Rules` is the one of `Sources`; and a step back gives the source of the event, if question 10 says yes to it: for every event,
-- reached or not.
use Rattle.std.specs.Prelude.{◌≡◌, ◌↔◌}
use Rattle.std.proofs.Math.Path.{refl, ap}
use Rattle.std.proofs.Common.{sym, ◌∙◌, subst}
use Rattle.std.proofs.Math.Bool.{false}
use mathlib.Core.List.{List, [], ◌∷◌}
use Rattle.std.proofs.Math.Option.{none}
use Rattle.records.specs.Gate.ReplyLaws.{gives_injective}
use Rattle.records.specs.Format.Syntax.{Goal, truth, failure, equal, conj, disj, atom, first, second, Ancestor, called, in_conj, in_disj, Bet, unifier, Port, call, exit, fail, redo, Event, event, goal?}
use Rattle.terms.specs.Theory.Outcome.{clash, unified}
use Rattle.terms.specs.Body.Body.{undefined, defined}
use Rattle.stepper.specs.Rules.Machine.{Machine, Admits, constant_machine, gives, answer?}
use Rattle.stepper.specs.Rules.Rules.{selected, matching, fitting, ununifiable, step_forward, candidate, checked, step_back}
use Rattle.stepper.specs.Rules.AnswerLaws.{Given, given_goal, given_unifier, given_body, given_top_unifier, given_top_or, given_top_by, unifier_either, body_either, given_unifier_either, given_body_either, matching_yes, fitting_iff}
use Rattle.stepper.specs.Rules.Listed.{Rule, conj_call, conj_exit_first, conj_fail_first, conj_exit_second, conj_fail_second, conj_redo, disj_call, disj_fail_first, disj_fail_second, disj_exit_first, disj_exit_second, disj_redo, true_call, true_redo, fail_call, equal_call, equal_clash, equal_redo, atom_call, atom_undefined, atom_exit, atom_fail, atom_redo}
use Rattle.stepper.specs.Rules.ListedLaws.{disj_exit, forward_iff, forward_listed, back_candidate, back_steps_forward}
use Rattle.stepper.specs.Rules.Sources.{Own, Source, Candidate, source, any_unifier, any_body}

module _ (M : Machine) where
  -- a source is the candidate
  pub source_candidate : (c e : Event) → Rule M c e → Own M c → candidate M e ≡ gives c
  unfolding candidate
  source_candidate c e conj_call o = matching_yes (goal? _ _) _ refl
  source_candidate c e conj_exit_first o = matching_yes (goal? _ _) _ refl
  source_candidate c e conj_fail_first o = refl
  source_candidate c e conj_exit_second o = refl
  source_candidate c e conj_fail_second o = matching_yes (goal? _ _) _ refl
  source_candidate c e conj_redo o = matching_yes (goal? _ _) _ refl
  source_candidate c e disj_call o = matching_yes (goal? _ _) _ refl
  source_candidate c e disj_fail_first o = matching_yes (goal? _ _) _ refl
  source_candidate c e disj_fail_second o = refl
  source_candidate c e disj_exit_first o = refl
  source_candidate c e disj_exit_second o = refl
  source_candidate c e (disj_redo n) o = matching_yes (goal? _ _) _ refl
  source_candidate c e true_call o = refl
  source_candidate c e true_redo o = refl
  source_candidate c e fail_call o = refl
  source_candidate c e (equal_call h) o = rw h
  source_candidate c e (equal_clash h) o = rw h
  source_candidate c e equal_redo o = rw o
  source_candidate c e (atom_call h) o = rw h
  source_candidate c e (atom_undefined h) o = rw h
  source_candidate c e atom_exit o = refl
  source_candidate c e atom_fail o = rw o
  source_candidate c e atom_redo o = refl

  -- so an event has one source
  pub source_unique : (b c e : Event) → Source M b e → Source M c e → b ≡ c
  source_unique b c e h k = gives_injective (sym (source_candidate b e h.0 h.1) ∙ source_candidate c e k.0 k.1)

  -- a right side that asks for the goal a
  for_goal : (p : Port) (u : List Ancestor) (s : List Bet) (g a : Goal) (c : Event) → Source M c (event p a u s)
      → Given (λ c. Candidate M c (event p g u s)) (matching (goal? g a) c)
  for_goal p u s g a c h = given_goal (λ x c. Candidate M c (event p x u s)) g a c (source h)

  -- the function gives a candidate,
  candidate_listed : (e : Event) → Given (λ c. Candidate M c e) (candidate M e)
  unfolding candidate
  candidate_listed (event call g [] []) = tt
  candidate_listed (event call g [] (b ∷ s)) = tt
  candidate_listed (event call g (in_conj first a b ∷ u) s) = for_goal call _ s g a _ (conj_call, tt)
  candidate_listed (event call g (in_conj second a b ∷ u) s) = for_goal call _ s g b _ (conj_exit_first, tt)
  candidate_listed (event call g (in_disj first a b ∷ u) s) = for_goal call _ s g a _ (disj_call, tt)
  candidate_listed (event call g (in_disj second a b ∷ u) s) = for_goal call _ s g b _ (disj_fail_first, tt)
  candidate_listed (event call g (called p ts ∷ u) s) =
      given_body_either (λ c. Candidate M c (event call g (called p ts ∷ u) s)) (M.body p ts u s) _ (λ h. any_body h)
  candidate_listed (event exit truth u s) = source (true_call, tt)
  candidate_listed (event exit failure u s) = tt
  candidate_listed (event exit (equal l r) u s) =
      given_top_unifier (λ s c. Candidate M c (event exit (equal l r) u s)) s _
      (λ m t. given_unifier_either (λ c. Candidate M c (event exit (equal l r) u (unifier m ∷ t))) (M.unify t l r) _ (λ h. any_unifier h))
  candidate_listed (event exit (conj a b) u s) = source (conj_exit_second, tt)
  candidate_listed (event exit (disj a b) u s) =
      given_top_or (λ s c. Candidate M c (event exit (disj a b) u s)) s _ (λ n t. source (disj_exit M n a b u t, tt))
  candidate_listed (event exit (atom p ts) u s) =
      given_top_by (λ s c. Candidate M c (event exit (atom p ts) u s)) s _ (λ g t. source (atom_exit, tt))
  candidate_listed (event fail truth u s) = source (true_redo, tt)
  candidate_listed (event fail failure u s) = source (fail_call, tt)
  candidate_listed (event fail (equal l r) u s) =
      given_unifier (λ c. Candidate M c (event fail (equal l r) u s)) (M.unify s l r) _ _
      (λ h. source (equal_clash h, tt)) (λ m h. source (equal_redo, h))
  candidate_listed (event fail (conj a b) u s) = source (conj_fail_first, tt)
  candidate_listed (event fail (disj a b) u s) = source (disj_fail_second, tt)
  candidate_listed (event fail (atom p ts) u s) =
      given_body (λ c. Candidate M c (event fail (atom p ts) u s)) (M.body p ts u s) _ _
      (λ h. source (atom_undefined h, tt)) (λ g h. source (atom_fail, h))
  candidate_listed (event redo g [] s) = tt
  candidate_listed (event redo g (in_conj first a b ∷ u) s) = for_goal redo _ s g a _ (conj_fail_second, tt)
  candidate_listed (event redo g (in_conj second a b ∷ u) s) = for_goal redo _ s g b _ (conj_redo, tt)
  candidate_listed (event redo g (in_disj n a b ∷ u) s) = for_goal redo _ s g (selected n a b) _ (disj_redo n, tt)
  candidate_listed (event redo g (called p ts ∷ u) s) = source (atom_redo, tt)

  -- and each candidate
  candidate_followed : (c e : Event) → Candidate M c e → candidate M e ≡ gives c
  unfolding candidate
  candidate_followed c e (source h) = source_candidate c e h.0 h.1
  candidate_followed c e (any_unifier h) = unifier_either (M.unify _ _ _) c h
  candidate_followed c e (any_body h) = body_either (M.body _ _ _ _) c h

  -- so it gives an event exactly when that is the candidate
  pub candidate_iff : (e c : Event) → (candidate M e ≡ gives c) ↔ Candidate M c e
  candidate_iff e c = (λ h. subst (Given (λ c. Candidate M c e)) h (candidate_listed e), candidate_followed c e)

  -- from a candidate some rule leads to the event, whatever the unifier and the program
  pub candidate_ruled : (c e : Event) → Candidate M c e → (N : Machine) × Rule N c e
  candidate_ruled c e (source h) = (M, h.0)
  candidate_ruled c e (any_unifier {m = m} h) = (constant_machine (unified m) undefined, equal_call refl)
  candidate_ruled c e (any_body {g = g} h) = (constant_machine clash (defined g), atom_call refl)

  -- and it has its call's unifier or body
  pub candidate_own : (c e : Event) → Candidate M c e → Own M c
  candidate_own c e (source h) = h.1
  candidate_own c e (any_unifier h) = tt
  candidate_own c e (any_body h) = tt

  -- To an event that is admitted, a step back gives its source, if question 10 says yes to it or is not put.
  pub back_iff : (e c : Event) → Admits M e
      → (step_back M e ≡ gives c) ↔ (Source M c e × (ununifiable M c ≡ false → M.candidate_limit c ≡ none))
  unfolding step_back checked
  back_iff e c l = (there, again)
    where
      there : step_back M e ≡ gives c → Source M c e × (ununifiable M c ≡ false → M.candidate_limit c ≡ none)
      there h =
          let k = back_candidate M e c h in
          let f = back_steps_forward M e c h in
          let asked : fitting (ununifiable M c) (M.candidate_limit c) _ ≡ gives c = ap (checked M e) (sym k) ∙ h in (
            (forward_listed M c e f, candidate_own c e ((candidate_iff e c).0 k)),
            (fitting_iff (ununifiable M c) (M.candidate_limit c) c).0
                (ap (fitting (ununifiable M c) (M.candidate_limit c)) (sym (matching_yes (answer? (step_forward M c) (gives e)) c f)) ∙ asked),
          )

      again : Source M c e × (ununifiable M c ≡ false → M.candidate_limit c ≡ none) → step_back M e ≡ gives c
      again h =
          let f : step_forward M c ≡ gives e = (forward_iff M c e).1 (h.0.0, λ u. l) in
          ap (checked M e) (source_candidate c e h.0.0 h.0.1)
          ∙ ap (fitting (ununifiable M c) (M.candidate_limit c)) (matching_yes (answer? (step_forward M c) (gives e)) c f)
          ∙ (fitting_iff (ununifiable M c) (M.candidate_limit c) c).1 h.1
