-- The step back of `Back` is the step back of `Rules`: except in two rules the candidate always steps forward to the given event.
use Rattle.std.specs.Prelude.{◌≡◌, ℕ}
use Rattle.std.proofs.Math.Path.{refl, sym, ap}
use Rattle.std.proofs.Common.{◌∙◌}
use mathlib.Core.List.{List, [], ◌∷◌}
use Rattle.records.specs.Format.Syntax.{Term, Terms, Goal, truth, failure, equal, conj, disj, atom, first, second, Ancestor, called, in_conj, in_disj, Bet, unifier, or, by, Port, call, exit, fail, redo, Event, event, goal?}
use Rattle.terms.specs.Theory.Outcome.{Unified, too_large, clash, unified}
use Rattle.terms.specs.Body.Body.{Body, too_many, undefined, defined}
use Rattle.stepper.specs.Rules.Machine.{Machine, Admits, unified?, body?, StepOutcome, refused, gives, answer?}
use Rattle.stepper.specs.Rules.Rules.{selected, matching, by_unifier, by_body, fitting, rule, ununifiable, limited_by, step_forward, candidate, checked, step_back}
use Rattle.stepper.specs.Rules.AnswerLaws.{Given, given_goal, given_unifier, given_body, given_top_unifier, given_top_or, given_top_by, matching_yes, matching_iff, fitting_none}
use Rattle.stepper.specs.Rules.ListedLaws.{forward_by_rule}
use Rattle.stepper.specs.Rules.Back.{compared, checked_directly, step_back_direct}

-- what an answer to a call says of the body, and of the unifier
body_of : StepOutcome → Body
body_of (refused q) = too_many
body_of (gives (event call b u s)) = defined b
body_of (gives (event exit b u s)) = undefined
body_of (gives (event fail b u s)) = undefined
body_of (gives (event redo b u s)) = undefined

unifier_of : StepOutcome → Unified
unifier_of (refused q) = too_large
unifier_of (gives (event p g u [])) = clash
unifier_of (gives (event call g u (b ∷ s))) = clash
unifier_of (gives (event exit g u (unifier m ∷ s))) = unified m
unifier_of (gives (event exit g u (or n ∷ s))) = clash
unifier_of (gives (event exit g u (by b ∷ s))) = clash
unifier_of (gives (event fail g u (b ∷ s))) = clash
unifier_of (gives (event redo g u (b ∷ s))) = clash

body_read : (x : Body) (p : ℕ) (ts : Terms) (u : List Ancestor) (s : List Bet)
    → body_of (by_body x (event fail (atom p ts) u s) (λ b. event call b (called p ts ∷ u) s)) ≡ x
unfolding by_body body_of
body_read too_many p ts u s = refl
body_read undefined p ts u s = refl
body_read (defined b) p ts u s = refl

unifier_read : (x : Unified) (l r : Term) (u : List Ancestor) (s : List Bet)
    → unifier_of (by_unifier x (event fail (equal l r) u s) (λ m. event exit (equal l r) u (unifier m ∷ s))) ≡ x
unfolding by_unifier unifier_of
unifier_read too_large l r u s = refl
unifier_read clash l r u [] = refl
unifier_read clash l r u (b ∷ s) = refl
unifier_read (unified m) l r u s = refl

module _ (M : Machine) where
  -- the comparison answers the last question, put to the rules without question 10
  abbrev Same : Event → Event → Type 0
  Same e c = matching (answer? (rule M c) (gives e)) c ≡ compared M e c

  -- a right side that asks for the goal a
  for_goal : (p : Port) (u : List Ancestor) (s : List Bet) (g a : Goal) (c : Event) → Same (event p a u s) c
      → Given (Same (event p g u s)) (matching (goal? g a) c)
  for_goal p u s g a c h = given_goal (λ x. Same (event p x u s)) g a c h

  same : (e : Event) → Given (Same e) (candidate M e)
  unfolding candidate rule compared body_of unifier_of
  same (event call g [] []) = tt
  same (event call g [] (b ∷ s)) = tt
  same (event call g (in_conj first a b ∷ u) s) = for_goal call _ s g a _ (matching_yes (answer? _ _) _ refl)
  same (event call g (in_conj second a b ∷ u) s) = for_goal call _ s g b _ (matching_yes (answer? _ _) _ (matching_yes (goal? a a) _ refl))
  same (event call g (in_disj first a b ∷ u) s) = for_goal call _ s g a _ (matching_yes (answer? _ _) _ refl)
  same (event call g (in_disj second a b ∷ u) s) = for_goal call _ s g b _ (matching_yes (answer? _ _) _ (matching_yes (goal? a a) _ refl))
  same (event call g (called p ts ∷ u) s) =
      given_body (Same (event call g (called p ts ∷ u) s)) (M.body p ts u s) _ _ (λ h. this) (λ b h. this)
    where
      this : Same (event call g (called p ts ∷ u) s) (event call (atom p ts) u s)
      this =
          matching_iff (answer? _ _) (body? (M.body p ts u s) (defined g)) (event call (atom p ts) u s)
          (λ h. sym (body_read (M.body p ts u s) p ts u s) ∙ ap body_of h) (λ h. rw h)
  same (event exit truth u s) = matching_yes (answer? _ _) _ refl
  same (event exit failure u s) = tt
  same (event exit (equal l r) u s) =
      given_top_unifier (λ s. Same (event exit (equal l r) u s)) s _
      (λ m t. given_unifier (Same (event exit (equal l r) u (unifier m ∷ t))) (M.unify t l r) _ _ (λ h. this m t) (λ b h. this m t))
    where
      this : (m : _) (t : List Bet) → Same (event exit (equal l r) u (unifier m ∷ t)) (event call (equal l r) u t)
      this m t =
          matching_iff (answer? _ _) (unified? (M.unify t l r) (unified m)) (event call (equal l r) u t)
          (λ h. sym (unifier_read (M.unify t l r) l r u t) ∙ ap unifier_of h) (λ h. rw h)
  same (event exit (conj a b) u s) = matching_yes (answer? _ _) _ (matching_yes (goal? b b) _ refl)
  same (event exit (disj a b) u s) =
      given_top_or (λ s. Same (event exit (disj a b) u s)) s _ (λ n t. matching_yes (answer? _ _) _ (matching_yes (goal? _ _) _ refl))
  same (event exit (atom p ts) u s) = given_top_by (λ s. Same (event exit (atom p ts) u s)) s _ (λ g t. matching_yes (answer? _ _) _ refl)
  same (event fail truth u s) = matching_yes (answer? _ _) _ refl
  same (event fail failure u s) = matching_yes (answer? _ _) _ refl
  same (event fail (equal l r) u s) =
      given_unifier (Same (event fail (equal l r) u s)) (M.unify s l r) _ _
      (λ h. matching_yes (answer? (rule M (event call (equal l r) u s)) (gives (event fail (equal l r) u s))) _ (rw h))
      (λ m h. matching_yes (answer? _ _) _ refl)
  same (event fail (conj a b) u s) = matching_yes (answer? _ _) _ (matching_yes (goal? a a) _ refl)
  same (event fail (disj a b) u s) = matching_yes (answer? _ _) _ (matching_yes (goal? b b) _ refl)
  same (event fail (atom p ts) u s) =
      given_body (Same (event fail (atom p ts) u s)) (M.body p ts u s) _ _
      (λ h. matching_yes (answer? (rule M (event call (atom p ts) u s)) (gives (event fail (atom p ts) u s))) _ (rw h))
      (λ m h. matching_yes (answer? _ _) _ refl)
  same (event redo g [] s) = tt
  same (event redo g (in_conj first a b ∷ u) s) = for_goal redo _ s g a _ (matching_yes (answer? _ _) _ (matching_yes (goal? b b) _ refl))
  same (event redo g (in_conj second a b ∷ u) s) = for_goal redo _ s g b _ (matching_yes (answer? _ _) _ refl)
  same (event redo g (in_disj n a b ∷ u) s) = for_goal redo _ s g (selected n a b) _ (matching_yes (answer? _ _) _ refl)
  same (event redo g (called p ts ∷ u) s) = matching_yes (answer? _ _) _ refl

  -- to an event that is admitted a rule leads exactly when a step forward does
  rule_steps : (c e : Event) → Admits M e → rule M c ≡ gives e → step_forward M c ≡ gives e
  unfolding step_forward limited_by
  rule_steps c e l h = ap (limited_by M.result_limit (ununifiable M c)) h ∙ rw l (fitting_none (ununifiable M c) (gives e))

  -- the last question 7 of a step back is a comparison in two rules only
  pub step_back_directly : (e : Event) → Admits M e → step_back M e ≡ step_back_direct M e
  unfolding step_back checked step_back_direct checked_directly
  step_back_directly e l = go (candidate M e) (same e)
    where
      go : (a : StepOutcome) → Given (Same e) a → checked M e a ≡ checked_directly M e a
      go (refused q) h = refl
      go (gives c) h =
          ap (fitting (ununifiable M c) (M.candidate_limit c))
          (matching_iff (answer? (step_forward M c) (gives e)) (answer? (rule M c) (gives e)) c (forward_by_rule M c e) (rule_steps c e l) ∙ h)
