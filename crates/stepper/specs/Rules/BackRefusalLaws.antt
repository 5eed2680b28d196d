-- The step back of `Rules` is refused exactly as `Refusals` lists.
use Rattle.std.specs.Prelude.{◌≡◌, ◌↔◌, Bool, true}
use Rattle.std.proofs.Math.Path.{refl, ap, subst}
use Rattle.std.proofs.Common.{sym, ◌∙◌}
use Rattle.std.proofs.Math.Bool.{false}
use mathlib.Core.List.{List, [], ◌∷◌}
use Rattle.std.proofs.Math.Option.{Option, none, some}
use Rattle.records.specs.Gate.ReplyLaws.{refused_not_gives}
use Rattle.records.specs.Format.Never.{never}
use Rattle.records.specs.Format.Syntax.{Goal, truth, failure, equal, conj, disj, atom, first, second, called, in_conj, in_disj, Binding, unifier, or, by, call, exit, fail, redo, Event, event, goal?}
use Rattle.records.specs.Gate.Question.{Question, possible, matches, values, locals}
use Rattle.terms.specs.Theory.Outcome.{Unified, too_large, clash, unified}
use Rattle.terms.specs.Body.Body.{Body, too_many, undefined, defined}
use Rattle.stepper.specs.Rules.Machine.{Machine, constant_machine, StepOutcome, refused, gives, answer?}
use Rattle.stepper.specs.Rules.Rules.{selected, matching, by_unifier, by_body, fitting, ununifiable, step_forward, candidate, checked, step_back}
use Rattle.stepper.specs.Rules.AnswerLaws.{matching_no, matching_refused, fitting_passes}
use Rattle.stepper.specs.Rules.Listed.{Rule, conj_call, conj_exit_first, conj_fail_first, conj_exit_second, conj_fail_second, conj_redo, disj_call, disj_fail_first, disj_fail_second, disj_exit_first, disj_exit_second, disj_redo, true_call, true_redo, fail_call, equal_call, equal_clash, equal_redo, atom_call, atom_undefined, atom_exit, atom_fail, atom_redo}
use Rattle.stepper.specs.Rules.Sources.{Own, Candidate}
use Rattle.stepper.specs.Rules.SourceLaws.{source_candidate, candidate_iff, candidate_ruled}
use Rattle.stepper.specs.Rules.RefusalLaws.{WhenRefused, empty_machine}
use Rattle.stepper.specs.Rules.ListedLaws.{forward_iff}
use Rattle.stepper.specs.Rules.Refusals.{AtStart, BackRefusal, walk_begins, no_right_side, exit_value_too_large, fail_value_too_large, body_local_too_large, fail_local_too_large, candidate_refused, leads_elsewhere}

by_unifier_asks : (x : Unified) (c : Event) (k : List Binding → Event) → by_unifier x c k ≡ refused matches → ⊥
unfolding by_unifier
by_unifier_asks too_large c k h = never cc
by_unifier_asks clash c k h = never cc
by_unifier_asks (unified m) c k h = never cc

by_body_asks : (x : Body) (c : Event) (k : Goal → Event) → by_body x c k ≡ refused matches → ⊥
unfolding by_body
by_body_asks too_many c k h = never cc
by_body_asks undefined c k h = never cc
by_body_asks (defined g) c k h = never cc

module _ (N : Machine) where
  -- the right side of a rule passes the first question 7
  sourced : (c e : Event) → Rule N c e → Own N c → candidate N e ≡ refused matches → ⊥
  sourced c e r o h = refused_not_gives (sym h ∙ source_candidate N c e r o)

  right_side_asks : (c e : Event) → Rule N c e → candidate N e ≡ refused matches → ⊥
  unfolding candidate
  right_side_asks c e conj_call h = sourced c e conj_call tt h
  right_side_asks c e conj_exit_first h = sourced c e conj_exit_first tt h
  right_side_asks c e conj_fail_first h = sourced c e conj_fail_first tt h
  right_side_asks c e conj_exit_second h = sourced c e conj_exit_second tt h
  right_side_asks c e conj_fail_second h = sourced c e conj_fail_second tt h
  right_side_asks c e conj_redo h = sourced c e conj_redo tt h
  right_side_asks c e disj_call h = sourced c e disj_call tt h
  right_side_asks c e disj_fail_first h = sourced c e disj_fail_first tt h
  right_side_asks c e disj_fail_second h = sourced c e disj_fail_second tt h
  right_side_asks c e disj_exit_first h = sourced c e disj_exit_first tt h
  right_side_asks c e disj_exit_second h = sourced c e disj_exit_second tt h
  right_side_asks c e (disj_redo n) h = sourced c e (disj_redo n) tt h
  right_side_asks c e true_call h = sourced c e true_call tt h
  right_side_asks c e true_redo h = sourced c e true_redo tt h
  right_side_asks c e fail_call h = sourced c e fail_call tt h
  right_side_asks c e (equal_call k) h = sourced c e (equal_call k) tt h
  right_side_asks c e (equal_clash k) h = sourced c e (equal_clash k) tt h
  right_side_asks c e (atom_call k) h = sourced c e (atom_call k) tt h
  right_side_asks c e (atom_undefined k) h = sourced c e (atom_undefined k) tt h
  right_side_asks c e atom_exit h = sourced c e atom_exit tt h
  right_side_asks c e atom_redo h = sourced c e atom_redo tt h
  right_side_asks c e equal_redo h = by_unifier_asks (N.unify _ _ _) _ _ h
  right_side_asks c e atom_fail h = by_body_asks (N.body _ _ _ _) _ _ h

module _ (M : Machine) where
  -- an event that the first question 7 refuses under every machine
  stuck : (e : Event) → (AtStart e → ⊥) → ((N : Machine) → candidate N e ≡ refused matches) → BackRefusal M e matches
  stuck e w h = no_right_side w (λ N c r. right_side_asks N c e r (h N))

  stuck_matching {ℓ} : {P : Type ℓ} (e : Event) (d : Dec P) (c : Event) → (AtStart e → ⊥) → ((N : Machine) → candidate N e ≡ matching d c)
      → WhenRefused (BackRefusal M e) (matching d c)
  unfolding matching
  stuck_matching e (yes p) c w h = tt
  stuck_matching e (no p) c w h = stuck e w h

  unifier_asked : (e : Event) (x : Unified) (c : Event) (k : List Binding → Event) → (x ≡ too_large → BackRefusal M e values)
      → WhenRefused (BackRefusal M e) (by_unifier x c k)
  unfolding by_unifier
  unifier_asked e too_large c k h = h refl
  unifier_asked e clash c k h = tt
  unifier_asked e (unified m) c k h = tt

  body_asked : (e : Event) (x : Body) (c : Event) (k : Goal → Event) → (x ≡ too_many → BackRefusal M e locals)
      → WhenRefused (BackRefusal M e) (by_body x c k)
  unfolding by_body
  body_asked e too_many c k h = h refl
  body_asked e undefined c k h = tt
  body_asked e (defined g) c k h = tt

  -- what questions 6 to 9 refuse
  candidate_refusal : (e : Event) → WhenRefused (BackRefusal M e) (candidate M e)
  unfolding candidate
  candidate_refusal (event call g [] []) = walk_begins tt
  candidate_refusal (event call g [] (b ∷ s)) = stuck (event call g [] (b ∷ s)) (λ x. x) (λ N. refl)
  candidate_refusal (event call g (in_conj first a b ∷ u) s) = stuck_matching (event call g (in_conj first a b ∷ u) s) (goal? g a) _ (λ x. x) (λ N. refl)
  candidate_refusal (event call g (in_conj second a b ∷ u) s) = stuck_matching (event call g (in_conj second a b ∷ u) s) (goal? g b) _ (λ x. x) (λ N. refl)
  candidate_refusal (event call g (in_disj first a b ∷ u) s) = stuck_matching (event call g (in_disj first a b ∷ u) s) (goal? g a) _ (λ x. x) (λ N. refl)
  candidate_refusal (event call g (in_disj second a b ∷ u) s) = stuck_matching (event call g (in_disj second a b ∷ u) s) (goal? g b) _ (λ x. x) (λ N. refl)
  candidate_refusal (event call g (called p ts ∷ u) s) = body_asked (event call g (called p ts ∷ u) s) (M.body p ts u s) _ _ (λ h. body_local_too_large h)
  candidate_refusal (event exit truth u s) = tt
  candidate_refusal (event exit failure u s) = stuck (event exit failure u s) (λ x. x) (λ N. refl)
  candidate_refusal (event exit (equal l r) u []) = stuck (event exit (equal l r) u []) (λ x. x) (λ N. refl)
  candidate_refusal (event exit (equal l r) u (unifier m ∷ s)) =
      unifier_asked (event exit (equal l r) u (unifier m ∷ s)) (M.unify s l r) _ _ (λ h. exit_value_too_large h)
  candidate_refusal (event exit (equal l r) u (or n ∷ s)) = stuck (event exit (equal l r) u (or n ∷ s)) (λ x. x) (λ N. refl)
  candidate_refusal (event exit (equal l r) u (by g ∷ s)) = stuck (event exit (equal l r) u (by g ∷ s)) (λ x. x) (λ N. refl)
  candidate_refusal (event exit (conj a b) u s) = tt
  candidate_refusal (event exit (disj a b) u []) = stuck (event exit (disj a b) u []) (λ x. x) (λ N. refl)
  candidate_refusal (event exit (disj a b) u (unifier m ∷ s)) = stuck (event exit (disj a b) u (unifier m ∷ s)) (λ x. x) (λ N. refl)
  candidate_refusal (event exit (disj a b) u (or n ∷ s)) = tt
  candidate_refusal (event exit (disj a b) u (by g ∷ s)) = stuck (event exit (disj a b) u (by g ∷ s)) (λ x. x) (λ N. refl)
  candidate_refusal (event exit (atom p ts) u []) = stuck (event exit (atom p ts) u []) (λ x. x) (λ N. refl)
  candidate_refusal (event exit (atom p ts) u (unifier m ∷ s)) = stuck (event exit (atom p ts) u (unifier m ∷ s)) (λ x. x) (λ N. refl)
  candidate_refusal (event exit (atom p ts) u (or n ∷ s)) = stuck (event exit (atom p ts) u (or n ∷ s)) (λ x. x) (λ N. refl)
  candidate_refusal (event exit (atom p ts) u (by g ∷ s)) = tt
  candidate_refusal (event fail truth u s) = tt
  candidate_refusal (event fail failure u s) = tt
  candidate_refusal (event fail (equal l r) u s) = unifier_asked (event fail (equal l r) u s) (M.unify s l r) _ _ (λ h. fail_value_too_large h)
  candidate_refusal (event fail (conj a b) u s) = tt
  candidate_refusal (event fail (disj a b) u s) = tt
  candidate_refusal (event fail (atom p ts) u s) = body_asked (event fail (atom p ts) u s) (M.body p ts u s) _ _ (λ h. fail_local_too_large h)
  candidate_refusal (event redo g [] s) = stuck (event redo g [] s) (λ x. x) (λ N. refl)
  candidate_refusal (event redo g (in_conj first a b ∷ u) s) = stuck_matching (event redo g (in_conj first a b ∷ u) s) (goal? g a) _ (λ x. x) (λ N. refl)
  candidate_refusal (event redo g (in_conj second a b ∷ u) s) = stuck_matching (event redo g (in_conj second a b ∷ u) s) (goal? g b) _ (λ x. x) (λ N. refl)
  candidate_refusal (event redo g (in_disj n a b ∷ u) s) = stuck_matching (event redo g (in_disj n a b ∷ u) s) (goal? g (selected n a b)) _ (λ x. x) (λ N. refl)
  candidate_refusal (event redo g (called p ts ∷ u) s) = tt

  begins_refused : (e : Event) → AtStart e → candidate M e ≡ refused possible
  unfolding candidate
  begins_refused (event call g [] []) w = refl
  begins_refused (event call g [] (_ ∷ _)) w = elim w [ ]
  begins_refused (event call g (_ ∷ _) _) w = elim w [ ]
  begins_refused (event exit g _ _) w = elim w [ ]
  begins_refused (event fail g _ _) w = elim w [ ]
  begins_refused (event redo g _ _) w = elim w [ ]

  -- where no rule leads to the event, only 7 refuses
  only_matches : (e : Event) (q : Question) → (AtStart e → ⊥) → ((N : Machine) (c : Event) → Rule N c e → ⊥) → BackRefusal M e q → q ≡ matches
  only_matches e q w n (walk_begins b) = absurd (w b)
  only_matches e q w n (no_right_side b m) = refl
  only_matches e q w n (exit_value_too_large {m = m} h) = absurd (n (constant_machine (unified m) undefined) _ (equal_call refl))
  only_matches e q w n (fail_value_too_large h) = absurd (n empty_machine _ (equal_clash refl))
  only_matches e q w n (body_local_too_large {g = g} h) = absurd (n (constant_machine clash (defined g)) _ (atom_call refl))
  only_matches e q w n (fail_local_too_large h) = absurd (n empty_machine _ (atom_undefined refl))
  only_matches e q w n (candidate_refused {c = c} k u l) = let r = candidate_ruled M c e k in absurd (n r.0 c r.1)
  only_matches e q w n (leads_elsewhere k l f) = refl

  unled_refused : (e : Event) → (AtStart e → ⊥) → ((N : Machine) (c : Event) → Rule N c e → ⊥) → candidate M e ≡ refused matches
  unled_refused e w n = go (candidate M e) refl
    where
      go : (a : StepOutcome) → candidate M e ≡ a → candidate M e ≡ refused matches
      go (refused q) k = k ∙ ap refused (only_matches e q w n (subst (WhenRefused (BackRefusal M e)) k (candidate_refusal e)))
      go (gives c) k = let r = candidate_ruled M c e ((candidate_iff M e c).0 k) in absurd (n r.0 c r.1)

  -- every listed refusal is made
  refusal_made : (e : Event) (q : Question) → BackRefusal M e q → step_back M e ≡ refused q
  unfolding step_back checked candidate fitting
  refusal_made e q (walk_begins w) = ap (checked M e) (begins_refused e w)
  refusal_made e q (no_right_side w n) = ap (checked M e) (unled_refused e w n)
  refusal_made e q (exit_value_too_large h) = rw h
  refusal_made e q (fail_value_too_large h) = rw h
  refusal_made e q (body_local_too_large h) = rw h
  refusal_made e q (fail_local_too_large h) = rw h
  refusal_made e q (candidate_refused {c = c} k u l) = ap (checked M e) ((candidate_iff M e c).1 k) ∙ rw (u, l)
  refusal_made e q (leads_elsewhere {c = c} k l n) =
      ap (checked M e) ((candidate_iff M e c).1 k) ∙ fitting_passes (ununifiable M c) (M.candidate_limit c) _ l
      ∙ matching_no (answer? (step_forward M c) (gives e)) c (λ h. n ((forward_iff M c e).0 h))

  -- and no other
  refusal_listed : (e : Event) (q : Question) → step_back M e ≡ refused q → BackRefusal M e q
  unfolding step_back checked fitting
  refusal_listed e q h = go (candidate M e) refl h
    where
      last : (c : Event) → Candidate M c e → (ununifiable M c ≡ false → M.candidate_limit c ≡ none)
          → matching (answer? (step_forward M c) (gives e)) c ≡ refused q → BackRefusal M e q
      last c k l h =
          let r = matching_refused (answer? (step_forward M c) (gives e)) c q h in
          subst (BackRefusal M e) r.1 (leads_elsewhere k l (λ f. r.0 ((forward_iff M c e).1 f)))

      asked : (c : Event) → Candidate M c e → (b : Bool) (o : Option Question) → ununifiable M c ≡ b → M.candidate_limit c ≡ o
          → fitting b o (matching (answer? (step_forward M c) (gives e)) c) ≡ refused q → BackRefusal M e q
      asked c k true o u l h = last c k (λ z. never (sym u ∙ z)) h
      asked c k false none u l h = last c k (λ z. l) h
      asked c k false (some p) u l h = let same : p ≡ q = cc in subst (BackRefusal M e) same (candidate_refused k u l)

      go : (a : StepOutcome) → candidate M e ≡ a → checked M e a ≡ refused q → BackRefusal M e q
      go (refused p) k h = let same : p ≡ q = cc in subst (BackRefusal M e) same (subst (WhenRefused (BackRefusal M e)) k (candidate_refusal e))
      go (gives c) k h = asked c ((candidate_iff M e c).0 k) (ununifiable M c) (M.candidate_limit c) refl refl h

  -- a step back is refused exactly as listed
  pub back_refused_iff : (e : Event) (q : Question) → (step_back M e ≡ refused q) ↔ BackRefusal M e q
  back_refused_iff e q = (refusal_listed e q, refusal_made e q)
