-- Where an equality has no unifier question 10 is left out: the result then differs from the given event in its port alone.
-- So every step keeps events admitted, and to put the question there too would change no answer.
use Rattle.std.specs.Prelude.{◌≡◌, ◌↔◌, Bool, ◌∷◌}
use Rattle.std.proofs.Math.Path.{refl, sym, ap, subst}
use Rattle.std.proofs.Common.{◌∙◌}
use Rattle.std.proofs.Math.Bool.{true, false}
use Rattle.records.specs.Format.Never.{never}
use Rattle.records.specs.Format.Syntax.{truth, failure, equal, conj, disj, atom, unifier, call, exit, fail, redo, Event, event}
use Rattle.terms.specs.Theory.Outcome.{Unified, too_large, clash, unified}
use Rattle.stepper.specs.Rules.Machine.{Machine, Admits, LimitLaws, StepOutcome, refused, gives, answer?}
use Rattle.stepper.specs.Rules.Rules.{by_unifier, is_clash, matching, fitting, limited_by, rule, ununifiable, step_forward, checked, step_back, step, candidate}
use Rattle.stepper.specs.Rules.AnswerLaws.{Given, fitting_none, fitting_put, matching_yes}
use Rattle.stepper.specs.Rules.ListedLaws.{forward_by_rule, back_candidate, back_steps_forward, rule_follows, forward_iff}
use Rattle.stepper.specs.Walks.Walk.{Direction, forward, back}
use Rattle.stepper.specs.Rules.Listed.{Rule}
use Rattle.stepper.specs.Rules.Sources.{Source}
use Rattle.stepper.specs.Rules.SourceLaws.{source_candidate, candidate_iff, candidate_own}

module _ (M : Machine) (limits : LimitLaws M) where
  -- two terms that can't be unified
  pub clash_admitted : (e : Event) → ununifiable M e ≡ true → Given (λ d. Admits M d ↔ Admits M e) (rule M e)
  unfolding ununifiable rule
  clash_admitted (event call truth u s) h = never (sym h)
  clash_admitted (event call failure u s) h = never (sym h)
  clash_admitted (event call (equal l r) u s) h = go (M.unify s l r) h
    where
      go : (x : Unified) → is_clash x ≡ true
          → Given (λ d. Admits M d ↔ Admits M (event call (equal l r) u s))
          (by_unifier x (event fail (equal l r) u s) (λ m. event exit (equal l r) u (unifier m ∷ s)))
      go too_large k = tt
      go clash k = limits.any_port (equal l r) u s
      go (unified m) k = never (sym k)
  clash_admitted (event call (conj a b) u s) h = never (sym h)
  clash_admitted (event call (disj a b) u s) h = never (sym h)
  clash_admitted (event call (atom p ts) u s) h = never (sym h)
  clash_admitted (event exit g u s) h = never (sym h)
  clash_admitted (event fail g u s) h = never (sym h)
  clash_admitted (event redo g u s) h = never (sym h)

  -- to put question 10 there as well would change no answer
  pub put_always : (e : Event) → Admits M e → step_forward M e ≡ limited_by M.result_limit false (rule M e)
  unfolding step_forward limited_by
  put_always e l = go (ununifiable M e) (rule M e) (clash_admitted e)
    where
      go : (b : Bool) (a : StepOutcome) → (b ≡ true → Given (λ c. Admits M c ↔ Admits M e) a) → limited_by M.result_limit b a ≡ limited_by M.result_limit false a
      go b (refused q) k = refl
      go true (gives c) k = rw ((k refl).1 l) (fitting_none true (gives c) ∙ sym (fitting_none false (gives c)))
      go false (gives c) k = refl

  forward_admitted : (e d : Event) → Admits M e → step_forward M e ≡ gives d → Admits M d
  unfolding limited_by
  forward_admitted e d l h = go (rule M e) (sym (put_always e l) ∙ h)
    where
      go : (a : StepOutcome) → limited_by M.result_limit false a ≡ gives d → Admits M d
      go (refused q) k = never cc
      go (gives c) k =
          let r = fitting_put (M.result_limit c) (gives c) d k in
          let given : gives c ≡ gives d = r.1 in
          let same : c ≡ d = cc in
          subst (Admits M) same r.0

  back_admitted : (e c : Event) → Admits M e → step_back M e ≡ gives c → Admits M c
  unfolding step_back checked
  back_admitted e c l h = go (ununifiable M c) refl
    where
      steps : rule M c ≡ gives e
      steps = forward_by_rule M c e (back_steps_forward M e c h)

      asked : fitting (ununifiable M c) (M.candidate_limit c) (matching (answer? (step_forward M c) (gives e)) c) ≡ gives c
      asked = ap (checked M e) (sym (back_candidate M e c h)) ∙ h

      go : (b : Bool) → ununifiable M c ≡ b → Admits M c
      go true u = (subst (Given (λ x. Admits M x ↔ Admits M c)) steps (clash_admitted c u)).0 l
      go false u =
          (limits.as_candidate c).1
          (fitting_put (M.candidate_limit c) _ c (ap (λ b. fitting b (M.candidate_limit c) (matching (answer? (step_forward M c) (gives e)) c)) (sym u) ∙ asked)).0

  -- a step from an event that is admitted, either way, leads to one that is
  pub step_admitted : (s : Direction) (e d : Event) → Admits M e → step M s e ≡ gives d → Admits M d
  unfolding step
  step_admitted forward e d l h = forward_admitted e d l h
  step_admitted back e d l h = back_admitted e d l h

  -- question 10, put to what a listed rule leads to, is the answer of a step forward,
  pub forward_put : (e d : Event) → Admits M e → Rule M e d → step_forward M e ≡ limited_by M.result_limit false (gives d)
  forward_put e d l r = put_always e l ∙ ap (limited_by M.result_limit false) (rule_follows M e d r)

  -- and put to the source, that of a step back
  pub back_put : (c e : Event) → Admits M e → Source M c e → step_back M e ≡ limited_by M.candidate_limit false (gives c)
  unfolding step_back checked limited_by
  back_put c e l h =
      ap (checked M e) (source_candidate M c e h.0 h.1)
      ∙ ap (fitting (ununifiable M c) (M.candidate_limit c)) (matching_yes (answer? (step_forward M c) (gives e)) c ((forward_iff M c e).1 (h.0, λ u. l)))
      ∙ not_put (ununifiable M c) refl
    where
      not_put : (b : Bool) → ununifiable M c ≡ b → fitting b (M.candidate_limit c) (gives c) ≡ fitting false (M.candidate_limit c) (gives c)
      not_put true u =
          let n = (limits.as_candidate c).0 ((subst (Given (λ x. Admits M x ↔ Admits M c)) (rule_follows M c e h.0) (clash_admitted c u)).0 l) in
          rw n (fitting_none true (gives c) ∙ sym (fitting_none false (gives c)))
      not_put false u = refl

  -- where every candidate comes by a rule, the step back is the candidate under question 10
  pub back_settled : (e : Event) → Admits M e → Given (λ c. Rule M c e) (candidate M e) → step_back M e ≡ limited_by M.candidate_limit false (candidate M e)
  unfolding step_back limited_by
  back_settled e l r = go (candidate M e) refl
    where
      go : (a : StepOutcome) → candidate M e ≡ a → checked M e (candidate M e) ≡ limited_by M.candidate_limit false (candidate M e)
      go (refused q) k = ap (checked M e) k ∙ sym (ap (limited_by M.candidate_limit false) k)
      go (gives c) k =
          back_put c e l (subst (Given (λ c. Rule M c e)) k r, candidate_own M c e ((candidate_iff M e c).0 k))
          ∙ sym (ap (limited_by M.candidate_limit false) k)

-- a refusal by a question before 10
module _ (M : Machine) where
  pub forward_refuses : (e : Event) → {q : _} → rule M e ≡ refused q → step_forward M e ≡ refused q
  unfolding step_forward limited_by
  forward_refuses e h = ap (limited_by M.result_limit (ununifiable M e)) h

  pub back_refuses : (e : Event) → {q : _} → candidate M e ≡ refused q → step_back M e ≡ refused q
  unfolding step_back checked
  back_refuses e h = ap (checked M e) h
