-- The step forward of `Rules` is refused exactly as `Refusals` lists.
use Rattle.std.specs.Prelude.{◌≡◌, ◌↔◌}
use Rattle.std.proofs.Math.Path.{refl, ap, subst}
use Rattle.std.proofs.Common.{sym, ◌∙◌}
use mathlib.Core.List.{List, [], ◌∷◌}
use Rattle.records.specs.Gate.ReplyLaws.{refused_not_gives}
use Rattle.records.specs.Format.Syntax.{Goal, truth, failure, equal, conj, disj, atom, Half, first, second, Ancestor, called, in_conj, in_disj, Binding, Bet, unifier, or, by, call, exit, fail, redo, Event, event, goal?}
use Rattle.records.specs.Gate.Question.{Question, possible, matches}
use Rattle.terms.specs.Theory.Outcome.{Unified, too_large, clash, unified}
use Rattle.terms.specs.Body.Body.{Body, too_many, undefined, defined}
use Rattle.stepper.specs.Rules.Machine.{Machine, constant_machine, StepOutcome, refused, gives}
use Rattle.stepper.specs.Rules.Rules.{selected, matching, top_unifier, top_or, top_by, by_unifier, by_body, fitting, from_exit, from_fail, from_redo, rule, ununifiable, limited_by, step_forward}
use Rattle.stepper.specs.Rules.Listed.{Rule, conj_call, disj_call, true_call, fail_call, equal_clash, atom_undefined}
use Rattle.stepper.specs.Rules.AnswerLaws.{fitting_refused}
use Rattle.stepper.specs.Rules.ListedLaws.{rule_iff}
use Rattle.stepper.specs.Rules.Refusals.{AtEnd, Refusal, walk_ends, no_rule, value_too_large, local_too_large, result_refused}

-- Φ of the question that refuses, if one does
abbrev pub WhenRefused : (Question → Type 0) → StepOutcome → Type 0
WhenRefused Φ (refused q) = Φ q
WhenRefused Φ (gives e) = Unit {0}

-- refused by 7 alone
abbrev OnlyMatches : StepOutcome → Type 0
OnlyMatches a = WhenRefused (λ q. q ≡ matches) a

only_matching {ℓ} : {P : Type ℓ} (d : Dec P) (e : Event) → OnlyMatches (matching d e)
unfolding matching
only_matching (yes p) e = tt
only_matching (no p) e = refl

only_unifier : (s : List Bet) (k : List Binding → List Bet → Event) → OnlyMatches (top_unifier s (λ m t. gives (k m t)))
unfolding top_unifier
only_unifier [] k = refl
only_unifier (unifier m ∷ s) k = tt
only_unifier (or n ∷ s) k = refl
only_unifier (by g ∷ s) k = refl

only_or : (s : List Bet) (k : Half → List Bet → Event) → OnlyMatches (top_or s (λ n t. gives (k n t)))
unfolding top_or
only_or [] k = refl
only_or (unifier m ∷ s) k = refl
only_or (or n ∷ s) k = tt
only_or (by g ∷ s) k = refl

only_by : (s : List Bet) (k : Goal → List Bet → Event) → OnlyMatches (top_by s (λ g t. gives (k g t)))
unfolding top_by
only_by [] k = refl
only_by (unifier m ∷ s) k = refl
only_by (or n ∷ s) k = refl
only_by (by g ∷ s) k = tt

-- from exit and fail with ancestors, and from redo, a step is refused by 7 alone
exit_only : (g : Goal) (x : Ancestor) (u : List Ancestor) (s : List Bet) → OnlyMatches (from_exit g (x ∷ u) s)
unfolding from_exit
exit_only g (in_conj first a b) u s = only_matching (goal? g a) _
exit_only g (in_conj second a b) u s = only_matching (goal? g b) _
exit_only g (in_disj n a b) u s = only_matching (goal? g (selected n a b)) _
exit_only g (called p ts) u s = tt

fail_only : (g : Goal) (x : Ancestor) (u : List Ancestor) (s : List Bet) → OnlyMatches (from_fail g (x ∷ u) s)
unfolding from_fail
fail_only g (in_conj first a b) u s = only_matching (goal? g a) _
fail_only g (in_conj second a b) u s = only_matching (goal? g b) _
fail_only g (in_disj first a b) u s = only_matching (goal? g a) _
fail_only g (in_disj second a b) u s = only_matching (goal? g b) _
fail_only g (called p ts) u s = tt

redo_only : (g : Goal) (u : List Ancestor) (s : List Bet) → OnlyMatches (from_redo g u s)
unfolding from_redo
redo_only truth u s = tt
redo_only failure u s = refl
redo_only (equal l r) u s = only_unifier s _
redo_only (conj a b) u s = tt
redo_only (disj a b) u s = only_or s _
redo_only (atom p ts) u s = only_by s _

-- a machine that unifies nothing and defines nothing: a rule leads on from each of its calls
abbrev pub empty_machine : Machine
empty_machine = constant_machine clash undefined

module _ (M : Machine) where
  -- an event from which every machine's rules answer alike, and are refused by 7 alone
  stuck : (e : Event) (a : StepOutcome) → (AtEnd e → ⊥) → ((N : Machine) → rule N e ≡ a) → OnlyMatches a → WhenRefused (Refusal M e) a
  stuck e (refused q) w same only =
      subst (Refusal M e) (sym only) (no_rule w (λ N d r. refused_not_gives (sym (same N) ∙ (rule_iff N e d).1 r)))
  stuck e (gives d) w same only = tt

  -- what questions 6 to 9 refuse
  rule_refusal : (e : Event) → WhenRefused (Refusal M e) (rule M e)
  unfolding rule
  rule_refusal (event call truth u s) = tt
  rule_refusal (event call failure u s) = tt
  rule_refusal (event call (equal l r) u s) = go (M.unify s l r) refl
    where
      go : (x : Unified) → M.unify s l r ≡ x
          → WhenRefused (Refusal M (event call (equal l r) u s)) (by_unifier x (event fail (equal l r) u s) (λ m. event exit (equal l r) u (unifier m ∷ s)))
      go too_large h = value_too_large h
      go clash h = tt
      go (unified m) h = tt
  rule_refusal (event call (conj a b) u s) = tt
  rule_refusal (event call (disj a b) u s) = tt
  rule_refusal (event call (atom p ts) u s) = go (M.body p ts u s) refl
    where
      go : (x : Body) → M.body p ts u s ≡ x
          → WhenRefused (Refusal M (event call (atom p ts) u s)) (by_body x (event fail (atom p ts) u s) (λ g. event call g (called p ts ∷ u) s))
      go too_many h = local_too_large h
      go undefined h = tt
      go (defined g) h = tt
  rule_refusal (event exit g [] s) = walk_ends tt
  rule_refusal (event exit g (x ∷ u) s) = stuck (event exit g (x ∷ u) s) (from_exit g (x ∷ u) s) (λ z. z) (λ N. refl) (exit_only g x u s)
  rule_refusal (event fail g [] s) = walk_ends tt
  rule_refusal (event fail g (x ∷ u) s) = stuck (event fail g (x ∷ u) s) (from_fail g (x ∷ u) s) (λ z. z) (λ N. refl) (fail_only g x u s)
  rule_refusal (event redo g u s) = stuck (event redo g u s) (from_redo g u s) (λ z. z) (λ N. refl) (redo_only g u s)

  -- where 7 is the only question that can refuse and no rule applies, 7 refuses
  unmatched : (e : Event) (a : StepOutcome) → rule M e ≡ a → OnlyMatches a → ((d : Event) → Rule M e d → ⊥) → rule M e ≡ refused matches
  unmatched e (refused q) h only none_leads = h ∙ ap refused only
  unmatched e (gives d) h only none_leads = absurd (none_leads d ((rule_iff M e d).0 h))

  no_rule_refused : (e : Event) → (AtEnd e → ⊥) → ((N : Machine) (d : Event) → Rule N e d → ⊥) → rule M e ≡ refused matches
  unfolding rule
  no_rule_refused (event call truth u s) w n = absurd (n M (event exit truth u s) true_call)
  no_rule_refused (event call failure u s) w n = absurd (n M (event fail failure u s) fail_call)
  no_rule_refused (event call (equal l r) u s) w n = absurd (n empty_machine (event fail (equal l r) u s) (equal_clash refl))
  no_rule_refused (event call (conj a b) u s) w n = absurd (n M (event call a (in_conj first a b ∷ u) s) conj_call)
  no_rule_refused (event call (disj a b) u s) w n = absurd (n M (event call a (in_disj first a b ∷ u) s) disj_call)
  no_rule_refused (event call (atom p ts) u s) w n = absurd (n empty_machine (event fail (atom p ts) u s) (atom_undefined refl))
  no_rule_refused (event exit g [] s) w n = absurd (w tt)
  no_rule_refused (event exit g (x ∷ u) s) w n = unmatched (event exit g (x ∷ u) s) (from_exit g (x ∷ u) s) refl (exit_only g x u s) (n M)
  no_rule_refused (event fail g [] s) w n = absurd (w tt)
  no_rule_refused (event fail g (x ∷ u) s) w n = unmatched (event fail g (x ∷ u) s) (from_fail g (x ∷ u) s) refl (fail_only g x u s) (n M)
  no_rule_refused (event redo g u s) w n = unmatched (event redo g u s) (from_redo g u s) refl (redo_only g u s) (n M)

  pub ends_refused : (e : Event) → AtEnd e → rule M e ≡ refused possible
  unfolding rule
  ends_refused (event call g _ s) w = elim w [ ]
  ends_refused (event exit g [] s) w = refl
  ends_refused (event exit g (_ ∷ _) s) w = elim w [ ]
  ends_refused (event fail g [] s) w = refl
  ends_refused (event fail g (_ ∷ _) s) w = elim w [ ]
  ends_refused (event redo g _ s) w = elim w [ ]

  -- every listed refusal is made
  refusal_made : (e : Event) (q : Question) → Refusal M e q → step_forward M e ≡ refused q
  unfolding step_forward limited_by rule fitting
  refusal_made e q (walk_ends w) = ap (limited_by M.result_limit (ununifiable M e)) (ends_refused e w)
  refusal_made e q (no_rule w n) = ap (limited_by M.result_limit (ununifiable M e)) (no_rule_refused e w n)
  refusal_made e q (value_too_large h) = rw h
  refusal_made e q (local_too_large h) = rw h
  refusal_made e q (result_refused {d = d} r u l) = ap (limited_by M.result_limit (ununifiable M e)) ((rule_iff M e d).1 r) ∙ rw (u, l)

  -- and no other
  refusal_listed : (e : Event) (q : Question) → step_forward M e ≡ refused q → Refusal M e q
  unfolding step_forward limited_by
  refusal_listed e q h = go (rule M e) refl h
    where
      go : (a : StepOutcome) → rule M e ≡ a → limited_by M.result_limit (ununifiable M e) a ≡ refused q → Refusal M e q
      go (refused p) k h = let same : p ≡ q = cc in subst (Refusal M e) same (subst (WhenRefused (Refusal M e)) k (rule_refusal e))
      go (gives d) k h = let r = fitting_refused (ununifiable M e) (M.result_limit d) d q h in result_refused ((rule_iff M e d).0 k) r.0 r.1

  -- a step forward is refused exactly as listed
  pub forward_refused_iff : (e : Event) (q : Question) → (step_forward M e ≡ refused q) ↔ Refusal M e q
  forward_refused_iff e q = (refusal_listed e q, refusal_made e q)
