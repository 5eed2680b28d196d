-- The theorem: `unify` gives the most general unifier, or there is none; whoever finds a right answer has found `unify`'s.
use Rattle.std.specs.Prelude.{◌≡◌, refl, List, true, ℕ, ◌<◌}
use Rattle.std.proofs.Common.{sym, ◌∙◌, ap, arith}
use Rattle.std.proofs.Math.Option.{Option, none, some}
use Rattle.records.specs.Format.Syntax.{Term, Binding}
use Rattle.records.specs.Format.Syntax.Term.{var}
use Rattle.records.specs.Gate.RecordRules.{unifier_rules}
use Rattle.records.specs.Ends.Above.{above}
use Rattle.terms.specs.Theory.Substitution.{Substitution, substitute, as_substitution, Occurs, Either, either?, occurs?}
use Rattle.terms.specs.Theory.SubstitutionLaws.{substitute_agree}
use Rattle.terms.specs.Theory.Variables.{both_variables}
use Rattle.terms.specs.Theory.VariablesLaws.{either_above}
use Rattle.terms.specs.Theory.Mgu.{IsMgu, Correct}
use Rattle.terms.specs.Theory.MguLaws.{unique}
use Rattle.terms.specs.Theory.MguRuleLaws.{mgu_rules}
use Rattle.terms.specs.Theory.Unify.{bindings, bindings_below, unifying, unify}
use Rattle.terms.specs.Theory.MostGeneral.{MostGeneral, FoundUnifier}
use Rattle.terms.specs.Theory.MostGeneralLaws.{unifying_found, most_general_apart, outside_stays, outside_absent}
use Rattle.terms.specs.Theory.BindingsLaws.{bindings_rise, bindings_bind, bindings_do}

-- the bindings of a most general substitution for the variables below a bound of both terms' variables
pub bindings_mgu : (s t : Term) (n : ℕ) (σ : Substitution) → ((v : ℕ) → Either v s t → v < n) → MostGeneral s t σ → IsMgu s t (bindings 0 n σ)
bindings_mgu s t n σ b m = record {
  rising = bindings_rise 0 n σ;
  apart = λ x y u w h k o. (bindings_bind 0 n σ y w k).1 (most_general_apart s t m x y (rw (bindings_bind 0 n σ x u h).0 o));
  unifies = whole s ∙ m.unifies ∙ sym (whole t);
  general = λ θ h. (θ, (λ v. rw (same v) (sym (m.general θ h v))));
  only = λ x u h. let p = bindings_bind 0 n σ x u h in inside x u p.0 p.1 (either? (occurs? x s) (occurs? x t));
  lowest = λ x y h.
      let p = bindings_bind 0 n σ x (var y) h in
      let l = m.lower x y p.0 in
      let d : y ≡ x → ⊥ = λ e. p.1 (p.0 ∙ ap var e) in
      omega arith;
}
  where
    same : (v : ℕ) → as_substitution (bindings 0 n σ) v ≡ σ v
    same v = bindings_do 0 n σ (λ w l. outside_stays s t m w (λ i. let k = b w i in omega arith)) v (omega arith)

    whole : (r : Term) → substitute (as_substitution (bindings 0 n σ)) r ≡ substitute σ r
    whole r = substitute_agree (as_substitution (bindings 0 n σ)) σ r (λ v _. same v)

    inside : (x : ℕ) (u : Term) → σ x ≡ u → (σ x ≡ var x → ⊥) → Dec (Either x s t) → Either x s t × ((v : ℕ) → Occurs v u → Either v s t)
    inside x u e d (no k) = absurd (d (outside_stays s t m x k))
    inside x u e d (yes i) = (
      i,
      (λ v o. elim (either? (occurs? v s) (occurs? v t)) [
        | yes j ↦ j
        | no j ↦ absurd (outside_absent s t m x v j (λ z. j (rw (sym z) i)) (rw e o))
      ]),
    )

found_correct : (s t : Term) (n : ℕ) → ((v : ℕ) → Either v s t → v < n) → (r : Option Substitution) → FoundUnifier s t r → Correct s t (bindings_below n r)
found_correct s t n b none h = h
found_correct s t n b (some σ) h = bindings_mgu s t n σ b h

pub unify_correct : (s t : Term) → Correct s t (unify s t)
unfolding unify
unify_correct s t =
    found_correct s t (above (both_variables s t)) (λ v o. either_above v s t o) (unifying s t) (unifying_found s t)

-- there is one right answer
pub correct_unique : (s t : Term) (p q : Option (List Binding)) → Correct s t p → Correct s t q → p ≡ q
correct_unique s t none none h k = refl
correct_unique s t none (some τ) h k = absurd (h (as_substitution τ) k.unifies)
correct_unique s t (some σ) none h k = absurd (k (as_substitution σ) h.unifies)
correct_unique s t (some σ) (some τ) h k = ap some (unique σ τ h k)

pub is_unify : (s t : Term) (r : Option (List Binding)) → Correct s t r → unify s t ≡ r
is_unify s t r h = correct_unique s t (unify s t) r (unify_correct s t) h

-- a found unifier is the most general one, and keeps the records' rules
pub unify_mgu : (s t : Term) (σ : List Binding) → unify s t ≡ some σ → IsMgu s t σ
unify_mgu s t σ e = rw e at (unify_correct s t)

pub unify_rules : (s t : Term) (σ : List Binding) → unify s t ≡ some σ → unifier_rules σ ≡ true
unify_rules s t σ e = mgu_rules σ (unify_mgu s t σ e)

-- whoever finds a most general substitution has found `unify`'s answer
pub most_general_unify : (s t : Term) (σ : Substitution) → MostGeneral s t σ → unify s t ≡ some (bindings 0 (above (both_variables s t)) σ)
most_general_unify s t σ m =
    is_unify s t (some (bindings 0 (above (both_variables s t)) σ))
    (bindings_mgu s t (above (both_variables s t)) σ (λ v o. either_above v s t o) m)
