-- A most general unifier keeps the rules that the records put on a unifier (question 4).
use Rattle.std.specs.Prelude.{◌≡◌, refl, List, [], ◌∷◌, Bool, true, false, not, ℕ, suc}
use Rattle.std.proofs.Common.{ap, inl, inr, le-ltb}
use Rattle.records.specs.Format.Syntax.{Term, Binding}
use Rattle.records.specs.Format.Syntax.Binding.{bind}
use Rattle.records.specs.Gate.RecordRules.{term_variables, bound, free, member, rising_from, unifier_rules}
use Rattle.terms.specs.Theory.Substitution.{Occurs}
use Rattle.terms.specs.Theory.Variables.{Among}
use Rattle.terms.specs.Theory.VariablesLaws.{among_either, among_occurs}
use Rattle.terms.specs.Theory.TestLaws.{member_among, every_true}
use Rattle.terms.specs.Theory.Mgu.{Binds, Rises, IsMgu}

-- the bound variables rise as the rule wants
rises_rising : (n : ℕ) (σ : List Binding) → Rises n σ → rising_from n (bound σ) ≡ true
rises_rising n [] r = refl
rises_rising n (bind x t ∷ σ) r = rw (le-ltb x n r.0) (rises_rising (suc x) σ r.1)

-- what is bound is bound to a term, and what is free occurs in the term of a binding
bound_binds : (x : ℕ) (σ : List Binding) → Among x (bound σ) → (t : Term) × Binds σ x t
bound_binds x [] h = absurd h
bound_binds x (bind y u ∷ σ) (inl e) = (u, inl (e, refl))
bound_binds x (bind y u ∷ σ) (inr h) = let k = bound_binds x σ h in (k.0, inr k.1)

free_occurs : (x : ℕ) (σ : List Binding) → Among x (free σ) → (y : ℕ) × ((t : Term) × (Binds σ y t × Occurs x t))
free_occurs x [] h = absurd h
free_occurs x (bind y u ∷ σ) h = elim (among_either x (term_variables u) (free σ) h) [
  | inl k ↦ (y, (u, (inl (refl, refl), among_occurs x u k)))
  | inr k ↦ (let r = free_occurs x σ k in (r.0, (r.1.0, (inr r.1.1.0, r.1.1.1))))
]

-- pairs rise strictly by variable, and no pair's term contains a bound variable
pub mgu_rules : {s t : Term} (σ : List Binding) → IsMgu s t σ → unifier_rules σ ≡ true
unfolding unifier_rules
mgu_rules σ m =
    rw (rises_rising 0 σ m.rising) (every_true (λ x. not (member x (bound σ))) (free σ) (λ x h. unbound x h (member x (bound σ)) refl))
  where
    unbound : (x : ℕ) → Among x (free σ) → (b : Bool) → member x (bound σ) ≡ b → not (member x (bound σ)) ≡ true
    unbound x h false e = ap not e
    unbound x h true e =
        let k = bound_binds x σ (member_among x (bound σ) e) in
        let r = free_occurs x σ h in
        absurd (m.apart r.0 x r.1.0 k.0 r.1.1.0 k.1 r.1.1.1)
