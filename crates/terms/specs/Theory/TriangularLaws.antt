-- Laws of triangular bet stacks: what such a stack makes of a term has none of its bound variables, so a unifier of two such terms can be put on it.
use Rattle.std.specs.Prelude.{◌≡◌, List, [], ◌∷◌, ℕ}
use Rattle.std.proofs.Common.{subst, inl, inr}
use Rattle.records.specs.Format.Syntax.{Term, Binding, Bet}
use Rattle.records.specs.Format.Syntax.Bet.{unifier, or, by}
use Rattle.terms.specs.Theory.Substitution.{as_substitution, apply, Occurs, Either}
use Rattle.terms.specs.Theory.SubstitutionLaws.{occurs_substitute}
use Rattle.terms.specs.Theory.Mgu.{Binds, IsMgu}
use Rattle.terms.specs.Theory.MguLaws.{Becomes, binds, stays, becomes}
use Rattle.terms.specs.Theory.Triangular.{BoundIn, Triangular}

-- no variable of S(T) is bound in S
pub apply_unbound : (s : List Bet) → Triangular s → (t : Term) (v : ℕ) → Occurs v (apply s t) → BoundIn v s → ⊥
unfolding apply
apply_unbound [] h t v o b = b
apply_unbound (unifier σ ∷ s) h t v o b =
    let r = occurs_substitute (as_substitution σ) (apply s t) v o in
    go r.0 (apply_unbound s h.0 t r.0 r.1) r.2 (becomes σ r.0)
  where
    free : (w : ℕ) → (BoundIn w s → ⊥) → ((u : Term) → Binds σ w u → ⊥) → BoundIn w (unifier σ ∷ s) → ⊥
    free w below none (inl q) = none q.0 q.1
    free w below none (inr q) = below q

    go : (w : ℕ) → (BoundIn w s → ⊥) → Occurs v (as_substitution σ w) → Becomes σ w → ⊥
    go w below k (binds u q e) = (h.1 w u q).1 v b (subst (Occurs v) e k)
    go w below k (stays none e) = let same : v ≡ w = subst (Occurs v) e k in free w below none (subst (λ x. BoundIn x (unifier σ ∷ s)) same b)
apply_unbound (or n ∷ s) h t v o b = apply_unbound s h t v o b
apply_unbound (by g ∷ s) h t v o b = apply_unbound s h t v o b

-- so the unifier of S(T1) and S(T2), put on S, leaves the stack triangular
pub unifier_triangular : (s : List Bet) (l r : Term) (σ : List Binding) → Triangular s → IsMgu (apply s l) (apply s r) σ → Triangular (unifier σ ∷ s)
unifier_triangular s l r σ h m = (h, λ x t q. (λ b. outside x b (m.only x t q).0, λ y b o. inside x t q y o b))
  where
    outside : (x : ℕ) → BoundIn x s → Either x (apply s l) (apply s r) → ⊥
    outside x b (inl o) = apply_unbound s h l x o b
    outside x b (inr o) = apply_unbound s h r x o b

    inside : (x : ℕ) (t : Term) → Binds σ x t → (y : ℕ) → Occurs y t → BoundIn y (unifier σ ∷ s) → ⊥
    inside x t q y o (inl w) = m.apart x y t w.0 q w.1 o
    inside x t q y o (inr b) = outside y b ((m.only x t q).1 y o)
