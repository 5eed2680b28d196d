-- Substitution keeps terms well formed, and so does a bet stack.
use Rattle.std.specs.Prelude.{◌≡◌, refl, List, [], ◌∷◌, ℕ, ◌<◌}
use Rattle.std.proofs.Common.{inl, inr}
use Rattle.std.proofs.Math.Logic.{ite}
use Rattle.std.proofs.Math.Decide.{ℕ_discrete}
use Rattle.records.specs.Format.Syntax.{Term, Terms, Binding, Bet}
use Rattle.records.specs.Format.Syntax.Term.{var, app}
use Rattle.records.specs.Format.Syntax.Terms.{nil, cons}
use Rattle.records.specs.Format.Syntax.Binding.{bind}
use Rattle.records.specs.Format.Syntax.Bet.{unifier, or, by}
use Rattle.records.specs.Format.Formed.{TermFormed, TermsFormed, All, BindingFormed, BetFormed}
use Rattle.terms.specs.Theory.Substitution.{Substitution, substitute, substitute_all, as_substitution, apply, Occurs, OccursIn}
use Rattle.terms.specs.Theory.SubstitutionLaws.{arity_substitute}

-- a variable of a well-formed term fits two bytes
mutual
  pub occurs_formed : (v : ℕ) (t : Term) → TermFormed t → Occurs v t → v < 65536
  occurs_formed v (var w) h o = rw o h
  occurs_formed v (app f ts) h o = occurs_in_formed v ts h.2 o

  pub occurs_in_formed : (v : ℕ) (ts : Terms) → TermsFormed ts → OccursIn v ts → v < 65536
  occurs_in_formed v nil h o = absurd o
  occurs_in_formed v (cons t ts) h (inl o) = occurs_formed v t h.0 o
  occurs_in_formed v (cons t ts) h (inr o) = occurs_in_formed v ts h.1 o

-- every variable that occurs becomes a well-formed term: so does the whole
mutual
  pub substitute_formed : (θ : Substitution) (t : Term) → ((v : ℕ) → Occurs v t → TermFormed (θ v)) → TermFormed t → TermFormed (substitute θ t)
  substitute_formed θ (var v) h k = h v refl
  substitute_formed θ (app f ts) h k =
      (k.0, rw (arity_substitute θ ts) k.1, substitute_all_formed θ ts h k.2)

  pub substitute_all_formed : (θ : Substitution) (ts : Terms) → ((v : ℕ) → OccursIn v ts → TermFormed (θ v)) → TermsFormed ts
      → TermsFormed (substitute_all θ ts)
  substitute_all_formed θ nil h k = tt
  substitute_all_formed θ (cons t ts) h k =
      (substitute_formed θ t (λ v o. h v (inl o)) k.0, substitute_all_formed θ ts (λ v o. h v (inr o)) k.1)

-- a substitution of well-formed terms for the variables that fit two bytes
abbrev pub SubstitutionFormed : Substitution → Type 0
SubstitutionFormed θ = (v : ℕ) → v < 65536 → TermFormed (θ v)

pub formed_substitute : (θ : Substitution) (t : Term) → SubstitutionFormed θ → TermFormed t → TermFormed (substitute θ t)
formed_substitute θ t h k = substitute_formed θ t (λ v o. h v (occurs_formed v t k o)) k

pub as_substitution_formed : (σ : List Binding) → All BindingFormed σ → SubstitutionFormed (as_substitution σ)
as_substitution_formed [] h v l = l
as_substitution_formed (bind x t ∷ σ) h v l = go (ℕ_discrete v x) (as_substitution_formed σ h.1 v l)
  where
    go : (d : Dec (v ≡ x)) → TermFormed (as_substitution σ v) → TermFormed (ite d t (as_substitution σ v))
    go (yes _) k = h.0.1
    go (no _) k = k

-- S(T) is well formed
pub apply_formed : (bets : List Bet) (t : Term) → All BetFormed bets → TermFormed t → TermFormed (apply bets t)
unfolding apply
apply_formed [] t h k = k
apply_formed (unifier σ ∷ bets) t h k =
    formed_substitute (as_substitution σ) (apply bets t) (as_substitution_formed σ h.0.1) (apply_formed bets t h.1 k)
apply_formed (or i ∷ bets) t h k = apply_formed bets t h.1 k
apply_formed (by g ∷ bets) t h k = apply_formed bets t h.1 k
