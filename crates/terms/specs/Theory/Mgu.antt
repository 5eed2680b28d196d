-- The most general unifier of two terms, as the six properties of SPECIFICATION 5.1, one field each. `MguLaws` shows that at most one list has them.
use Rattle.std.specs.Prelude.{◌≡◌, ◌⊎◌, List, [], ◌∷◌, ℕ, suc, ◌≤◌, ◌<◌}
use Rattle.std.proofs.Math.Option.{Option, none, some}
use Rattle.records.specs.Format.Syntax.{Term, Binding}
use Rattle.records.specs.Format.Syntax.Term.{var}
use Rattle.records.specs.Format.Syntax.Binding.{bind}
use Rattle.terms.specs.Theory.Substitution.{Substitution, substitute, as_substitution, Occurs, Either}

-- the list binds x to t
abbrev pub Binds : List Binding → ℕ → Term → Type 0
Binds [] x t = ⊥
Binds (bind y u ∷ σ) x t = ((x ≡ y) × (t ≡ u)) ⊎ Binds σ x t

-- the bound variables rise strictly, from n on
abbrev pub Rises : ℕ → List Binding → Type 0
Rises n [] = Unit {0}
Rises n (bind x t ∷ σ) = (n ≤ x) × Rises (suc x) σ

-- θ makes the two terms equal
abbrev pub Unifies : Term → Term → Substitution → Type 0
Unifies s t θ = substitute θ s ≡ substitute θ t

-- σ is the unifier of s and t (SPECIFICATION 5.1)
pub record IsMgu (s t : Term) (σ : List Binding) : Type 0 where
  -- pairs rise strictly by variable
  pub rising : Rises 0 σ
  -- idempotent: no pair's term contains a bound variable
  pub apart : (x y : ℕ) (u w : Term) → Binds σ x u → Binds σ y w → Occurs y u → ⊥
  -- a unifier
  pub unifies : Unifies s t (as_substitution σ)
  -- most general: every unifier, of all substitutions, is this one followed by some substitution
  pub general : (θ : Substitution) → Unifies s t θ → (δ : Substitution) × ((v : ℕ) → θ v ≡ substitute δ (as_substitution σ v))
  -- only variables of the two terms
  pub only : (x : ℕ) (u : Term) → Binds σ x u → Either x s t × ((v : ℕ) → Occurs v u → Either v s t)
  -- a variable bound to a variable is bound to a lower one
  pub lowest : (x y : ℕ) → Binds σ x (var y) → y < x

-- what a right answer to "which unifier have s and t?" is: none where no substitution unifies them, else the most general one
abbrev pub Correct : Term → Term → Option (List Binding) → Type 0
Correct s t none = (θ : Substitution) → Unifies s t θ → ⊥
Correct s t (some σ) = IsMgu s t σ
