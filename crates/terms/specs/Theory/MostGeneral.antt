-- The most general unifier as a function from variables to terms, in the three facts that an algorithm has to show. The other clauses of
-- SPECIFICATION 5.1 follow from them: idempotence, and that only variables of the two terms occur.
use Rattle.std.proofs.Math.Logic.{ite}
use Rattle.std.specs.Prelude.{◌≡◌, ℕ, ◌≤◌}
use Rattle.std.proofs.Math.Option.{Option, none, some}
use Rattle.std.proofs.Math.Decide.{ℕ_discrete}
use Rattle.records.specs.Format.Syntax.{Term}
use Rattle.records.specs.Format.Syntax.Term.{var}
use Rattle.terms.specs.Theory.Substitution.{Substitution, substitute}
use Rattle.terms.specs.Theory.Mgu.{Unifies}

-- σ is a most general unifier of s and t by which no variable becomes a higher one
pub record MostGeneral (s t : Term) (σ : Substitution) : Type 0 where
  pub unifies : Unifies s t σ
  -- no unifier is changed by σ before it
  pub general : (θ : Substitution) → Unifies s t θ → (v : ℕ) → substitute θ (σ v) ≡ θ v
  -- a variable that becomes a variable becomes no higher one
  pub lower : (v w : ℕ) → σ v ≡ var w → w ≤ v

-- what a right answer is: none where no substitution unifies s and t, else a most general one
abbrev pub FoundUnifier : Term → Term → Option Substitution → Type 0
FoundUnifier s t none = (θ : Substitution) → Unifies s t θ → ⊥
FoundUnifier s t (some σ) = MostGeneral s t σ

-- σ, but w becomes c
abbrev pub but : Substitution → ℕ → Term → Substitution
but σ w c v = ite (ℕ_discrete v w) c (σ v)
