-- Triangular bet stacks: each variable is bound once, and what is bound below is gone from all that is bound above. So S(T) has no variable that S binds.
use Rattle.std.specs.Prelude.{◌⊎◌, List, [], ◌∷◌, ℕ}
use Rattle.records.specs.Format.Syntax.{Term, Bet}
use Rattle.records.specs.Format.Syntax.Bet.{unifier, or, by}
use Rattle.terms.specs.Theory.Substitution.{Occurs}
use Rattle.terms.specs.Theory.Mgu.{Binds}

-- a unifier of the stack binds x
abbrev pub BoundIn : ℕ → List Bet → Type 0
BoundIn x [] = ⊥
BoundIn x (unifier σ ∷ s) = ((t : Term) × Binds σ x t) ⊎ BoundIn x s
BoundIn x (or n ∷ s) = BoundIn x s
BoundIn x (by g ∷ s) = BoundIn x s

-- no variable that a bet binds is bound again above it, nor does one occur in a term to which that bet, or one above it, binds a variable
abbrev pub Triangular : List Bet → Type 0
Triangular [] = Unit {0}
Triangular (unifier σ ∷ s) =
    Triangular s × ((x : ℕ) (t : Term) → Binds σ x t → (BoundIn x s → ⊥) × ((y : ℕ) → BoundIn y (unifier σ ∷ s) → Occurs y t → ⊥))
Triangular (or n ∷ s) = Triangular s
Triangular (by g ∷ s) = Triangular s
