-- Lists of variable numbers: what stands in one, and a list without one of its numbers.
use Rattle.std.specs.Prelude.{◌≡◌, ◌⊎◌, List, [], ◌∷◌, ◌++◌, ℕ}
use Rattle.std.proofs.Math.Logic.{ite}
use Rattle.std.proofs.Math.Decide.{ℕ_discrete}
use Rattle.records.specs.Format.Syntax.{Term}
use Rattle.records.specs.Gate.RecordRules.{term_variables}

-- v stands in the list
abbrev pub Among : ℕ → List ℕ → Type 0
Among v [] = ⊥
Among v (w ∷ l) = (v ≡ w) ⊎ Among v l

-- the variables of two terms
abbrev pub both_variables : Term → Term → List ℕ
both_variables s t = term_variables s ++ term_variables t

-- the list with the first x taken out
abbrev pub without : ℕ → List ℕ → List ℕ
without x [] = []
without x (w ∷ l) = ite (ℕ_discrete x w) l (w ∷ without x l)
