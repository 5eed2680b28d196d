-- When an answer is general enough for a solution.
use Rattle.std.specs.Prelude.{◌≡◌, List, ℕ}
use Rattle.terms.specs.Theory.Substitution.{Substitution, and_then}
use Rattle.terms.specs.Theory.Variables.{Among}

-- θ goes through σ at these variables, or, σ is at least as general there: the terms that θ has for them are instances, all by one substitution, of those
-- that σ has
abbrev pub AsGeneral : List ℕ → Substitution → Substitution → Type 0
AsGeneral l θ σ = (ε : Substitution) × ((v : ℕ) → Among v l → θ v ≡ and_then σ ε v)
