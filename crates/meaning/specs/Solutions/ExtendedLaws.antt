-- A substitution that is changed from m on. Under a stack whose variables lie below m it still does the same to those below m, and has the new terms from
-- m on: so the locals of a body, which are new, may become what the body asks of them.
use Rattle.std.specs.Prelude.{◌≡◌, List, ℕ, ◌+◌, ◌-◌, ◌<◌}
use Rattle.std.proofs.Common.{◌∙◌, ap, arith}
use Rattle.std.proofs.Math.Logic.{ite, if_pos, if_neg}
use Rattle.std.proofs.Math.Decide.{dec_lt}
use Rattle.records.specs.Format.Syntax.{Bet}
use Rattle.terms.specs.Theory.Substitution.{Substitution, substitute, and_then}
use Rattle.terms.specs.Values.Entries.{under}
use Rattle.terms.specs.Theory.SubstitutionLaws.{substitute_agree}
use Rattle.terms.specs.Body.Body.{bets_variables}
use Rattle.terms.specs.Body.BetVariablesLaws.{Below, above_stays, under_below}

-- ρ below m, and the terms δ from m on
abbrev pub extended : ℕ → Substitution → Substitution → Substitution
extended m ρ δ v = ite (dec_lt v m) (ρ v) (δ (v - m))

module _ (m : ℕ) (ρ δ : Substitution) where
  extended_below : (v : ℕ) → v < m → extended m ρ δ v ≡ ρ v
  extended_below v h = if_pos (dec_lt v m) h (ρ v) (δ (v - m))

  pub extended_from : (i : ℕ) → extended m ρ δ (m + i) ≡ δ i
  extended_from i =
      let z : m + i - m ≡ i = omega arith in
      if_neg (dec_lt (m + i) m) (λ h. omega arith) (ρ (m + i)) (δ (m + i - m)) ∙ ap δ z

  module _ (s : List Bet) (h : Below m (bets_variables s)) where
    pub extended_old : (v : ℕ) → v < m → and_then (under s) (extended m ρ δ) v ≡ and_then (under s) ρ v
    extended_old v k = substitute_agree _ _ (under s v) (λ w o. extended_below w (under_below m s v h k w o))

    pub extended_new : (i : ℕ) → and_then (under s) (extended m ρ δ) (m + i) ≡ δ i
    extended_new i = ap (substitute (extended m ρ δ)) (above_stays m s (m + i) h (omega arith)) ∙ extended_from i
