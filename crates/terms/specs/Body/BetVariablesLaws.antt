-- Laws of the variables of a bet stack: where all lie below m, the stack leaves those from m on as they are, and what it makes of one below m has
-- variables below m alone.
use Rattle.std.specs.Prelude.{◌≡◌, ℕ, ◌≤◌, ◌<◌}
use Rattle.std.proofs.Math.Path.{refl, ap, subst}
use Rattle.std.proofs.Common.{sym, ◌∙◌, inl, inr}
use mathlib.Core.List.{List, [], ◌∷◌}
use native.Mathlib.Omega.{arith}
use Rattle.records.specs.Format.Encode.{each}
use Rattle.records.specs.Format.Syntax.{Term, Binding, Bet}
use Rattle.records.specs.Format.Syntax.Term.{var}
use Rattle.records.specs.Format.Syntax.Binding.{bind}
use Rattle.records.specs.Format.Syntax.Bet.{unifier, or, by}
use Rattle.records.specs.Gate.RecordRules.{term_variables}
use Rattle.terms.specs.Theory.Substitution.{substitute, as_substitution, apply, Occurs}
use Rattle.terms.specs.Theory.SubstitutionLaws.{occurs_substitute}
use Rattle.terms.specs.Theory.Variables.{Among}
use Rattle.terms.specs.Theory.VariablesLaws.{among_left, among_right, occurs_among}
use Rattle.terms.specs.Theory.Mgu.{Binds}
use Rattle.terms.specs.Theory.MguLaws.{Becomes, binds, stays, becomes}
use Rattle.terms.specs.Values.Entries.{under}
use Rattle.terms.specs.Body.Body.{pair_variables, bet_variables, bets_variables}

-- every number of the list lies below m
abbrev pub Below : ℕ → List ℕ → Type 0
Below m l = (v : ℕ) → Among v l → v < m

-- a bound variable and the variables of its term stand in the pairs
bound_among : (σ : List Binding) (x : ℕ) (t : Term) → Binds σ x t → Among x (each pair_variables σ)
bound_among [] x t h = absurd h
bound_among (bind y u ∷ σ) x t (inl e) = inl e.0
bound_among (bind y u ∷ σ) x t (inr h) = inr (among_right x (term_variables u) (each pair_variables σ) (bound_among σ x t h))

term_among : (σ : List Binding) (x : ℕ) (t : Term) → Binds σ x t → (v : ℕ) → Occurs v t → Among v (each pair_variables σ)
term_among [] x t h v o = absurd h
term_among (bind y u ∷ σ) x t (inl e) v o =
    inr (among_left v (term_variables u) (each pair_variables σ) (occurs_among v u (subst (Occurs v) e.1 o)))
term_among (bind y u ∷ σ) x t (inr h) v o = inr (among_right v (term_variables u) (each pair_variables σ) (term_among σ x t h v o))

module _ (m : ℕ) where
  below_top : (b : Bet) (s : List Bet) → Below m (bets_variables (b ∷ s)) → Below m (bet_variables b)
  below_top b s h v o = h v (among_left v (bet_variables b) (bets_variables s) o)

  below_rest : (b : Bet) (s : List Bet) → Below m (bets_variables (b ∷ s)) → Below m (bets_variables s)
  below_rest b s h v o = h v (among_right v (bet_variables b) (bets_variables s) o)

  pub above_stays : (s : List Bet) (v : ℕ) → Below m (bets_variables s) → m ≤ v → under s v ≡ var v
  unfolding apply
  above_stays [] v h k = refl
  above_stays (unifier σ ∷ s) v h k =
      ap (substitute (as_substitution σ)) (above_stays s v (below_rest (unifier σ) s h) k) ∙ unbound (becomes σ v)
    where
      unbound : Becomes σ v → as_substitution σ v ≡ var v
      unbound (binds t b e) = let z = below_top (unifier σ) s h v (bound_among σ v t b) in absurd (omega arith)
      unbound (stays f e) = e
  above_stays (or n ∷ s) v h k = above_stays s v (below_rest (or n) s h) k
  above_stays (by g ∷ s) v h k = above_stays s v (below_rest (by g) s h) k

  pub under_below : (s : List Bet) (v : ℕ) → Below m (bets_variables s) → v < m → (w : ℕ) → Occurs w (under s v) → w < m
  unfolding apply
  under_below [] v h k w o = subst (λ x. x < m) (sym o) k
  under_below (unifier σ ∷ s) v h k w o =
      let (x, here, there) = occurs_substitute (as_substitution σ) (under s v) w o in
      came x (under_below s v (below_rest (unifier σ) s h) k x here) there (becomes σ x)
    where
      came : (x : ℕ) → x < m → Occurs w (as_substitution σ x) → Becomes σ x → w < m
      came x l there (binds t b e) = below_top (unifier σ) s h w (term_among σ x t b w (subst (Occurs w) e there))
      came x l there (stays f e) = let same : w ≡ x = subst (Occurs w) e there in omega arith
  under_below (or n ∷ s) v h k w o = under_below s v (below_rest (or n) s h) k w o
  under_below (by g ∷ s) v h k w o = under_below s v (below_rest (by g) s h) k w o
