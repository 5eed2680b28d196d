-- What a caller learns of the unifier of two values: whether there is one, its exact length where it is below the cap, and that its bytes fit.
use Rattle.std.specs.Prelude.{◌≡◌, List, ℕ, ◌+◌, ◌≤◌, ◌<◌, length, Option, Some, None}
use Rattle.std.proofs.Common.{arith, subst}
use Rattle.std.proofs.Math.Option.{none, some}
use Rattle.records.specs.Format.Syntax.{Term, Binding}
use Rattle.records.specs.Format.Encode.{binding_bytes, counted}
use Rattle.terms.specs.Theory.Unify.{unify}
use Rattle.terms.specs.Classes.Nodes.{Nodes}
use Rattle.terms.specs.Classes.Lengths.{length_cap}
use Rattle.terms.specs.Unifier.UnifierAnswer.{UnifierFits, UnifierHeld, Unification}
use Rattle.terms.specs.declared.unifier.UnifierFound.{UnifierFound}

module _ (n : Nodes) (rep size : List ℕ) (s t : Term) {r : Option UnifierFound} (u : Unification n rep size r s t) where
  pub not_found : r ≡ None → unify s t ≡ none
  not_found e = subst (λ (o : Option UnifierFound). Unification n rep size o s t) e u

  pub found_one : {x : UnifierFound} → r ≡ Some x → (σ : List Binding) × (unify s t ≡ some σ)
  found_one e = let w = subst (λ (o : Option UnifierFound). Unification n rep size o s t) e u in (w.σ, w.is)

module _ {n : Nodes} {rep size : List ℕ} {r : UnifierFound} {s t : Term} (u : UnifierHeld n rep size r s t) where
  -- below the cap the length is exact
  pub exact_length : r.length < length_cap → length (counted binding_bytes u.σ) ≡ r.length
  exact_length h = omega (arith, u.length_is)

  -- the bytes fit where their length does
  pub unifier_fits : (out : List ℕ) (k : ℕ) → r.length ≤ 32768 → k + r.length ≤ length out → UnifierFits n rep size r.nodes out k
  unifier_fits out k h l = record {
    σ = u.σ;
    holds = u.holds;
    small = omega (arith, exact_length (omega arith));
    room = omega (arith, exact_length (omega arith));
  }
