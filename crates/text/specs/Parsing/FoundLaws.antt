-- Laws of what a decision found, where at most one tree is said.
use Rattle.std.specs.Prelude.{◌≡◌, Bool, ◌↔◌}
use Rattle.std.proofs.Math.Path.{refl, ap}
use Rattle.std.proofs.Math.Bool.{true, false}
use Rattle.std.proofs.Math.Option.{none, some}
use Rattle.records.specs.Format.Never.{never}
use Rattle.text.specs.Parsing.Found.{decided, tree_found}

module _ {T : Type 0} {S : T → Type 0} where
  pub found_yes : ((t u : T) → S t → S u → t ≡ u) → (t : T) → S t → (d : Dec ((t : T) × S t)) → tree_found d ≡ some t
  unfolding tree_found
  found_yes unique t h (yes x) = ap some (unique x.0 t x.1 h)
  found_yes unique t h (no n) = absurd (n (t, h))

  pub found_says : (t : T) (d : Dec ((t : T) × S t)) → tree_found d ≡ some t → S t
  unfolding tree_found
  found_says t (yes x) e = let d : x.0 ≡ t = cc in rw d at x.1
  found_says t (no n) e = never cc

  pub found_none : (b : Bool) (e : (b ≡ true) ↔ ((t : T) × S t)) → (tree_found (decided b e) ≡ none) ↔ (b ≡ false)
  unfolding tree_found decided
  found_none true e = (λ h. never cc, λ h. never h)
  found_none false e = (λ h. refl, λ h. refl)
