-- What a decision found: the tree that a text says, where it says one.
use Rattle.std.specs.Prelude.{◌≡◌, refl, Bool, true, false, ◌↔◌}
use Rattle.std.proofs.Common.{sym}
use Rattle.std.proofs.Math.Option.{Option, none, some}
use Rattle.records.specs.Format.Never.{never}

-- a test that says exactly whether A holds decides A
unfoldable pub decided : {A : Type 0} (b : Bool) → ((b ≡ true) ↔ A) → Dec A
decided true e = yes (e.0 refl)
decided false e = no (λ a. never (sym (e.1 a)))

unfoldable pub tree_found : {T : Type 0} {S : T → Type 0} → Dec ((t : T) × S t) → Option T
tree_found (yes x) = some x.0
tree_found (no n) = none
