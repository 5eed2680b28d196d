-- What stands in a list: one of its members has a property, or is a given one.
use Rattle.std.specs.Prelude.{◌≡◌, ◌⊎◌, List, [], ◌∷◌}

abbrev pub Any : {A : Type 0} → (A → Type 0) → List A → Type 0
Any Φ [] = ⊥
Any Φ (x ∷ l) = Φ x ⊎ Any Φ l

abbrev pub Belongs : {A : Type 0} → A → List A → Type 0
Belongs x l = Any (λ y. x ≡ y) l
