-- Whether two lists of bytes are the same.
use Rattle.std.specs.Prelude.{ℕ, Bool, true, false, ◌&&◌, List, [], ◌∷◌, eqb}

unfoldable pub same_bytes : List ℕ → List ℕ → Bool
same_bytes [] [] = true
same_bytes [] (y ∷ k) = false
same_bytes (x ∷ l) [] = false
same_bytes (x ∷ l) (y ∷ k) = eqb x y && same_bytes l k
