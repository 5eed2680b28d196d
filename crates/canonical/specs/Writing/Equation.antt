-- The bytes of an equation in front of a branch's rest.
use Rattle.std.specs.Prelude.{List, ◌∷◌, ◌++◌, ℕ}
use Rattle.records.specs.Format.Syntax.Term.{var}
use Rattle.records.specs.Format.Encode.{term_bytes}

-- the bytes that join the equation of head variable x and a term to what follows them
unfoldable pub equation : ℕ → List ℕ → List ℕ
equation x t = 0x13 ∷ (0x12 ∷ (term_bytes (var x) ++ t))
