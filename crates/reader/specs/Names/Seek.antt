-- A word's place in a list as a table of numbers has it: 0 is kept for words that are not there.
use Rattle.std.specs.Prelude.{List, [], ◌∷◌, ℕ, zero, suc}
use Rattle.records.specs.Format.Heads.{pick}
use Rattle.records.specs.Ends.Same.{same_bytes}

-- 0 stays, any other number is one greater
abbrev pub moved : ℕ → ℕ
moved zero = 0
moved (suc k) = suc (suc k)

-- one more than a word's place, or 0 where it stands nowhere
unfoldable pub seek : List ℕ → List (List ℕ) → ℕ
seek w [] = 0
seek w (v ∷ names) = pick (same_bytes w v) 1 (moved (seek w names))
