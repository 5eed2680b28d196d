-- The least number above all numbers of a list.
use Rattle.std.specs.Prelude.{List, [], ◌∷◌, ℕ, suc, max}

-- one more than the greatest number of the list, or 0
abbrev pub above : List ℕ → ℕ
above [] = 0
above (x ∷ l) = max (suc x) (above l)
