-- Sorting numbers by picking: one after the other the least that is above the last.
use Rattle.std.specs.Prelude.{cond, List, [], ◌∷◌, ℕ, zero, suc, ltb}

-- above every entry: an entry's key takes 24 bits and its place 16
abbrev pub entry_limit : ℕ
entry_limit = 1099511627776

-- the lower of `best` and x, if x is at least `low`
unfoldable pub better : ℕ → ℕ → ℕ → ℕ
better low best x = cond (ltb x low) best (cond (ltb x best) x best)

-- the least of `best` and those of the list that are at least `low`
unfoldable pub least : ℕ → ℕ → List ℕ → ℕ
unfolding better
least low best [] = best
least low best (x ∷ l) = least low (better low best x) l

-- the n least numbers from `low` on
unfoldable pub picked : ℕ → ℕ → List ℕ → List ℕ
unfolding least
picked zero low l = []
picked (suc n) low l = least low entry_limit l ∷ picked n (suc (least low entry_limit l)) l
