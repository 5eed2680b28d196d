-- The variables that a set of marks holds, by rising number.
use Rattle.std.specs.Prelude.{cond, List, [], ◌∷◌, ◌++◌, ℕ, zero, suc}
use Rattle.records.specs.Gate.RecordRules.{member}
use Rattle.records.specs.Gate.Sets.{is_marked}

-- the marked ones below a number
unfoldable pub marked_below : List ℕ → ℕ → List ℕ
unfolding is_marked
marked_below marks zero = []
marked_below marks (suc v) = marked_below marks v ++ cond (is_marked marks v) (v ∷ []) []

-- the same of a list's
unfoldable pub members_below : List ℕ → ℕ → List ℕ
members_below l zero = []
members_below l (suc v) = members_below l v ++ cond (member v l) (v ∷ []) []
