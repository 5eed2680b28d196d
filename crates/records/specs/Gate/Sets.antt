-- Sets of variables: variables below 64 as the bits of one number, and variables below 65,536 as marks in a row of 1,024 such numbers.
use Rattle.std.specs.Prelude.{◌≡◌, Bool, ◌&&◌, List, [], ◌∷◌, ℕ, ◌-◌, ◌<◌, ◌^◌, ◌/◌, ◌%◌, eqb, ltb, length, get_or, set}
use Rattle.std.specs.Int.Bits.{bit_or}
use Rattle.records.specs.Gate.RecordRules.{every, member}

-- the variable x is in the set s: its bit is 1
unfoldable pub has_variable : ℕ → ℕ → Bool
has_variable s x = eqb (s / 2 ^ x % 2) 1

-- the set s with the variable x in it
unfoldable pub with_variable : ℕ → ℕ → ℕ
with_variable s x = bit_or s (2 ^ x)

-- the set s with the variables of a list put in, front first
unfoldable pub gathered : ℕ → List ℕ → ℕ
gathered s [] = s
gathered s (x ∷ l) = gathered (with_variable s x) l

-- with `met` gathered so far and l still to come: l has only variables below v, and all together are the full set of 0 to v - 1
unfoldable pub exactly_from : ℕ → ℕ → List ℕ → Bool
exactly_from v met l = every (λ x. ltb x v) l && eqb (gathered met l) (2 ^ v - 1)

-- the variable x is marked: in the word x / 64, the bit x % 64
unfoldable pub is_marked : List ℕ → ℕ → Bool
is_marked marks x = has_variable (get_or marks (x / 64) 0) (x % 64)

-- the marks with the variable x marked
unfoldable pub marked : List ℕ → ℕ → List ℕ
marked marks x = set marks (x / 64) (with_variable (get_or marks (x / 64) 0) (x % 64))

-- the marks with the variables of a list marked, front first
unfoldable pub all_marked : List ℕ → List ℕ → List ℕ
all_marked marks [] = marks
all_marked marks (x ∷ l) = all_marked (marked marks x) l

-- 1,024 words that mark exactly the variables of a list
pub record Marks (marks l : List ℕ) : Type 0 where
  pub words : length marks ≡ 1024
  pub same : (x : ℕ) → x < 65536 → is_marked marks x ≡ member x l
