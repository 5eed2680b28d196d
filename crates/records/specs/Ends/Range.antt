-- Ranges: the part of a list that a range of places cuts out.
use Rattle.std.specs.Prelude.{List, ℕ, ◌-◌, ◌≤◌, length, take, drop}
use Rattle.records.specs.declared.put.Range.{Range}

-- how many places a range has
unfoldable pub size : Range → ℕ
size r = r.to - r.from

-- the elements of a range
unfoldable pub cut : List ℕ → Range → List ℕ
cut l r = take (size r) (drop r.from l)

-- a range lies in a list
pub record Inside (r : Range) (l : List ℕ) : Type 0 where
  pub order : r.from ≤ r.to
  pub stop : r.to ≤ length l
