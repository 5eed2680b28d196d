-- Links: for a variable, a number that is above every entry of a table that binds it.
-- Choice: of a variable beyond the links nothing is said, so that an empty list links every table.
use Rattle.std.specs.Prelude.{◌≡◌, List, ℕ, ◌≤◌, ◌<◌, length, get_or, Some}
use Rattle.records.specs.Format.Heads.{word_at}
use Rattle.terms.specs.declared.pairs.ListedPair.{ListedPair}
use Rattle.terms.specs.Values.Entries.{entry}

-- of the first i entries those that bind v are below its link
pub record PairsLinked (s : List ℕ) (listed : List ListedPair) (i : ℕ) (links : List ℕ) : Type 0 where
  pub below : (j v : ℕ) → j < i → v < length links → word_at s (entry listed j).place ≡ Some v → j < get_or links v 0

-- one entry more: n is the link of its variable, and what was below a link still is
pub record PairLinked (s : List ℕ) (at n : ℕ) (links₀ links : List ℕ) : Type 0 where
  pub own : (v : ℕ) → v < length links → word_at s at ≡ Some v → get_or links v 0 ≡ n
  pub kept : (j v : ℕ) → j < n → j < get_or links₀ v 0 → j < get_or links v 0
  pub long : length links ≡ length links₀

-- a look for v among the first i entries begins at r: those from there on are not below the link
pub record LookFrom (links : List ℕ) (i v r : ℕ) : Type 0 where
  pub within : r ≤ i
  pub beyond : (j : ℕ) → r ≤ j → j < i → (v < length links) × (get_or links v 0 ≤ j)
