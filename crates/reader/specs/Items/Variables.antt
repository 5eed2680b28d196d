-- The table of variables: what numbering the items of a text leaves, and what code keeps meanwhile. The variables met in a clause are ranges of the text.
use Rattle.std.specs.Prelude.{◌≡◌, Bool, false, cond, not, List, [], ◌++◌, ℕ, ◌≤◌, leb, length, take, drop, map, replicate}
use Rattle.std.specs.List.{All}
use Rattle.records.specs.Ends.Range.{cut, Inside}
use Rattle.records.specs.declared.put.Range.{Range}
use Rattle.text.specs.Tokens.Places.{tokens_from}
use Rattle.reader.specs.Form.Meaning.{number_in, met}
use Rattle.reader.specs.Items.Items.{Item}
use Rattle.reader.specs.Items.Roles.{variable_role, end_role}
use Rattle.reader.specs.Items.Tabled.{Tabled}
use Rattle.reader.specs.Items.Words.{item_words, token_words, variable_numbers, most_met, Agrees}
use Rattle.reader.specs.declared.roles.Role.{Role}
use Rattle.reader.specs.declared.variables.Numbered.{Numbered}

-- the words at some ranges, and that these lie in the text
unfoldable pub range_words : List ℕ → List Range → List (List ℕ)
range_words s ranges = map (cut s) ranges

unfoldable pub RangesInside : List ℕ → List Range → Type 0
RangesInside s ranges = All (λ r. Inside r s) ranges

-- the first n ranges of a table; behind its end they are empty
abbrev pub first_ranges : List Range → ℕ → List Range
first_ranges ranges n = take n (ranges ++ replicate n (record { from = 0; to = 0 }))

-- the number of an item behind the variables vs, and the variables met behind it, by its role
abbrev pub role_number : Role → List (List ℕ) → List ℕ → ℕ
role_number o vs w = cond (variable_role o) (number_in vs w) (cond (end_role o) (length vs) 0)

abbrev pub role_met : Role → List (List ℕ) → List ℕ → List (List ℕ)
role_met o vs w = cond (variable_role o) (met vs w) (cond (end_role o) [] vs)

-- one item numbered; the range of a 65th variable is not stored, and nothing is said of the ranges then
pub record NumberedItem (s : List ℕ) (o : Role) (w : Range) (ranges : List Range) (n : ℕ) (after : List Range) (r : Numbered) : Type 0 where
  pub number : r.number ≡ role_number o (range_words s (first_ranges ranges n)) (cut s w)
  pub count : r.met ≡ length (role_met o (range_words s (first_ranges ranges n)) (cut s w))
  pub words : r.met ≤ 64 → range_words s (first_ranges after r.met) ≡ role_met o (range_words s (first_ranges ranges n)) (cut s w)
  pub inside : r.met ≤ 64 → RangesInside s (first_ranges after r.met)
  pub kept : length after ≡ length ranges

-- whether a clause has a 65th variable, and else the table
pub record NumberedItems (s : List ℕ) (roles : List Role) (count : ℕ) (before variables : List ℕ) (r : Bool) : Type 0 where
  pub over : (is : List Item) → Tabled s roles count is → r ≡ not (leb (most_met 0 [] is) 64)
  pub table : (is : List Item) → Tabled s roles count is → r ≡ false → Agrees variables (variable_numbers [] is) count
  pub kept : length variables ≡ length before

-- the items up to the k-th numbered, with the place `at` in the text and vs met there
pub record Numbering (s : List ℕ) (is : List Item) (variables : List ℕ) (at k : ℕ) (vs : List (List ℕ)) : Type 0 where
  pub words : item_words (drop k is) ≡ token_words (tokens_from s at)
  pub left : drop k (variable_numbers [] is) ≡ variable_numbers vs (drop k is)
  pub most : leb (most_met 0 [] is) 64 ≡ leb (most_met 0 vs (drop k is)) 64
  pub table : Agrees variables (variable_numbers [] is) k
