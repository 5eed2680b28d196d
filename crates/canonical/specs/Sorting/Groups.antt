-- Entries by predicate: sorted entries are groups with one key, each the clauses of one predicate as they stand.
use Rattle.std.specs.Prelude.{◌≡◌, Bool, cond, List, [], ◌∷◌, ◌++◌, ℕ, zero, suc, ◌+◌, ◌-◌, ◌<◌, eqb, take, drop, get_or, length}
use Rattle.canonical.specs.Form.Canonical.{Predicate}
use Rattle.canonical.specs.Form.PredicateLaws.{rank}
use Rattle.canonical.specs.Sorting.Entries.{entry_key}

-- how many entries with this key a list starts with
unfoldable pub group_length : ℕ → List ℕ → ℕ
group_length k [] = zero
group_length k (e ∷ l) = cond (eqb (entry_key e) k) (suc (group_length k l)) zero

-- all entries with this key, in their order
abbrev pub with_key : ℕ → List ℕ → List ℕ
with_key k [] = []
with_key k (e ∷ l) = cond (eqb (entry_key e) k) (e ∷ with_key k l) (with_key k l)

-- the entries of these predicates, one predicate after the other
abbrev pub by_predicate : List Predicate → List ℕ → List ℕ
by_predicate [] l = []
by_predicate (x ∷ xs) l = with_key (rank x) l ++ by_predicate xs l

-- entries of one predicate
abbrev pub one_key : ℕ → ℕ → Bool
one_key x y = eqb (entry_key x) (entry_key y)

-- the entries of t from i up to j are a group, and `later` is what follows it
pub record NextGroup (t : List ℕ) (i : ℕ) (group later : List ℕ) (j : ℕ) : Type 0 where
  pub more : i < length t
  pub ends : j ≡ i + group_length (entry_key (get_or t i 0)) (drop i t)
  pub is : group ≡ take (j - i) (drop i t)
  pub later_is : later ≡ drop j t
