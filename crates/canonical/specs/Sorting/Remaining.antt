-- The program of a clause record, and the definitions that sorted entries still have to make, from the i-th entry on.
use Rattle.std.specs.Prelude.{◌≡◌, List, [], ℕ, ◌-◌, ◌≤◌, length, take, drop}
use Rattle.records.specs.Format.Syntax.{Definition, Clause}
use Rattle.records.specs.Format.Formed.{All}
use Rattle.records.specs.Gate.Gate.{Reading, refused, tree, read_clauses}
use Rattle.canonical.specs.Form.Canonical.{Predicate, definitions, canonical}
use Rattle.canonical.specs.Form.PredicateLaws.{ArityFits, Rising}
use Rattle.canonical.specs.Sorting.Entries.{ClausesAt, record_entries, clauses_in}
use Rattle.canonical.specs.Sorting.Groups.{by_predicate}

-- what was read; a refused record has no clauses
abbrev pub clauses_or_none : Reading (List Clause) → List Clause
clauses_or_none (refused q) = []
clauses_or_none (tree cs) = cs

-- the clauses of a record
unfoldable pub record_clauses : List ℕ → List Clause
record_clauses s = clauses_or_none (read_clauses s)

-- the program that they make
unfoldable pub program_of : List ℕ → List Definition
program_of s = canonical (record_clauses s)

-- the clauses of the entries of t from i up to j
abbrev pub clauses_between : List ℕ → List ℕ → ℕ → ℕ → List Clause
clauses_between s t i j = clauses_in s (take (j - i) (drop i t))

-- the entries of t from i on are those of some predicates of the record's clauses, which make the definitions ds
pub record Remaining (s t : List ℕ) (i : ℕ) (ds : List Definition) : Type 0 where
  pub count : ℕ
  pub at : ClausesAt s count
  pub predicates : List Predicate
  pub low : ℕ
  pub rises : Rising low predicates
  pub small : All ArityFits predicates
  pub is : drop i t ≡ by_predicate predicates (record_entries at)
  pub make : ds ≡ definitions predicates at.clauses
  pub few : length t ≤ 32768
  pub within : i ≤ length t
