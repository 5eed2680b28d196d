-- The clauses of a record where they stand, and their entries: an entry is one number that rises with predicate, arity and place.
use Rattle.std.specs.Prelude.{◌≡◌, List, [], ◌∷◌, ℕ, ◌+◌, ◌*◌, ◌/◌, ◌≤◌, ◌%◌, length, drop, get_or}
use Rattle.records.specs.Format.Syntax.{Clause, arity}
use Rattle.records.specs.Format.Syntax.Terms.{nil}
use Rattle.records.specs.Format.Syntax.Goal.{truth}
use Rattle.records.specs.Format.Syntax.Clause.{clause}
use Rattle.records.specs.Format.Encode.{each, clause_bytes}
use Rattle.records.specs.Format.Formed.{All, ClauseFormed}
use Rattle.records.specs.Format.Reader.{Read}
use Rattle.records.specs.Format.Reader.Read.{unread, found}
use Rattle.records.specs.Format.Items.{read_clause}
use Rattle.records.specs.Ends.Stands.{Stands}
use Rattle.canonical.specs.Form.Canonical.{predicate_of}
use Rattle.canonical.specs.Form.PredicateLaws.{rank}

-- the number and the arity of a clause's predicate
abbrev pub predicate_number : Clause → ℕ
predicate_number (clause p v ts g) = p

abbrev pub arity_of : Clause → ℕ
arity_of (clause p v ts g) = arity ts

-- the clause that was read, and an arbitrary one where none was
abbrev pub clause_read : Read Clause → Clause
clause_read unread = clause 0 0 nil truth
clause_read (found c n) = c

-- the clause that stands at `at`
unfoldable pub clause_at : List ℕ → ℕ → Clause
clause_at s at = clause_read (read_clause (drop at s))

-- there is one
pub record ClauseAt (s : List ℕ) (at : ℕ) : Type 0 where
  pub formed : ClauseFormed (clause_at s at)
  pub end : ℕ
  pub stands : Stands s at (clause_bytes (clause_at s at)) end

-- a clause record with n clauses
pub record ClausesAt (s : List ℕ) (n : ℕ) : Type 0 where
  pub clauses : List Clause
  pub formed : All ClauseFormed clauses
  pub many : length clauses ≡ n
  pub short : length s ≤ 32768
  pub end : ℕ
  pub stand : Stands s 5 (each clause_bytes clauses) end

-- the entry of a clause that stands at `at`
abbrev pub clause_entry : ℕ → Clause → ℕ
clause_entry at c = rank (predicate_of c) * 65536 + at

-- the entries of clauses that stand one after the other from `at` on
unfoldable pub clause_entries : ℕ → List Clause → List ℕ
clause_entries at [] = []
clause_entries at (c ∷ cs) = clause_entry at c ∷ clause_entries (at + length (clause_bytes c)) cs

-- the entries of a record's clauses
abbrev pub record_entries : {s : List ℕ} {n : ℕ} → ClausesAt s n → List ℕ
record_entries a = clause_entries 5 a.clauses

-- an entry's key, which is its predicate's rank, and its place
abbrev pub entry_key : ℕ → ℕ
entry_key e = e / 65536

abbrev pub entry_place : ℕ → ℕ
entry_place e = e % 65536

-- the clauses of a list of entries
unfoldable pub clauses_in : List ℕ → List ℕ → List Clause
clauses_in s [] = []
clauses_in s (e ∷ l) = clause_at s (entry_place e) ∷ clauses_in s l

-- the clause of the i-th entry
abbrev pub clause_nth : List ℕ → List ℕ → ℕ → Clause
clause_nth s group i = clause_at s (entry_place (get_or group i 0))

-- a group of entries of a record's clauses
pub record GroupAt (s group : List ℕ) : Type 0 where
  pub entries : All (λ e. ClauseAt s (entry_place e)) group
  pub short : length s ≤ 32768
  pub few : length group ≤ 32768
