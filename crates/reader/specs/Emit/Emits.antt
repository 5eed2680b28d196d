-- What code holds of an emission: bytes at the end of a buffer, counts and brackets as stacks in tables.
use Rattle.std.specs.Prelude.{◌≡◌, Bool, true, false, cond, ◌||◌, not, List, [], ◌∷◌, ◌++◌, ℕ, zero, suc, ◌+◌, ◌-◌, ◌≤◌, ◌<◌, ◌^◌, min, leb, length, drop, get_or}
use Rattle.reader.specs.Emit.Cells.{Cell, cell, Emission, emission, headed, shown_clause, top, popped}
use Rattle.reader.specs.declared.roles.Role.{Role}
use Rattle.reader.specs.declared.roles.Role.TheVariants.{Variable}
use Rattle.reader.specs.declared.emit.Behind.{Behind}
use Rattle.reader.specs.declared.emit.Emission.{Emission as State}

-- the bytes stand at the end of the buffer, from `at` on; where there are more than fit, `at` is 0; nothing is said of them where an arity is over
pub record Held (over : Bool) (out : List ℕ) (at : ℕ) (bytes : List ℕ) : Type 0 where
  pub place : at ≡ length out - length bytes
  pub same : over ≡ false → 0 < at → drop at out ≡ bytes

-- what a function leaves that puts `bytes` in front
pub record Pushes (before : List ℕ) (at : ℕ) (bytes after : List ℕ) (next : ℕ) : Type 0 where
  pub keeps : length after ≡ length before
  pub lower : next ≤ at
  pub pushed : (over : Bool) (behind : List ℕ) → Held over before at behind → Held over after next (bytes ++ behind)

-- the first n entries of a table, the last one first
unfoldable pub stacked : {A : Type 0} → A → List A → ℕ → List A
stacked none table zero = []
stacked none table (suc n) = get_or table n none ∷ stacked none table n

-- a count of arguments as a byte: over 16 is 17
abbrev pub capped : ℕ → ℕ
capped k = min k 17

abbrev pub all_capped : List ℕ → List ℕ
all_capped [] = []
all_capped (k ∷ ks) = capped k ∷ all_capped ks

-- neither a comma nor a semicolon
abbrev pub nothing : Behind
nothing = record { comma = false; semicolon = false }

pub record EmitsAs (out counts : List ℕ) (brackets : List Behind) (e : State) (l : List ℕ) (o : Bool) (n : ℕ) (ks : List ℕ) (bs : List Behind) (c s q : Bool) (v : ℕ) : Type 0 where
  pub bytes : Held o out e.at l
  pub over_is : e.over ≡ o
  pub clauses_are : e.clauses ≡ n
  pub counts_are : stacked 0 counts e.terms ≡ all_capped ks
  pub brackets_are : stacked nothing brackets e.goals ≡ bs
  pub comma_is : e.behind.comma ≡ c
  pub semicolon_is : e.behind.semicolon ≡ s
  pub equal_is : e.equal ≡ q
  pub variables_are : e.variables ≡ v

abbrev pub Emits : List ℕ → List ℕ → List Behind → State → Emission → Type 0
Emits out counts brackets e (emission l o n ks bs c s q v) = EmitsAs out counts brackets e l o n ks bs c s q v

-- what code leaves that makes of an emission another
pub record Turns (out counts : List ℕ) (brackets : List Behind) (e : State) (out' counts' : List ℕ) (brackets' : List Behind) (r : State) (f : Emission → Emission) : Type 0 where
  pub keeps : length out' ≡ length out
  pub counts_keep : length counts' ≡ length counts
  pub brackets_keep : length brackets' ≡ length brackets
  pub lower : r.at ≤ e.at
  pub emits : (x : Emission) → Emits out counts brackets e x → Emits out' counts' brackets' r (f x)

-- bytes in front; a symbol and a clause's head, with k arguments; the same where the counts tell how many
abbrev pub with_bytes : List ℕ → Emission → Emission
with_bytes b (emission l o n ks bs c s q v) = emission (b ++ l) o n ks bs c s q v

abbrev pub with_symbol : ℕ → ℕ → ℕ → Emission → Emission
with_symbol kind a k (emission l o n ks bs c s q v) = emission (headed kind a k l) (not (leb k 16) || o) n ks bs c s q v

abbrev pub with_clause : ℕ → ℕ → Emission → Emission
with_clause a k (emission l o n ks bs c s q v) = emission (shown_clause a k v l) (not (leb k 16) || o) n ks bs c s q 0

abbrev pub with_top : (ℕ → Emission → Emission) → Emission → Emission
with_top f (emission l o n ks bs c s q v) = f (top ks) (emission l o n (popped ks) bs c s q v)

-- the kind of a symbol where a primary starts: a term before =, and else an atom
abbrev pub starting_kind : Emission → ℕ
starting_kind (emission l o n ks bs c s q v) = cond q 0x02 0x15

-- how code's state changes
abbrev pub placed : State → ℕ → State
placed e at = record { at = at; over = e.over; clauses = e.clauses; terms = e.terms; goals = e.goals; behind = e.behind; equal = e.equal; variables = e.variables }

abbrev pub one_fewer : State → State
one_fewer e = record { at = e.at; over = e.over; clauses = e.clauses; terms = e.terms - 1; goals = e.goals; behind = e.behind; equal = e.equal; variables = e.variables }

abbrev pub whole_state : State → ℕ → State
whole_state e at = record { at = at; over = e.over; clauses = e.clauses; terms = e.terms; goals = e.goals; behind = record { comma = e.behind.comma; semicolon = false }; equal = e.equal; variables = e.variables }

abbrev pub primary_state : State → ℕ → State
primary_state e at = record { at = at; over = e.over; clauses = e.clauses; terms = e.terms; goals = e.goals; behind = record { comma = false; semicolon = e.behind.semicolon }; equal = false; variables = e.variables }

abbrev pub over_state : State → ℕ → Bool → State
over_state e at o = record { at = at; over = o; clauses = e.clauses; terms = e.terms; goals = e.goals; behind = e.behind; equal = e.equal; variables = e.variables }

abbrev pub headed_state : State → ℕ → Bool → State
headed_state e at o = record { at = at; over = o; clauses = e.clauses; terms = e.terms; goals = e.goals; behind = e.behind; equal = e.equal; variables = 0 }

abbrev pub and_state : State → State
and_state e = record { at = e.at; over = e.over; clauses = e.clauses; terms = e.terms; goals = e.goals; behind = record { comma = true; semicolon = e.behind.semicolon }; equal = e.equal; variables = e.variables }

abbrev pub equal_state : State → State
equal_state e = record { at = e.at; over = e.over; clauses = e.clauses; terms = e.terms; goals = e.goals; behind = e.behind; equal = true; variables = e.variables }

-- room for one cell more
pub record Room (out counts : List ℕ) (brackets : List Behind) (e : State) : Type 0 where
  pub bytes : e.at ≤ length out
  pub terms : e.terms < length counts
  pub goals : e.goals < length brackets
  pub clauses : e.clauses + 1 < 2 ^ 64

-- the cells that the tables of roles, names and variables hold, n of them from a place on
unfoldable pub table_cells : List Role → (names variables : List ℕ) → ℕ → ℕ → List Cell
table_cells roles names variables i zero = []
table_cells roles names variables i (suc n) = cell (get_or roles i Variable) (get_or names i 0) (get_or variables i 0) ∷ table_cells roles names variables (suc i) n

-- what is left of an emission in a buffer of so many bytes
pub record EmittedCells (room : ℕ) (out : List ℕ) (e : State) (x : Emission) : Type 0 where
  pub counts : List ℕ
  pub brackets : List Behind
  pub emits : Emits out counts brackets e x
  pub keeps : length out ≡ room

-- no more clauses, open terms and open brackets than so many
abbrev pub Shallow : ℕ → Emission → Type 0
Shallow m (emission l o n ks bs c s q v) = (n ≤ m) × (length ks ≤ m) × (length bs ≤ m)

abbrev pub semicolon_state : State → State
semicolon_state e = record { at = e.at; over = e.over; clauses = e.clauses; terms = e.terms; goals = e.goals; behind = record { comma = e.behind.comma; semicolon = true }; equal = e.equal; variables = e.variables }

abbrev pub shut_state : State → State
shut_state e = record { at = e.at; over = e.over; clauses = e.clauses; terms = e.terms + 1; goals = e.goals; behind = e.behind; equal = e.equal; variables = e.variables }

abbrev pub close_state : State → State
close_state e = record { at = e.at; over = e.over; clauses = e.clauses; terms = e.terms; goals = e.goals + 1; behind = nothing; equal = e.equal; variables = e.variables }

abbrev pub reopened_state : State → ℕ → Behind → State
reopened_state e g b = record { at = e.at; over = e.over; clauses = e.clauses; terms = e.terms; goals = g; behind = b; equal = e.equal; variables = e.variables }

abbrev pub end_state : State → ℕ → State
end_state e v = record { at = e.at; over = e.over; clauses = e.clauses + 1; terms = e.terms; goals = e.goals; behind = e.behind; equal = e.equal; variables = v }

-- with nothing written yet
abbrev pub start_state : ℕ → State
start_state n = record { at = n; over = false; clauses = 0; terms = 0; goals = 0; behind = nothing; equal = false; variables = 0 }
