-- The layout: the bytes of each record kind, as listed in SPECIFICATION 1. A reader of the format reads this page.
use Rattle.std.specs.Prelude.{List, [], ◌∷◌, ◌++◌, ℕ, ◌+◌, ◌-◌, ◌/◌, ◌%◌, length}
use Rattle.records.specs.Format.Syntax.{Term, Terms, Goal, Half, Ancestor, Binding, Bet, Port, Event, Definition, Clause, arity}
use Rattle.records.specs.Format.Syntax.Term.{var, app}
use Rattle.records.specs.Format.Syntax.Terms.{nil, cons}
use Rattle.records.specs.Format.Syntax.Goal.{truth, failure, equal, conj, disj, atom}
use Rattle.records.specs.Format.Syntax.Half.{first, second}
use Rattle.records.specs.Format.Syntax.Ancestor.{called, in_conj, in_disj}
use Rattle.records.specs.Format.Syntax.Binding.{bind}
use Rattle.records.specs.Format.Syntax.Bet.{unifier, or, by}
use Rattle.records.specs.Format.Syntax.Port.{call, exit, fail, redo}
use Rattle.records.specs.Format.Syntax.Event.{event}
use Rattle.records.specs.Format.Syntax.Definition.{definition}
use Rattle.records.specs.Format.Syntax.Clause.{clause}

-- a two-byte number, high byte first
abbrev pub word : ℕ → List ℕ
word n = n / 256 % 256 ∷ n % 256 ∷ []

-- the parts of a list one after the other
abbrev pub each : {A : Type 0} → (A → List ℕ) → List A → List ℕ
each f [] = []
each f (x ∷ l) = f x ++ each f l

-- a two-byte count, and then the parts
abbrev pub counted : {A : Type 0} → (A → List ℕ) → List A → List ℕ
counted f l = word (length l) ++ each f l

abbrev mutual
  pub term_bytes : Term → List ℕ
  term_bytes (var v) = 0x01 ∷ word v
  term_bytes (app f ts) = 0x02 ∷ (word f ++ (arity ts ∷ terms_bytes ts))

  pub terms_bytes : Terms → List ℕ
  terms_bytes nil = []
  terms_bytes (cons t ts) = term_bytes t ++ terms_bytes ts

-- predicate or symbol, arity, arguments
abbrev pub atom_bytes : ℕ → Terms → List ℕ
atom_bytes p ts = 0x15 ∷ (word p ++ (arity ts ∷ terms_bytes ts))

abbrev pub goal_bytes : Goal → List ℕ
goal_bytes truth = 0x10 ∷ []
goal_bytes failure = 0x11 ∷ []
goal_bytes (equal t u) = 0x12 ∷ (term_bytes t ++ term_bytes u)
goal_bytes (conj a b) = 0x13 ∷ (goal_bytes a ++ goal_bytes b)
goal_bytes (disj a b) = 0x14 ∷ (goal_bytes a ++ goal_bytes b)
goal_bytes (atom p ts) = atom_bytes p ts

abbrev pub tag : Half → ℕ
tag first = 1
tag second = 2

abbrev pub ancestor_bytes : Ancestor → List ℕ
ancestor_bytes (called p ts) = atom_bytes p ts
ancestor_bytes (in_conj h a b) = 0x30 ∷ (tag h ∷ (goal_bytes a ++ goal_bytes b))
ancestor_bytes (in_disj h a b) = 0x31 ∷ (tag h ∷ (goal_bytes a ++ goal_bytes b))

abbrev pub binding_bytes : Binding → List ℕ
binding_bytes (bind v t) = word v ++ term_bytes t

abbrev pub bet_bytes : Bet → List ℕ
bet_bytes (unifier bs) = 0x20 ∷ counted binding_bytes bs
bet_bytes (or h) = 0x21 ∷ (tag h ∷ [])
bet_bytes (by g) = 0x22 ∷ goal_bytes g

abbrev pub port_byte : Port → ℕ
port_byte call = 1
port_byte exit = 2
port_byte fail = 3
port_byte redo = 4

abbrev pub event_bytes : Event → List ℕ
event_bytes (event p g u s) = port_byte p ∷ (goal_bytes g ++ (counted ancestor_bytes u ++ counted bet_bytes s))

abbrev pub definition_bytes : Definition → List ℕ
definition_bytes (definition p n l g) = word p ++ (n ∷ (l ∷ goal_bytes g))

abbrev pub clause_bytes : Clause → List ℕ
clause_bytes (clause p v ts g) = word p ++ (arity ts ∷ (v ∷ (terms_bytes ts ++ goal_bytes g)))

-- a record: the length of what follows it, the version 1, the body
unfoldable pub record_of : List ℕ → List ℕ
record_of body = word (1 + length body) ++ (1 ∷ body)

-- what a record of n bytes starts with: that length and the version
abbrev pub record_head : ℕ → List ℕ
record_head n = word (n - 2) ++ (1 ∷ [])

-- the four record kinds
abbrev pub query_record : Goal → List ℕ
query_record g = record_of (goal_bytes g)

abbrev pub event_record : Event → List ℕ
event_record e = record_of (event_bytes e)

abbrev pub program_record : List Definition → List ℕ
program_record ds = record_of (counted definition_bytes ds)

abbrev pub clauses_record : List Clause → List ℕ
clauses_record cs = record_of (counted clause_bytes cs)
