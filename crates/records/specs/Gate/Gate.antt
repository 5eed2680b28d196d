-- Questions 1 to 4 of the gate, put to the four record kinds: from any bytes to the question that refuses them, or the tree that they say.
use Rattle.std.specs.Prelude.{ℕ, ◌+◌, ◌-◌, Bool, true, false, ◌&&◌, List, [], ◌∷◌, eqb, leb, length, take, drop, Result, Ok, Err}
use Rattle.records.specs.Format.Syntax.{Goal, Event, Definition, Clause}
use Rattle.records.specs.Gate.RecordRules.{query_rules, event_rules, program_rules, clauses_rules}
use Rattle.records.specs.Gate.Question.{Asked, fault, fault_number}
use Rattle.records.specs.Gate.Question.Asked.{framing, version, grammar, rules}
use Rattle.records.specs.Format.Heads.{joined}
use Rattle.records.specs.Format.Reader.{Read}
use Rattle.records.specs.Format.Reader.Read.{unread, found}
use Rattle.records.specs.Format.Items.{Reader, read_goal, read_event_bytes, read_program_bytes, read_clauses_bytes}
use Rattle.records.specs.declared.questions.Fault.{Fault}

pub data Reading (A : Type 0) : Type 0 where
  refused : Asked → Reading A
  tree : A → Reading A

-- the question q, then the next one
abbrev pub ask : {A : Type 0} → Asked → Bool → Reading A → Reading A
ask q true next = next
ask q false next = refused q

-- 1: 3 to 32,768 bytes, the length field naming the rest
unfoldable pub framed : List ℕ → Bool
framed [] = false
framed (x ∷ []) = false
framed (x ∷ y ∷ []) = false
framed (x ∷ y ∷ z ∷ l) = leb (length (x ∷ y ∷ z ∷ l)) 32768 && eqb (joined x y) (length (z ∷ l))

-- 2: the version is 1
unfoldable pub of_version : List ℕ → Bool
of_version [] = false
of_version (x ∷ []) = false
of_version (x ∷ y ∷ []) = false
of_version (x ∷ y ∷ z ∷ l) = eqb z 1

-- 3: the grammar reads n bytes, all of them; 4: the rules are kept
abbrev pub judged : {A : Type 0} → (A → Bool) → ℕ → Read A → Reading A
judged kept n unread = refused grammar
judged kept n (found a m) = ask grammar (eqb m n) (ask rules (kept a) (tree a))

-- the first no decides
unfoldable pub read_record : {A : Type 0} → Reader A → (A → Bool) → List ℕ → Reading A
read_record r kept s = ask framing (framed s) (ask version (of_version s) (judged kept (length s - 3) (r (drop 3 s))))

abbrev pub read_query : List ℕ → Reading Goal
read_query = read_record read_goal query_rules

abbrev pub read_event : List ℕ → Reading Event
read_event = read_record read_event_bytes event_rules

abbrev pub read_program : List ℕ → Reading (List Definition)
read_program = read_record read_program_bytes program_rules

abbrev pub read_clauses : List ℕ → Reading (List Clause)
read_clauses = read_record read_clauses_bytes clauses_rules

-- the record at the front of a buffer, by its length field
unfoldable pub front_record : List ℕ → List ℕ
front_record [] = []
front_record (x ∷ []) = []
front_record (x ∷ y ∷ l) = take (2 + joined x y) (x ∷ y ∷ l)

-- a record that passes
abbrev pub Accepted : {A : Type 0} → Reading A → Type 0
Accepted (refused q) = ⊥
Accepted (tree a) = Unit {0}

-- the answer of the code: passed, or the question that says no
abbrev pub Verdict : Type 0
Verdict = Result (Unit {0}) Fault

abbrev pub passed : Verdict
passed = Ok tt

abbrev pub verdict : {A : Type 0} → Reading A → Verdict
verdict (refused q) = Err (fault q)
verdict (tree a) = passed

-- the number (SPECIFICATION 7.2) of each answer for a program or a clause record; a query's or an event's is 10 more where it is a refusal
abbrev pub program_number : Verdict → ℕ
program_number (Ok u) = 0
program_number (Err f) = fault_number f

abbrev pub event_number : Verdict → ℕ
event_number (Ok u) = 0
event_number (Err f) = 10 + fault_number f
