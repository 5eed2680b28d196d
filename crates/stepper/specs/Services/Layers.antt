-- What the stepper takes from the layers below, and the laws of theirs that it rests on.
use Rattle.std.specs.Prelude.{◌≡◌, true, List, ℕ, ◌≤◌, length}
use Rattle.records.specs.Format.Syntax.{Term, Terms, Goal, Ancestor, Binding, Bet, unifier, Event, Definition}
use Rattle.records.specs.Format.Encode.{event_record}
use Rattle.records.specs.Format.Formed.{TermFormed, AtomFormed, GoalFormed, All, Counted, AncestorFormed, DefinitionFormed}
use Rattle.records.specs.Gate.RecordRules.{program_rules}
use Rattle.records.specs.Format.HeadLaws.{Bytes}
use Rattle.records.specs.Gate.Gate.{Reading, tree}
use Rattle.terms.specs.Theory.Outcome.{Unified, unified}
use Rattle.terms.specs.Body.Body.{Body, defined}
use Rattle.stepper.specs.Rules.Formed.{EventSound, BetSound}

-- reading of records, the unifier, and the numbered bodies of a program's definitions
pub record Layers : Type 0 where
  pub read_program : List ℕ → Reading (List Definition)
  pub read_query : List ℕ → Reading Goal
  pub read_event : List ℕ → Reading Event
  pub unify : List Bet → Term → Term → Unified
  pub body : List Definition → ℕ → Terms → List Ancestor → List Bet → Body

-- a program that passes questions 3 and 4
abbrev pub ProgramSound : List Definition → Type 0
ProgramSound P = Counted DefinitionFormed P × (program_rules P ≡ true)

pub record Lawful (L : Layers) : Type 0 where
  -- what is read from bytes is well formed and by the record rules
  pub program_read : (s : List ℕ) → Bytes s → (P : List Definition) → L.read_program s ≡ tree P → ProgramSound P
  pub query_read : (s : List ℕ) → Bytes s → (g : Goal) → L.read_query s ≡ tree g → GoalFormed g
  pub event_read : (s : List ℕ) → Bytes s → (e : Event) → L.read_event s ≡ tree e → (s ≡ event_record e) × EventSound e × (length s ≤ 32768)
  -- an event's record is read as that event
  pub event_back : (e : Event) → EventSound e → length (event_record e) ≤ 32768 → L.read_event (event_record e) ≡ tree e
  -- unifiers and bodies are well formed
  pub unifier_sound : (s : List Bet) (l r : Term) (m : List Binding) → All BetSound s → TermFormed l → TermFormed r
      → L.unify s l r ≡ unified m → BetSound (unifier m)
  pub body_formed : (P : List Definition) (p : ℕ) (ts : Terms) (u : List Ancestor) (s : List Bet) (g : Goal)
      → ProgramSound P → AtomFormed p ts → All AncestorFormed u → All BetSound s → L.body P p ts u s ≡ defined g → GoalFormed g
