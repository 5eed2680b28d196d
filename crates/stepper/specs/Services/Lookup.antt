-- The definition that an atom names, handed back as a part of the lent program (SPECIFICATION 8.7), as bytes and as a slice.
use Rattle.std.specs.Prelude.{◌≡◌, ◌↔◌, cond, List, [], ◌∷◌, ℕ, ◌+◌, ◌≤◌, length, take, drop}
use Rattle.std.proofs.Math.Option.{Option, none}
use Rattle.std.specs.Borrow.{Bor}
use Rattle.records.specs.Format.Syntax.{truth, failure, equal, conj, disj, atom, Event, event, Definition, arity}
use Rattle.records.specs.Format.Encode.{definition_bytes}
use Rattle.records.specs.Gate.Gate.{read_program, read_event}
use Rattle.records.specs.declared.put.Range.{Range}
use Rattle.terms.specs.Body.Body.{defines, definition_of}
use Rattle.records.specs.Gate.Reply.{through}
use Rattle.records.specs.Gate.Door.{door}

-- a part of a slice: where it starts, and how many bytes it has
pub record ProgramPart : Type 0 where
  pub at : ℕ
  pub size : ℕ

abbrev pub empty : ProgramPart
empty = record { at = 0; size = 0 }

-- its bytes
unfoldable pub part_of : List ℕ → ProgramPart → List ℕ
part_of s r = take r.size (drop r.at s)

-- what an event's goal names: nothing if it is no atom
unfoldable pub named : {A : Type 0} → A → (ℕ → ℕ → A) → Event → A
named z k (event p truth u s) = z
named z k (event p failure u s) = z
named z k (event p (equal l r) u s) = z
named z k (event p (conj a b) u s) = z
named z k (event p (disj a b) u s) = z
named z k (event p (atom f ts) u s) = k f (arity ts)

-- the definition that the event's goal names, if both records pass, the goal is an atom and the program has one for it
unfoldable pub found : List ℕ → List ℕ → Option Definition
unfolding through door named definition_of
found program s = through (λ q. none) (door (read_program program) (read_event s)) (λ t. named none (definition_of t.program) t.event)

-- where a definition stands among definitions whose bytes start at `at`
unfoldable pub definition_part : ℕ → List Definition → ℕ → ℕ → ProgramPart
definition_part at [] p n = empty
definition_part at (d ∷ ds) p n =
    cond (defines p n d) (record { at = at; size = length (definition_bytes d) }) (definition_part (at + length (definition_bytes d)) ds p n)

-- the lookup service: a program's definitions start behind the length, the version and the count
unfoldable pub lookup : List ℕ → List ℕ → ProgramPart
unfolding through door named definition_part
lookup program s = through (λ q. empty) (door (read_program program) (read_event s)) (λ t. named empty (definition_part 5 t.program) t.event)

-- from where to where a part stands
abbrev pub range_of : ProgramPart → Range
range_of r = record { from = r.at; to = r.at + r.size }

-- the part of the definition that an event's goal names
unfoldable pub named_part : List Definition → Event → ProgramPart
named_part ds e = named empty (definition_part 5 ds) e

-- The slice is the lookup's part of the lent program: by its bytes, and by its address, which is the same block from the part's start on.
-- It is empty exactly where `found` finds no definition.
pub record LookedUp (part program : Bor (List ℕ)) (event : List ℕ) : Type 0 where
  pub bytes : part.now ≡ part_of program.now (lookup program.now event)
  pub size : length part.now ≡ (lookup program.now event).size
  pub block : part.ref_ptr.0 ≡ program.ref_ptr.0
  pub place : part.ref_ptr.1 ≡ (lookup program.now event).at + program.ref_ptr.1
  pub within : (lookup program.now event).at + (lookup program.now event).size ≤ length program.now
  pub empty_exactly : (length part.now ≡ 0) ↔ (found program.now event ≡ none)
