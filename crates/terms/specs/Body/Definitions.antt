-- Where a definition stands in a program's record.
use Rattle.std.specs.Prelude.{◌≡◌, cond, List, [], ◌∷◌, ℕ, ◌+◌, ◌<◌, length, Option, Some, None}
use Rattle.std.proofs.Math.Option.{some}
use Rattle.records.specs.Format.Syntax.{Goal, Definition}
use Rattle.records.specs.Format.Syntax.Definition.{definition}
use Rattle.records.specs.Format.Encode.{counted, definition_bytes}
use Rattle.records.specs.Format.Formed.{DefinitionFormed, Counted}
use Rattle.records.specs.Ends.Stands.{Stands}
use Rattle.terms.specs.Body.Body.{defines, definition_of}
use Rattle.terms.specs.Standing.Rows.{StandingItem, StandingRow}
use Rattle.terms.specs.Standing.Frames.{GoalAt}
use Rattle.terms.specs.declared.definitions.DefinitionHead.{DefinitionHead}
use Rattle.terms.specs.declared.definitions.Place.{Place}

-- the definitions of a program's record
pub record ProgramAt (s : List ℕ) : Type 0 where
  pub definitions : List Definition
  pub formed : Counted DefinitionFormed definitions
  pub end : ℕ
  pub stands : Stands s 3 (counted definition_bytes definitions) end

-- a definition that stands somewhere, and n of them
abbrev pub DefinitionAt : List ℕ → ℕ → Type 0
DefinitionAt s at = StandingItem definition_bytes DefinitionFormed s at

abbrev pub DefinitionsAt : List ℕ → ℕ → ℕ → Type 0
DefinitionsAt s at n = StandingRow definition_bytes DefinitionFormed s at n

-- what is read of it: all but its goal
pub record EntryOf {s : List ℕ} {at : ℕ} (d : DefinitionAt s at) (r : DefinitionHead) : Type 0 where
  pub goal : Goal
  pub same : d.item ≡ definition r.predicate r.arity r.locals goal
  pub end : r.end ≡ d.end

-- it is read
pub record EntryAt {s : List ℕ} {at : ℕ} (d : DefinitionAt s at) (r : Option DefinitionHead) : Type 0 where
  pub read : {h : DefinitionHead} → r ≡ Some h → EntryOf d h
  pub known : r ≡ None → ⊥

-- what a search tells
abbrev pub Lookup : Type 0
Lookup = Option Place

-- the place of a definition that stands at `at`, behind i others
abbrev pub definition_place : ℕ → ℕ → Definition → Place
definition_place at i (definition p k l g) = record { index = i; start = at; locals = l; goal = at + 4; end = at + length (definition_bytes (definition p k l g)) }

-- the place of the definition of p of arity k, among definitions whose bytes start at `at`, behind i others
unfoldable pub find_definition : ℕ → ℕ → List Definition → ℕ → ℕ → Lookup
find_definition at i [] p k = None
find_definition at i (d ∷ ds) p k = cond (defines p k d) (Some (definition_place at i d)) (find_definition (at + length (definition_bytes d)) (i + 1) ds p k)

-- what stands at the place that is found: a definition's goal
pub record FoundAt (s : List ℕ) (ds : List Definition) (p k : ℕ) (a : Place) : Type 0 where
  pub goal : GoalAt s a.goal
  pub few : a.locals < 256
  pub found : definition_of ds p k ≡ some (definition p k a.locals goal.item)
