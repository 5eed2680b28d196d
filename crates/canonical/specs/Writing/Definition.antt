-- The definition that a group of clauses makes: its sizes, told by the clauses, and its branches as bytes.
-- Renaming changes no length, so question 10 can be put before anything is written.
use Rattle.std.specs.Prelude.{◌≡◌, List, [], ◌∷◌, ℕ, zero, suc, ◌+◌, ◌*◌, length}
use Rattle.records.specs.Format.Syntax.{Goal, Definition, Clause, arity}
use Rattle.records.specs.Format.Syntax.Goal.{truth}
use Rattle.records.specs.Format.Syntax.Definition.{definition}
use Rattle.records.specs.Format.Syntax.Clause.{clause}
use Rattle.records.specs.Format.Encode.{terms_bytes, goal_bytes}
use Rattle.canonical.specs.Form.Canonical.{locals_of, branches}
use Rattle.canonical.specs.Sorting.Entries.{predicate_number, arity_of}
use Rattle.canonical.specs.declared.definition.Totals.{Totals}

-- a branch: five bytes more than its term for each equation, and its goal
abbrev pub branch_size : Clause → ℕ
branch_size (clause p v ts g) = 5 * arity ts + (length (terms_bytes ts) + length (goal_bytes g))

-- each branch with the byte that joins it to the next one
abbrev pub branches_size : List Clause → ℕ
branches_size [] = zero
branches_size (c ∷ cs) = suc (branch_size c) + branches_size cs

-- the branches of a group's clauses, joined, and an arbitrary goal where there are none
unfoldable pub joined_branches : ℕ → List Clause → Goal
joined_branches k [] = truth
joined_branches k (c ∷ cs) = branches k c cs

-- the definition that the clauses of one predicate make, and an arbitrary one where there are none
unfoldable pub group_definition : List Clause → Definition
group_definition [] = definition 0 0 0 truth
group_definition (c ∷ cs) = definition (predicate_number c) (arity_of c) (locals_of (c ∷ cs)) (branches (arity_of c) c cs)

-- the variables of a group, and the bytes of its branches
pub record Sums (cs : List Clause) (r : Totals) : Type 0 where
  pub locals : r.locals ≡ locals_of cs
  pub size : r.size ≡ branches_size cs
