-- Question 7 for a goal under a conjunction or a disjunction: whether it is the half that the ancestor on top selects, by the bytes.
use Rattle.std.specs.Prelude.{◌≡◌, Bool, true, ◌||◌, List, [], ◌∷◌, ℕ, eqb}
use Rattle.records.specs.Format.Syntax.{Ancestor, called, in_conj, in_disj, call, exit, fail, redo, Event, event}
use Rattle.records.specs.Format.Heads.{pick}
use Rattle.records.specs.Ends.Range.{cut, Inside}
use Rattle.records.specs.Ends.Same.{same_bytes}
use Rattle.stepper.specs.Plans.View.{event_view}
use Rattle.stepper.specs.Plans.Layouts.{whole, half_piece}
use Rattle.stepper.specs.declared.view.View.{View}

-- the goal, and the half that the ancestor on top selects, lie in the event
pub record HalfInside (v : View) (s : List ℕ) : Type 0 where
  pub goal_inside : Inside (whole v.goal).range s
  pub half_inside : Inside (half_piece v.ancestor v.ancestor.tag).range s

unfoldable pub is_half : List ℕ → View → Bool
is_half s v = same_bytes (cut s (whole v.goal).range) (cut s (half_piece v.ancestor v.ancestor.tag).range)

-- one of two numbers
unfoldable pub either : ℕ → ℕ → ℕ → Bool
either n a b = eqb n a || eqb n b

-- they lie there where the ancestor on top is a conjunction or a disjunction
pub record HalfWhere (v : View) (s : List ℕ) : Type 0 where
  pub inside : either v.ancestor.kind 0x30 0x31 ≡ true → HalfInside v s

-- question 7 for a step that leaves a half from one of two ports: 7 where the goal is another, else 0
unfoldable pub half_refusal : List ℕ → View → (one other : ℕ) → ℕ
half_refusal s v one other = pick (either v.port one other) (pick (either v.ancestor.kind 0x30 0x31) (pick (is_half s v) 0 7) 0) 0

-- the ancestor on top is a conjunction or a disjunction
abbrev pub Halved : List Ancestor → Type 0
Halved [] = ⊥
Halved (called q ts ∷ u) = ⊥
Halved (in_conj h a b ∷ u) = Unit {0}
Halved (in_disj h a b ∷ u) = Unit {0}

-- a step forward leaves a half from exit and fail, a step back from call and redo
abbrev pub Leaves : Event → Type 0
Leaves (event call g u s) = ⊥
Leaves (event exit g u s) = Halved u
Leaves (event fail g u s) = Halved u
Leaves (event redo g u s) = ⊥

abbrev pub LeavesBack : Event → Type 0
LeavesBack (event call g u s) = Halved u
LeavesBack (event exit g u s) = ⊥
LeavesBack (event fail g u s) = ⊥
LeavesBack (event redo g u s) = Halved u

-- the goal is the half that the ancestor on top selects, by the bytes
abbrev pub Like : List ℕ → Event → Type 0
Like s e = is_half s (event_view e) ≡ true
