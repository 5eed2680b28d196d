-- What a range, a piece, a stack and a plan make of the bytes of an event.
use Rattle.std.specs.Prelude.{ℕ, ◌≤◌, ◌≡◌, List, ◌++◌, length}
use Rattle.records.specs.Format.Syntax.{Goal, Event}
use Rattle.records.specs.Format.Encode.{counted, goal_bytes, event_record}
use Rattle.records.specs.Ends.Range.{cut, Inside}
use Rattle.records.specs.Writing.Plan.{piece_bytes, stack_bytes, planned, PlanInside, plan_ends}
use Rattle.records.specs.Ends.Places.{part_ends}
use Rattle.records.specs.declared.put.Range.{Range}
use Rattle.records.specs.declared.plan.Piece.{Piece}
use Rattle.records.specs.declared.plan.Stack.{Stack}
use Rattle.records.specs.declared.plan.Plan.{Plan}

-- a range lies in s and cuts x out of it
pub record Cuts (s : List ℕ) (r : Range) (x : List ℕ) : Type 0 where
  pub is : cut s r ≡ x
  pub inside : Inside r s

-- a piece made from s is x
pub record MakesPiece (s : List ℕ) (piece : Piece) (x : List ℕ) : Type 0 where
  pub is : piece_bytes piece s ≡ x
  pub inside : Inside piece.range s

-- a stack made from s is the stack l
pub record MakesStack {A : Type 0} (bytes : A → List ℕ) (s : List ℕ) (stack : Stack) (l : List A) : Type 0 where
  pub is : stack_bytes stack s ≡ counted bytes l
  pub top_inside : Inside stack.top.range s
  pub rest_inside : Inside stack.rest s

-- a plan over s gives the record of the event e, its ranges lie in s, and it tells where the event's parts end
pub record Plans (s : List ℕ) (p : Plan) (e : Event) : Type 0 where
  pub is : planned p s ≡ event_record e
  pub within : PlanInside p s
  pub ends : length (event_record e) ≤ 32768 → plan_ends p ≡ part_ends e

-- the halves that stand one after the other, and both of them
pub record Halves (s : List ℕ) (from middle to : ℕ) (a b : Goal) : Type 0 where
  pub fore : Cuts s (record { from = from; to = middle }) (goal_bytes a)
  pub aft : Cuts s (record { from = middle; to = to }) (goal_bytes b)
  pub both : Cuts s (record { from = from; to = to }) (goal_bytes a ++ goal_bytes b)
