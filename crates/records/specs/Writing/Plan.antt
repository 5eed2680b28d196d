-- Plans: an event as bytes to put and ranges of a source to copy, and the record that this gives. The record is laid out as Encode says.
use Rattle.std.specs.Prelude.{List, [], ◌∷◌, ◌++◌, ℕ, ◌+◌, min, length}
use Rattle.records.specs.Format.Encode.{word, record_of}
use Rattle.records.specs.Ends.Range.{size, cut, Inside}
use Rattle.records.specs.declared.plan.Lead.{Lead}
use Rattle.records.specs.declared.plan.Lead.TheVariants.{Bare, One, Two}
use Rattle.records.specs.declared.plan.Piece.{Piece}
use Rattle.records.specs.declared.plan.Stack.{Stack}
use Rattle.records.specs.declared.plan.Plan.{Plan}
use Rattle.records.specs.declared.places.PartEnds.{PartEnds}

-- the bytes before a part
abbrev pub lead_bytes : Lead → List ℕ
lead_bytes Bare = []
lead_bytes (One kind) = kind ∷ []
lead_bytes (Two kind tag) = kind ∷ tag ∷ []

-- a lead, and a part of the source
unfoldable pub piece_bytes : Piece → List ℕ → List ℕ
piece_bytes piece source = lead_bytes piece.lead ++ cut source piece.range

-- the top of a stack on which nothing is put
abbrev pub nothing : Piece
nothing = record { lead = Bare; range = record { from = 0; to = 0 } }

-- a count, the new top and the rest
unfoldable pub stack_bytes : Stack → List ℕ → List ℕ
stack_bytes stack source = word stack.count ++ (piece_bytes stack.top source ++ cut source stack.rest)

-- an event's body
unfoldable pub planned_body : Plan → List ℕ → List ℕ
planned_body p source = p.port ∷ (piece_bytes p.goal source ++ (stack_bytes p.ancestors source ++ stack_bytes p.bets source))

-- its record
unfoldable pub planned : Plan → List ℕ → List ℕ
planned p source = record_of (planned_body p source)

-- a plan's ranges lie in the source
pub record PlanInside (p : Plan) (source : List ℕ) : Type 0 where
  pub goal_inside : Inside p.goal.range source
  pub ancestor_inside : Inside p.ancestors.top.range source
  pub ancestors_inside : Inside p.ancestors.rest source
  pub bet_inside : Inside p.bets.top.range source
  pub bets_inside : Inside p.bets.rest source

-- how long a piece is, by its numbers alone
abbrev pub piece_length : Piece → ℕ
piece_length piece = length (lead_bytes piece.lead) + size piece.range

-- how long a stack is
abbrev pub stack_length : Stack → ℕ
stack_length stack = 2 + piece_length stack.top + size stack.rest

-- how long an event's body is
abbrev pub body_length : Plan → ℕ
body_length p = 1 + piece_length p.goal + stack_length p.ancestors + stack_length p.bets

-- how long the record is
abbrev pub plan_length : Plan → ℕ
plan_length p = 3 + body_length p

-- a length, where it is at most 32,768, else 32,769: enough to see that a record is too long, and sums of such numbers do not wrap
abbrev pub limited : ℕ → ℕ
limited n = min n 32769

-- where the goal and the ancestors of the planned event end
abbrev pub plan_ends : Plan → PartEnds
plan_ends p = record {
  goal = limited (4 + piece_length p.goal);
  ancestors = limited (4 + piece_length p.goal + stack_length p.ancestors);
}
