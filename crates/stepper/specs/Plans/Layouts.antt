-- The plans of the rules whose result is made of parts of the event itself. A layout serves each rule, in either direction, that moves the
-- event's parts in the same way; the port, and the kind where a conjunction and a disjunction share a layout, are told to it.
use Rattle.std.specs.Prelude.{ℕ, eqb}
use Rattle.records.specs.Format.Heads.{pick}
use Rattle.records.specs.Writing.Plan.{nothing}
use Rattle.records.specs.declared.plan.Lead.TheVariants.{Bare, One, Two}
use Rattle.records.specs.declared.plan.Piece.{Piece}
use Rattle.records.specs.declared.plan.Stack.{Stack}
use Rattle.records.specs.declared.plan.Plan.{Plan}
use Rattle.stepper.specs.declared.view.Part.{Part}
use Rattle.stepper.specs.declared.view.StackPlaces.{StackPlaces}
use Rattle.stepper.specs.declared.view.View.{View}

-- pieces of an event: a part as it stands, the half of it that a tag selects, what follows its kind and tag
abbrev pub whole : Part → Piece
whole part = record { lead = Bare; range = record { from = part.from; to = part.to } }

unfoldable pub half_piece : Part → (tag : ℕ) → Piece
half_piece part tag = record {
  lead = Bare;
  range = pick (eqb tag 1) (record { from = part.content; to = part.middle }) (record { from = part.middle; to = part.to });
}

abbrev pub content_of : Part → Piece
content_of part = record { lead = Bare; range = record { from = part.content; to = part.to } }

-- its content under another kind, or another kind and tag
abbrev pub led : (kind : ℕ) → Part → Piece
led kind part = record { lead = One kind; range = record { from = part.content; to = part.to } }

abbrev pub retagged : (kind tag : ℕ) → Part → Piece
retagged kind tag part = record { lead = Two kind tag; range = record { from = part.content; to = part.to } }

-- the bets BY of a goal and OR of a tag
abbrev pub by_goal : Part → Piece
by_goal part = record { lead = One 0x22; range = record { from = part.from; to = part.to } }

abbrev pub or_tag : ℕ → Piece
or_tag tag = record { lead = Two 0x21 tag; range = record { from = 0; to = 0 } }

-- a stack as it is, without its top, with a piece put on it, with a piece in place of its top
abbrev pub unchanged : StackPlaces → Stack
unchanged stack = record { count = stack.count; top = nothing; rest = record { from = stack.from; to = stack.to } }

abbrev pub dropped : StackPlaces → Stack
dropped stack = record { count = stack.fewer; top = nothing; rest = record { from = stack.rest; to = stack.to } }

unfoldable pub pushed : StackPlaces → Piece → Stack
pushed stack top = record { count = stack.more; top = top; rest = record { from = stack.from; to = stack.to } }

unfoldable pub replaced : StackPlaces → Piece → Stack
replaced stack top = record { count = stack.count; top = top; rest = record { from = stack.rest; to = stack.to } }

-- port, goal and stacks
unfoldable pub plan_of : (port : ℕ) → Piece → Stack → Stack → Plan
plan_of port goal ancestors bets = record { port = port; goal = goal; ancestors = ancestors; bets = bets }

-- the goal under another port, with the stacks as they are
abbrev pub kept : View → (port : ℕ) → Plan
kept v port = plan_of port (whole v.goal) (unchanged v.ancestors) (unchanged v.bets)

-- the same without the bet on top
abbrev pub bet_dropped : View → (port : ℕ) → Plan
bet_dropped v port = plan_of port (whole v.goal) (unchanged v.ancestors) (dropped v.bets)

-- from a conjunction or a disjunction to a half under it
abbrev pub entered : View → (port kind tag : ℕ) → Plan
entered v port kind tag = plan_of port (half_piece v.goal tag) (pushed v.ancestors (retagged kind tag v.goal)) (unchanged v.bets)

-- from a disjunction to the half that the bet on top names, without that bet
abbrev pub chosen : View → (port : ℕ) → Plan
chosen v port =
    plan_of port (half_piece v.goal v.bet.tag) (pushed v.ancestors (retagged 0x31 v.bet.tag v.goal)) (dropped v.bets)

-- from one half to the other
abbrev pub reached : View → (port kind tag : ℕ) → Plan
reached v port kind tag =
    plan_of port (half_piece v.ancestor tag) (replaced v.ancestors (retagged kind tag v.ancestor)) (unchanged v.bets)

-- from a half to the conjunction or the disjunction
abbrev pub left : View → (port kind : ℕ) → Plan
left v port kind = plan_of port (led kind v.ancestor) (dropped v.ancestors) (unchanged v.bets)

-- the same, with OR of the half put on the bets
abbrev pub left_with_or : View → (port : ℕ) → Plan
left_with_or v port =
    plan_of port (led 0x14 v.ancestor) (dropped v.ancestors) (pushed v.bets (or_tag v.ancestor.tag))

-- from a body to its atom
abbrev pub atom_left : View → (port : ℕ) → Plan
atom_left v port = plan_of port (whole v.ancestor) (dropped v.ancestors) (unchanged v.bets)

-- the same, with BY of the body put on the bets
abbrev pub atom_left_by : View → (port : ℕ) → Plan
atom_left_by v port =
    plan_of port (whole v.ancestor) (dropped v.ancestors) (pushed v.bets (by_goal v.goal))

-- from an atom to the body that the bet on top names, without that bet
abbrev pub body_entered : View → (port : ℕ) → Plan
body_entered v port =
    plan_of port (content_of v.bet) (pushed v.ancestors (whole v.goal)) (dropped v.bets)
