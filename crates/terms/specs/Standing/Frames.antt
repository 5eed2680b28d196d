-- What stands at the positions of an event's frame: its goal and its two stacks.
use Rattle.std.specs.Prelude.{List, ℕ}
use Rattle.records.specs.Format.Encode.{goal_bytes, ancestor_bytes, binding_bytes, bet_bytes}
use Rattle.records.specs.Format.Formed.{GoalFormed, AncestorFormed, BindingFormed, BetFormed}
use Rattle.terms.specs.Standing.Rows.{StandingItem, StandingRow}
use Rattle.terms.specs.declared.variables.Frame.{Frame}

-- a goal; an ancestor, a pair, a bet, and n of each
abbrev pub GoalAt : List ℕ → ℕ → Type 0
GoalAt s at = StandingItem goal_bytes GoalFormed s at

abbrev pub AncestorAt : List ℕ → ℕ → Type 0
AncestorAt s at = StandingItem ancestor_bytes AncestorFormed s at

abbrev pub AncestorsAt : List ℕ → ℕ → ℕ → Type 0
AncestorsAt s at n = StandingRow ancestor_bytes AncestorFormed s at n

abbrev pub PairAt : List ℕ → ℕ → Type 0
PairAt s at = StandingItem binding_bytes BindingFormed s at

abbrev pub PairsAt : List ℕ → ℕ → ℕ → Type 0
PairsAt s at n = StandingRow binding_bytes BindingFormed s at n

abbrev pub BetAt : List ℕ → ℕ → Type 0
BetAt s at = StandingItem bet_bytes BetFormed s at

abbrev pub BetsAt : List ℕ → ℕ → ℕ → Type 0
BetsAt s at n = StandingRow bet_bytes BetFormed s at n

-- an event's goal, its ancestors and its bets
pub record FrameAt (s : List ℕ) (f : Frame) : Type 0 where
  pub goal : GoalAt s f.goal
  pub ancestors : AncestorsAt s f.ancestors f.depth
  pub bets : BetsAt s f.bets f.height
