-- The variables of the members of an event's stacks, and what code tells of them: one more than the greatest, and where a member ends.
use Rattle.std.specs.Prelude.{◌≡◌, List, ℕ}
use Rattle.records.specs.Format.Syntax.{Ancestor, Bet}
use Rattle.records.specs.Format.Encode.{each, ancestor_bytes, bet_bytes}
use Rattle.records.specs.Format.Formed.{AncestorFormed, BetFormed}
use Rattle.records.specs.Gate.RecordRules.{ancestor_variables}
use Rattle.records.specs.declared.traverse.Top.{Top}
use Rattle.records.specs.Ends.Above.{above}
use Rattle.terms.specs.Body.Body.{bet_variables}
use Rattle.terms.specs.Standing.Rows.{StandingItem, StandingRow}
use Rattle.terms.specs.declared.variables.StackKind.{StackKind}
use Rattle.terms.specs.declared.variables.StackKind.TheVariants.{Ancestors, Bets}

-- the members of a stack: ancestors or bets
abbrev pub Member : StackKind → Type 0
Member Ancestors = Ancestor
Member Bets = Bet

abbrev pub member_bytes : (k : StackKind) → Member k → List ℕ
member_bytes Ancestors = ancestor_bytes
member_bytes Bets = bet_bytes

abbrev pub MemberFormed : (k : StackKind) → Member k → Type 0
MemberFormed Ancestors = AncestorFormed
MemberFormed Bets = BetFormed

abbrev pub member_variables : (k : StackKind) → Member k → List ℕ
member_variables Ancestors = ancestor_variables
member_variables Bets = bet_variables

abbrev pub members_variables : (k : StackKind) → List (Member k) → List ℕ
members_variables k l = each (member_variables k) l

-- a member, and a stack of n of them, that stand somewhere
abbrev pub MemberAt : StackKind → List ℕ → ℕ → Type 0
MemberAt k s at = StandingItem (member_bytes k) (MemberFormed k) s at

abbrev pub StackAt : StackKind → List ℕ → ℕ → ℕ → Type 0
StackAt k s at n = StandingRow (member_bytes k) (MemberFormed k) s at n

-- what ends at e has these variables
pub record TopOf (variables : List ℕ) (e : ℕ) (r : Top) : Type 0 where
  pub top : r.top ≡ above variables
  pub end : r.end ≡ e
