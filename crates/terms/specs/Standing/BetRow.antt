-- The bets that stand in a record, and the pairs of each.
use Rattle.std.specs.Prelude.{◌≡◌, true, List, [], ℕ, ◌+◌, ◌≤◌, length, Option, Some, None}
use Rattle.records.specs.Format.Syntax.{Term, Binding, Bet}
use Rattle.records.specs.Format.Syntax.Binding.{bind}
use Rattle.records.specs.Format.Syntax.Bet.{unifier, or, by}
use Rattle.records.specs.Format.Encode.{term_bytes}
use Rattle.records.specs.Format.Formed.{TermFormed}
use Rattle.records.specs.Gate.RecordRules.{every, bet_rules}
use Rattle.records.specs.Format.Heads.{word_at}
use Rattle.records.specs.Ends.Stands.{Stands}
use Rattle.records.specs.declared.heads.BetHead.{BetHead}
use Rattle.records.specs.declared.heads.BetHead.TheVariants.{Unifier, Or, By}
use Rattle.terms.specs.Standing.Frames.{PairAt, PairsAt, BetAt, BetsAt}

-- n bets stand at a position, top first, and keep the rules
pub record RuledBets (s : List ℕ) (at n : ℕ) : Type 0 where
  pub row : BetsAt s at n
  pub rules : every bet_rules row.items ≡ true

-- the pairs of a bet: OR and BY have none
abbrev pub bet_pairs : Bet → List Binding
bet_pairs (unifier σ) = σ
bet_pairs (or h) = []
bet_pairs (by g) = []

-- how many pairs a bet's head announces
abbrev pub head_pairs : Option BetHead → ℕ
head_pairs (Some (Unifier n)) = n
head_pairs (Some (Or k)) = 0
head_pairs (Some By) = 0
head_pairs None = 0

-- the variable and the term of a pair that stands somewhere
pub record PairParts {s : List ℕ} {at : ℕ} (p : PairAt s at) : Type 0 where
  pub variable : ℕ
  pub term : Term
  pub is : p.item ≡ bind variable term
  pub number : word_at s at ≡ Some variable
  pub formed : TermFormed term
  pub stands : Stands s (at + 2) (term_bytes term) p.end

-- the pairs of a bet stand behind its kind and its count; n is their number, and not 0
pub record PairsOf {s : List ℕ} {at : ℕ} (b : BetAt s at) (n : ℕ) : Type 0 where
  pub pairs : PairsAt s (at + 3) n
  pub are : pairs.items ≡ bet_pairs b.item
  pub room : at + 3 ≤ length s
