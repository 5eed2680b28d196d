-- The pairs of a bet stack, one after the other: what S(T) makes of a variable is found by looking for the last pair that binds it.
-- Choice: an entry names the bets above its own, since these are what is applied to its term.
use Rattle.std.specs.Prelude.{◌≡◌, true, List, [], ◌∷◌, ◌++◌, ℕ, suc, ◌+◌, ◌≤◌, ◌<◌, length, get_or, drop, Option as Optional, Some, None}
use Rattle.std.proofs.Math.Option.{Option, none, some}
use Rattle.std.proofs.Math.Logic.{ite}
use Rattle.std.proofs.Math.Decide.{ℕ_discrete}
use Rattle.records.specs.Format.Syntax.{Term, Binding, Bet}
use Rattle.records.specs.Format.Syntax.Term.{var}
use Rattle.records.specs.Format.Syntax.Binding.{bind}
use Rattle.records.specs.Format.Encode.{term_bytes}
use Rattle.records.specs.Format.Formed.{All, TermFormed, BetFormed}
use Rattle.records.specs.Gate.RecordRules.{every, bet_rules}
use Rattle.records.specs.Format.Heads.{word_at}
use Rattle.records.specs.Ends.Stands.{Stands}
use Rattle.terms.specs.declared.pairs.ListedPair.{ListedPair}
use Rattle.terms.specs.Theory.Substitution.{Substitution, apply}
use Rattle.terms.specs.Standing.BetRow.{bet_pairs}

-- a pair of a bet: its variable, its term, and the bets above that bet
pub record PairEntry : Type 0 where
  pub variable : ℕ
  pub term : Term
  pub above : List Bet

-- the entries of one bet
abbrev pub own : List Bet → List Binding → List PairEntry
own above [] = []
own above (bind x t ∷ σ) = record { variable = x; term = t; above = above } ∷ own above σ

-- the entries of a bet stack under the bets `above`, the top bet's first
unfoldable pub pair_entries : List Bet → List Bet → List PairEntry
pair_entries above [] = []
pair_entries above (b ∷ bets) = own above (bet_pairs b) ++ pair_entries (above ++ (b ∷ [])) bets

-- the second, or else the first
abbrev pub or_else : Option PairEntry → Option PairEntry → Option PairEntry
or_else earlier (some x) = some x
or_else earlier none = earlier

-- the last entry that binds v
abbrev pub last_of : ℕ → List PairEntry → Option PairEntry
last_of v [] = none
last_of v (x ∷ l) = or_else (ite (ℕ_discrete v x.variable) (some x) none) (last_of v l)

-- what S makes of v, by the last entry that binds it
abbrev pub Means : List Bet → ℕ → Option PairEntry → Type 0
Means bets v none = apply bets (var v) ≡ var v
Means bets v (some x) = apply bets (var v) ≡ apply x.above x.term

-- an entry of a table: where its pair stands in s, and how many entries stand before those of its bet
pub record Entered (s : List ℕ) (e : ListedPair) (x : PairEntry) : Type 0 where
  pub number : word_at s e.place ≡ Some x.variable
  pub formed : TermFormed x.term
  pub end : ℕ
  pub stands : Stands s (e.place + 2) (term_bytes x.term) end
  pub before : e.first ≡ length (pair_entries [] x.above)

-- entry k of a table
abbrev pub entry : List ListedPair → ℕ → ListedPair
entry listed k = get_or listed k (record { place = 0; first = 0 })

-- these entries from k on
abbrev pub Entereds : List ℕ → List ListedPair → ℕ → List PairEntry → Type 0
Entereds s listed k [] = Unit {0}
Entereds s listed k (x ∷ l) = Entered s (entry listed k) x × Entereds s listed (k + 1) l

-- the pairs σ of one bet are entered from `first` on, behind those of the bets above it
pub record PairsEntered (s : List ℕ) (σ : List Binding) (first : ℕ) (listed₀ listed : List ListedPair) (k : ℕ) : Type 0 where
  pub number : k ≡ first + length σ
  pub entered : (above : List Bet) → length (pair_entries [] above) ≡ first → Entereds s listed₀ 0 (pair_entries [] above) → Entereds s listed 0 (pair_entries [] above ++ own above σ)
  pub same_length : length listed ≡ length listed₀

-- the first i entries of a table are the pairs of a bet stack
pub record PairTable (s : List ℕ) (listed : List ListedPair) (i : ℕ) : Type 0 where
  pub bets : List Bet
  pub rules : every bet_rules bets ≡ true
  pub count : length (pair_entries [] bets) ≡ i
  pub entered : Entereds s listed 0 (pair_entries [] bets)
  pub held : i ≤ length listed

-- they are the pairs of these bets, which are well formed
pub record PairsListed (bets : List Bet) (s : List ℕ) (listed : List ListedPair) (i : ℕ) : Type 0 where
  pub table : PairTable s listed i
  pub are : table.bets ≡ bets
  pub formed : All BetFormed bets

-- what a look for v finds: the place in the table of the last entry that binds it, or that there is none
pub record FoundPair (bets : List Bet) (i v : ℕ) (r : Optional ℕ) : Type 0 where
  pub found : {k : ℕ} → r ≡ Some k → (k < i) × ((x : PairEntry) × (drop k (pair_entries [] bets) ≡ x ∷ drop (suc k) (pair_entries [] bets)) × (last_of v (pair_entries [] bets) ≡ some x))
  pub none_binds : r ≡ None → last_of v (pair_entries [] bets) ≡ none

-- what S makes of the variables
abbrev pub under : List Bet → Substitution
under bets v = apply bets (var v)
