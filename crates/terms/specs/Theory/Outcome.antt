-- Question 8 and what follows it: the values of terms under a bet stack, at most 8,192 bytes each, and the unifier of two of them.
use Rattle.std.specs.Prelude.{List, cond, ℕ, ◌≤◌, leb}
use Rattle.std.proofs.Math.Option.{Option, none, some}
use Rattle.records.specs.Format.Syntax.{Term, Binding, Bet}
use Rattle.records.specs.Format.Syntax.Term.{var}
use Rattle.terms.specs.Theory.Substitution.{apply, term_length}
use Rattle.terms.specs.Theory.Mgu.{Correct}
use Rattle.terms.specs.Theory.Unify.{unify}

-- how long a value may be, as bare term bytes
abbrev pub value_limit : ℕ
value_limit = 8192

-- S(T), none if it is longer than the limit
unfoldable pub value_under : List Bet → Term → Option Term
value_under bets t = cond (leb (term_length (apply bets t)) value_limit) (some (apply bets t)) none

-- what the value service gives for the variable v: S(v), none if it is longer than the limit
abbrev pub value : List Bet → ℕ → Option Term
value bets v = value_under bets (var v)

-- an equality under a bet stack: question 8 says no, there is no unifier, or there is this one
pub data Unified : Type 0 where
  too_large : Unified
  clash : Unified
  unified : List Binding → Unified
  deriving Discrete as Unified-discrete

-- the outcome by the unifier that two terms have
abbrev pub as_unified : Option (List Binding) → Unified
as_unified none = clash
as_unified (some σ) = unified σ

-- the outcome for two values
abbrev pub outcome_of : Option Term → Option Term → Unified
outcome_of none u = too_large
outcome_of (some s) none = too_large
outcome_of (some s) (some t) = as_unified (unify s t)

-- the unifier of S(T1) and S(T2)
unfoldable pub unified_under : List Bet → Term → Term → Unified
unified_under bets s t = outcome_of (value_under bets s) (value_under bets t)

-- both values are within the limit
abbrev pub ValuesWithin : List Bet → Term → Term → Type 0
ValuesWithin bets s t = (term_length (apply bets s) ≤ value_limit) × (term_length (apply bets t) ≤ value_limit)

-- what each outcome means
abbrev pub Meant : List Bet → Term → Term → Unified → Type 0
Meant bets s t too_large = ValuesWithin bets s t → ⊥
Meant bets s t clash = ValuesWithin bets s t × Correct (apply bets s) (apply bets t) none
Meant bets s t (unified σ) = ValuesWithin bets s t × Correct (apply bets s) (apply bets t) (some σ)
