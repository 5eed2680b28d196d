-- One answer of a query (SPECIFICATION 8.12): the value of each of the query's variables, by rising number, and the bodies and branches that were used,
-- the oldest first. Choices: a variable that no bet binds has a value too, itself; of the bets, a unifier is none of what was used, since the values
-- have what it binds.
use Rattle.std.specs.Prelude.{cond, List, [], ◌∷◌, ◌++◌, ℕ, eqb, ltb, leb, length}
use Rattle.std.proofs.Math.Option.{Option, none, some}
use Rattle.records.specs.Format.Syntax.{Term, Goal, Binding, bind, Bet, unifier, or, by}
use Rattle.records.specs.Format.Encode.{counted, binding_bytes, bet_bytes}
use Rattle.records.specs.Gate.RecordRules.{goal_variables}
use Rattle.records.specs.Gate.Question.{values, fits}
use Rattle.records.specs.Gate.Reply.{Answer, refused, gives, on_yes, through}
use Rattle.terms.specs.Theory.Outcome.{value}

-- a rising list with v in it, once
abbrev pub rising_with : ℕ → List ℕ → List ℕ
rising_with v [] = v ∷ []
rising_with v (w ∷ l) = cond (ltb v w) (v ∷ (w ∷ l)) (cond (eqb v w) (w ∷ l) (w ∷ rising_with v l))

-- the numbers of a list, rising, each once
abbrev pub rising_once : List ℕ → List ℕ
rising_once [] = []
rising_once (v ∷ l) = rising_with v (rising_once l)

-- the variables of a query by rising number
unfoldable pub query_variables : Goal → List ℕ
query_variables q = rising_once (goal_variables q)

-- a variable with its value in front of other such pairs, where all have one
abbrev pub paired : ℕ → Option Term → Option (List Binding) → Option (List Binding)
paired v none l = none
paired v (some t) none = none
paired v (some t) (some l) = some (bind v t ∷ l)

-- each of these variables with its value under the bets; none where a value is longer than 8,192 bytes
unfoldable pub values_of : List Bet → List ℕ → Option (List Binding)
values_of s [] = some []
values_of s (v ∷ l) = paired v (value s v) (values_of s l)

-- the bodies and branches among the bets, from the bottom of the stack up
abbrev pub used_of : List Bet → List Bet
used_of [] = []
used_of (unifier m ∷ s) = used_of s
used_of (or n ∷ s) = used_of s ++ (or n ∷ [])
used_of (by g ∷ s) = used_of s ++ (by g ∷ [])

pub record QuerySolution : Type 0 where
  pub values : List Binding
  pub used : List Bet

-- laid out as a unifier's count and pairs are, and as a count and bets
abbrev pub solution_bytes : QuerySolution → List ℕ
solution_bytes a = counted binding_bytes a.values ++ counted bet_bytes a.used

-- question 8, put to all values
abbrev pub all_within : Option (List Binding) → Answer (List Binding)
all_within none = refused values
all_within (some l) = gives l

-- the answer at an exit with the bets s, for a query of these variables
unfoldable pub solution_for : (variables : List ℕ) → List Bet → Answer QuerySolution
unfolding through values_of
solution_for vs s = through refused (all_within (values_of s vs)) (λ l. gives (record { values = l; used = used_of s }))

-- the same for the query q
abbrev pub solution : Goal → List Bet → Answer QuerySolution
solution q s = solution_for (query_variables q) s

-- question 10, put to the whole answer and the room that is left for it
unfoldable pub solution_into : (room : ℕ) → Answer QuerySolution → Answer (List ℕ)
unfolding through on_yes
solution_into room a = through refused a (λ x. on_yes fits (leb (length (solution_bytes x)) room) (gives (solution_bytes x)))
