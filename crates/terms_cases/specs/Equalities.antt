-- What a case of kind u comes to: the unifier of an event's equality under its bets, and the program's answer.
use Rattle.std.specs.Prelude.{◌≡◌, List, ℕ, Option, Some, None, Result, Ok, Err}
use Rattle.records.specs.Format.Syntax.{Term, Goal, Ancestor, Bet, Port, Event}
use Rattle.records.specs.Format.Syntax.Goal.{truth, failure, equal, conj, disj, atom}
use Rattle.records.specs.Format.Syntax.Event.{event}
use Rattle.records.specs.Gate.Gate.{Reading, read_event}
use Rattle.records.specs.Gate.Gate.Reading.{refused, tree}
use Rattle.records.specs.Gate.Question.{Question, refusal}
use Rattle.records.specs.Gate.Question.Question.{of_event}
use Rattle.terms.specs.Theory.Outcome.{Unified, unified_under}
use Rattle.records.specs.declared.questions.Refusal.{Refusal}
use Rattle.terms.specs.Unifier.Equality.{UnifierAnswer, UnifierAnswered, as_refusal}

-- a question refuses the event, its goal is no equality, or this is the equality's outcome
pub data Equality : Type 0 where
  no : Question → Equality
  other : Equality
  is : Unified → Equality

-- the equality of T1 and T2 under the bet stack
abbrev pub goal_equality : Goal → List Bet → Equality
goal_equality truth bets = other
goal_equality failure bets = other
goal_equality (equal t u) bets = is (unified_under bets t u)
goal_equality (conj a b) bets = other
goal_equality (disj a b) bets = other
goal_equality (atom p ts) bets = other

-- questions 11 to 14, put to the event, and then its equality
abbrev pub equality_of : Reading Event → Equality
equality_of (refused q) = no (of_event q)
equality_of (tree (event p g u bets)) = goal_equality g bets

-- an accepted event whose goal is an equality
pub record EqualityAt (s : List ℕ) : Type 0 where
  pub port : Port
  pub left : Term
  pub right : Term
  pub ancestors : List Ancestor
  pub bets : List Bet
  pub read : read_event s ≡ tree (event port (equal left right) ancestors bets)

-- the event itself
abbrev pub equality_event : {s : List ℕ} → EqualityAt s → Event
equality_event q = event q.port (equal q.left q.right) q.ancestors q.bets

-- what is told of a unifier
abbrev pub unifier_told : UnifierAnswer → Result (Option (Option ℕ)) Refusal
unifier_told (Ok o) = Ok (Some o)
unifier_told (Err e) = Err (as_refusal e)

-- the program's answer; without a unifier that fits, the output is as it was
abbrev pub EqualityReply : Equality → List ℕ → List ℕ → Result (Option (Option ℕ)) Refusal → Type 0
EqualityReply (no q) before after r = (r ≡ Err (refusal q)) × (after ≡ before)
EqualityReply other before after r = (r ≡ Ok None) × (after ≡ before)
EqualityReply (is u) before after r = (a : UnifierAnswer) × (r ≡ unifier_told a) × UnifierAnswered before after u a

pub record EqualityReplied (e : Equality) (before after : List ℕ) (r : Result (Option (Option ℕ)) Refusal) : Type 0 where
  pub reply : EqualityReply e before after r
