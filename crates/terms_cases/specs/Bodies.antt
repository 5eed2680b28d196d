-- What a case of kind b comes to: the body of an event's atom under a program, and the program's answer.
use Rattle.std.specs.Prelude.{◌≡◌, List, ℕ, Option, Some, None, Result, Ok, Err}
use Rattle.records.specs.Format.Syntax.{Terms, Goal, Ancestor, Bet, Port, Event, Definition}
use Rattle.records.specs.Format.Syntax.Goal.{truth, failure, equal, conj, disj, atom}
use Rattle.records.specs.Format.Syntax.Event.{event}
use Rattle.records.specs.Gate.Gate.{Reading, read_event}
use Rattle.records.specs.Gate.Gate.Reading.{refused, tree}
use Rattle.records.specs.Gate.Question.{Question, refusal}
use Rattle.records.specs.Gate.Question.Question.{of_program, of_event}
use Rattle.terms.specs.Body.Body.{Body, body}
use Rattle.records.specs.declared.questions.Refusal.{Refusal}
use Rattle.terms.specs.Body.BodyBytes.{BodyAnswer, BodyAnswered, as_refusal}

-- a question refuses a record, the event's goal is no atom, or this is the atom's body
pub data AtomBody : Type 0 where
  no : Question → AtomBody
  other : AtomBody
  is : Body → AtomBody

-- the body by the goal that is called
abbrev pub goal_body : List Definition → Goal → List Ancestor → List Bet → AtomBody
goal_body ds truth u bets = other
goal_body ds failure u bets = other
goal_body ds (equal t r) u bets = other
goal_body ds (conj a b) u bets = other
goal_body ds (disj a b) u bets = other
goal_body ds (atom p ts) u bets = is (body ds p ts u bets)

-- questions 1 to 4, put to the program, 11 to 14, put to the event, and then its atom
abbrev pub body_case : Reading (List Definition) → Reading Event → AtomBody
body_case (refused q) e = no (of_program q)
body_case (tree ds) (refused q) = no (of_event q)
body_case (tree ds) (tree (event p g u bets)) = goal_body ds g u bets

-- an accepted event whose goal is an atom
pub record AtomGoal (s : List ℕ) : Type 0 where
  pub port : Port
  pub predicate : ℕ
  pub terms : Terms
  pub ancestors : List Ancestor
  pub bets : List Bet
  pub read : read_event s ≡ tree (event port (atom predicate terms) ancestors bets)

-- the event itself
abbrev pub atom_event : {s : List ℕ} → AtomGoal s → Event
atom_event q = event q.port (atom q.predicate q.terms) q.ancestors q.bets

-- what is told of an atom's body
abbrev pub body_told : BodyAnswer → Result (Option (Option ℕ)) Refusal
body_told (Ok o) = Ok (Some o)
body_told (Err e) = Err (as_refusal e)

-- the program's answer; without a body the output is as it was
abbrev pub BodyReply : AtomBody → List ℕ → List ℕ → Result (Option (Option ℕ)) Refusal → Type 0
BodyReply (no q) before after r = (r ≡ Err (refusal q)) × (after ≡ before)
BodyReply other before after r = (r ≡ Ok None) × (after ≡ before)
BodyReply (is b) before after r = (a : BodyAnswer) × (r ≡ body_told a) × BodyAnswered before after b a

pub record BodyReplied (b : AtomBody) (before after : List ℕ) (r : Result (Option (Option ℕ)) Refusal) : Type 0 where
  pub reply : BodyReply b before after r
