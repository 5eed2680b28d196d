-- The last question 7 of a step back, where it is a comparison: is the unifier on the bets the equality's, is the goal the atom's body?
use Rattle.std.specs.Prelude.{◌≡◌, List, ◌∷◌, ℕ}
use Rattle.records.specs.Format.Syntax.{Term, Terms, Goal, equal, Ancestor, called, Binding, Bet, unifier, Port, event}
use Rattle.records.specs.Gate.Question.{matches, values, locals, question_number}
use Rattle.records.specs.Gate.Gate.{tree, read_event}
use Rattle.terms.specs.Theory.Outcome.{Unified, too_large, clash, unified}
use Rattle.terms.specs.Body.Body.{Body, too_many, undefined, defined}
use Rattle.terms.specs.declared.variables.Frame.{Frame}
use Rattle.stepper.specs.Rules.Machine.{unified?, body?}
use Rattle.stepper.specs.Plans.View.{event_view}
use Rattle.stepper.specs.declared.view.View.{View}

-- the number of a comparison: the last question 7
unfoldable pub compared_number {ℓ} : {P : Type ℓ} → Dec P → ℕ
unfolding question_number
compared_number (yes p) = 0
compared_number (no p) = question_number matches

-- question 8, and whether the unifier is m
unfoldable pub unifier_number : Unified → List Binding → ℕ
unfolding compared_number question_number
unifier_number too_large m = question_number values
unifier_number clash m = compared_number (unified? clash (unified m))
unifier_number (unified σ) m = compared_number (unified? (unified σ) (unified m))

-- question 9, and whether the body is g
unfoldable pub body_number : Body → Goal → ℕ
unfolding compared_number question_number
body_number too_many g = question_number locals
body_number undefined g = compared_number (body? undefined (defined g))
body_number (defined b) g = compared_number (body? (defined b) (defined g))

-- an accepted event whose goal is an equality with a unifier on top of the bets, and one whose goal stands under an atom
pub record UnifierViewed (s : List ℕ) (v : View) : Type 0 where
  pub port : Port
  pub left : Term
  pub right : Term
  pub ancestors : List Ancestor
  pub bindings : List Binding
  pub bets : List Bet
  pub reads : read_event s ≡ tree (event port (equal left right) ancestors (unifier bindings ∷ bets))
  pub same : v ≡ event_view (event port (equal left right) ancestors (unifier bindings ∷ bets))

pub record BodyViewed (s : List ℕ) (v : View) : Type 0 where
  pub port : Port
  pub goal : Goal
  pub predicate : ℕ
  pub terms : Terms
  pub ancestors : List Ancestor
  pub bets : List Bet
  pub reads : read_event s ≡ tree (event port goal (called predicate terms ∷ ancestors) bets)
  pub same : v ≡ event_view (event port goal (called predicate terms ∷ ancestors) bets)

-- the frame of that atom
abbrev pub ancestor_frame : View → Frame
ancestor_frame v = record {
  goal = v.ancestor.from;
  ancestors = v.ancestors.rest;
  depth = v.ancestors.fewer;
  bets = v.bets.from;
  height = v.bets.count;
}
