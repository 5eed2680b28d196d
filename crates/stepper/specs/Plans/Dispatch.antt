-- What the dispatch finds in an event by the rule that `WhichRule` names for it: no rule; a rule with a unifier or a body; or a rule whose other side is
-- made of the event's parts. Read back there are more of the second kind, since fail of an equality and of an atom have two sources each.
use Rattle.std.specs.Prelude.{◌≡◌, List, ◌∷◌, ℕ, eqb, Option, Some, None}
use Rattle.records.specs.Format.Syntax.{Term, Terms, Goal, equal, atom, Ancestor, called, Binding, Bet, unifier, Port, call, exit, fail, Event, event}
use Rattle.records.specs.Format.Heads.{pick}
use Rattle.records.specs.Gate.Question.{Question, question_number}
use Rattle.stepper.specs.Rules.Machine.{Machine, StepOutcome, refused}
use Rattle.stepper.specs.Rules.Rules.{rule, candidate}
use Rattle.stepper.specs.Rules.Listed.{Rule}
use Rattle.stepper.specs.Rules.Sources.{Source}
use Rattle.stepper.specs.Plans.View.{event_view}
use Rattle.stepper.specs.Plans.WhichRule.{forward_rule, back_rule}
use Rattle.stepper.specs.Plans.RulePlans.{forward_plan, back_plan}
use Rattle.stepper.specs.Plans.Made.{Plans}
use Rattle.stepper.specs.Plans.Halves.{Leaves, LeavesBack, Like}
use Rattle.stepper.specs.declared.rules.Rule.{Rule as Found}
use Rattle.stepper.specs.declared.rules.Rule.TheVariants.{EqualCall, EqualRedo, AtomCall, AtomFail}
use Rattle.stepper.specs.declared.view.View.{View}

-- the number of the question that says no where there is no rule: forward 6 from exit and fail, back 6 from call with no bets; else 7
unfoldable pub no_rule_number : View → ℕ
no_rule_number v = pick (eqb v.port 2) 6 (pick (eqb v.port 3) 6 7)

unfoldable pub no_source_number : View → ℕ
no_source_number v = pick (eqb v.port 1) (pick (eqb v.bets.count 0) 6 7) 7

-- an answer is a refusal, by the question with this number
pub record Unruled (a : StepOutcome) (n : ℕ) : Type 0 where
  pub question : Question
  pub refuses : a ≡ refused question
  pub numbered : n ≡ question_number question

-- an equality at a port, an atom at a port
pub record EqualityOf (p : Port) (e : Event) : Type 0 where
  pub left : Term
  pub right : Term
  pub ancestors : List Ancestor
  pub bets : List Bet
  pub is : e ≡ event p (equal left right) ancestors bets

pub record AtomOf (p : Port) (e : Event) : Type 0 where
  pub predicate : ℕ
  pub terms : Terms
  pub ancestors : List Ancestor
  pub bets : List Bet
  pub is : e ≡ event p (atom predicate terms) ancestors bets

-- exit of an equality with a unifier on top of the bets, and call of a goal under an atom
pub record UnifierOf (e : Event) : Type 0 where
  pub left : Term
  pub right : Term
  pub ancestors : List Ancestor
  pub bindings : List Binding
  pub bets : List Bet
  pub is : e ≡ event exit (equal left right) ancestors (unifier bindings ∷ bets)

pub record BodyOf (e : Event) : Type 0 where
  pub goal : Goal
  pub predicate : ℕ
  pub terms : Terms
  pub ancestors : List Ancestor
  pub bets : List Bet
  pub is : e ≡ event call goal (called predicate terms ∷ ancestors) bets

module _ (M : Machine) (s : List ℕ) where
  -- a rule that leads on from e, and the source of e, with a plan that makes the other side of e's parts
  pub record LeadsOn (e : Event) : Type 0 where
    pub next : Event
    pub rule : Rule M e next
    pub plans : Plans s (forward_plan (event_view e) (forward_rule (event_view e))) next

  pub record ComesFrom (e : Event) : Type 0 where
    pub before : Event
    pub source : Source M before e
    pub plans : Plans s (back_plan (event_view e) (back_rule (event_view e))) before

  -- what the rule that is found for an event tells of it
  abbrev pub ForwardFound : Event → Option Found → Type 0
  ForwardFound e None = Unruled (rule M e) (no_rule_number (event_view e))
  ForwardFound e (Some EqualCall) = EqualityOf call e
  ForwardFound e (Some AtomCall) = AtomOf call e
  ForwardFound e (Some r) = (Leaves e → Like s e) → LeadsOn e

  abbrev pub BackFound : Event → Option Found → Type 0
  BackFound e None = Unruled (candidate M e) (no_source_number (event_view e))
  BackFound e (Some EqualCall) = UnifierOf e
  BackFound e (Some EqualRedo) = EqualityOf fail e
  BackFound e (Some AtomCall) = BodyOf e
  BackFound e (Some AtomFail) = AtomOf fail e
  BackFound e (Some r) = (LeavesBack e → Like s e) → ComesFrom e
