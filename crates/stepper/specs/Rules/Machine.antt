-- What the rules rest on, and what a step answers. The rules and all that is shown of them hold for every `Machine`.
use Rattle.std.specs.Prelude.{◌≡◌, ◌↔◌, List, ℕ}
use mathlib.Core.HLevel.{Discrete}
use Rattle.std.proofs.Math.Option.{Option, none}
use Rattle.records.specs.Format.Syntax.{Term, Terms, Goal, Ancestor, Bet, call, fail, Event, event, goal?, bindings?, event?}
use Rattle.terms.specs.Theory.Outcome.{Unified, Unified-discrete}
use Rattle.terms.specs.Body.Body.{Body, Body-discrete}
use Rattle.records.specs.Gate.Question.{Question, Question-discrete, Asked-discrete}
use Rattle.records.specs.Gate.Reply.{Answer, Answer-discrete}
pub use Rattle.records.specs.Gate.Reply.{refused, gives}

-- the unifier of S(T1) and S(T2), S being the bet stack; the body of an atom, numbered at its call under the stacks; and the question that refuses
-- an event, if one does, as the result of a step forward and as the candidate of a step back
pub record Machine : Type 0 where
  pub unify : List Bet → Term → Term → Unified
  pub body : ℕ → Terms → List Ancestor → List Bet → Body
  pub result_limit : Event → Option Question
  pub candidate_limit : Event → Option Question

-- no question refuses the event as a result
abbrev pub Admits : Machine → Event → Type 0
Admits M e = M.result_limit e ≡ none

-- what the theorems about steps ask of the two limits
pub record LimitLaws (M : Machine) : Type 0 where
  -- they admit the same events
  pub as_candidate : (e : Event) → Admits M e ↔ (M.candidate_limit e ≡ none)
  -- the port has no part in them: a fail event is admitted exactly as the call event is
  pub any_port : (g : Goal) (u : List Ancestor) (s : List Bet) → Admits M (event fail g u s) ↔ Admits M (event call g u s)

-- the machine without limits whose every unifier and every body is the one given
abbrev pub constant_machine : Unified → Body → Machine
constant_machine x b = record { unify = λ s l r. x; body = λ p ts u s. b; result_limit = λ e. none; candidate_limit = λ e. none }

-- what a step answers: the question that refuses it, or the event that it gives
abbrev pub StepOutcome : Type 0
StepOutcome = Answer Event

unfoldable pub unified? : Discrete Unified
unfolding bindings?
unified? = Unified-discrete bindings?

unfoldable pub body? : Discrete Body
unfolding goal?
body? = Body-discrete goal?

unfoldable pub answer? : Discrete StepOutcome
unfolding event?
answer? = Answer-discrete (Question-discrete Asked-discrete) event?
