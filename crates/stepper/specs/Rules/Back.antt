-- A step back without a step forward in it: the last question 7 is a comparison in two rules only. `BackLaws` shows that it is the step back
-- of `Rules`, for every event that the machine admits.
use mathlib.Core.List.{List, [], ◌∷◌}
use Rattle.records.specs.Format.Syntax.{Goal, truth, failure, equal, conj, disj, atom, Ancestor, called, in_conj, in_disj, Bet, call, exit, fail, redo, Event, event}
use Rattle.terms.specs.Theory.Outcome.{unified}
use Rattle.terms.specs.Body.Body.{defined}
use Rattle.stepper.specs.Rules.Machine.{Machine, unified?, body?, StepOutcome, refused, gives}
use Rattle.stepper.specs.Rules.Rules.{matching, top_unifier, fitting, ununifiable, candidate}

module _ (M : Machine) where
  -- call B under P: is B the body of P, numbered as at call P?
  unfoldable pub body_compared : Goal → List Ancestor → List Bet → Event → StepOutcome
  unfolding matching
  body_compared g [] s c = gives c
  body_compared g (in_conj n a b ∷ u) s c = gives c
  body_compared g (in_disj n a b ∷ u) s c = gives c
  body_compared g (called p ts ∷ u) s c = matching (body? (M.body p ts u s) (defined g)) c

  -- exit T1=T2: is the bet on top the unifier?
  unfoldable pub unifier_compared : Goal → List Bet → Event → StepOutcome
  unfolding matching top_unifier
  unifier_compared truth s c = gives c
  unifier_compared failure s c = gives c
  unifier_compared (equal l r) s c = top_unifier s (λ m t. matching (unified? (M.unify t l r) (unified m)) c)
  unifier_compared (conj a b) s c = gives c
  unifier_compared (disj a b) s c = gives c
  unifier_compared (atom p ts) s c = gives c

  -- the last question 7 for an event and its candidate
  unfoldable pub compared : Event → Event → StepOutcome
  unfolding body_compared unifier_compared
  compared (event call g u s) c = body_compared g u s c
  compared (event exit g u s) c = unifier_compared g s c
  compared (event fail g u s) c = gives c
  compared (event redo g u s) c = gives c

  unfoldable pub checked_directly : Event → StepOutcome → StepOutcome
  unfolding fitting ununifiable compared
  checked_directly e (refused q) = refused q
  checked_directly e (gives c) = fitting (ununifiable M c) (M.candidate_limit c) (compared e c)

  -- one look at the event, with one comparison in two rules
  unfoldable pub step_back_direct : Event → StepOutcome
  unfolding candidate checked_directly
  step_back_direct e = checked_directly e (candidate M e)
