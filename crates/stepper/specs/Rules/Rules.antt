-- The rules under the gate's questions 6 to 10: one step forward and one step back (SPECIFICATION 3.3, 6, 7.4 to 7.7).
-- Choices: a step is a function, so two rules can't disagree; the rules are also listed one by one in `Listed`, and shown to be this function.
-- A step back is the candidate that the right side names, questioned as the gate words it; `Back` has the form without a step forward in it.
use mathlib.Core.List.{List, [], ◌∷◌}
use Rattle.std.proofs.Math.Option.{Option, none, some}
use Rattle.std.specs.Prelude.{Bool, true, ℕ}
use Rattle.std.proofs.Math.Bool.{false}
use Rattle.records.specs.Format.Syntax.{Goal, truth, failure, equal, conj, disj, atom, Half, first, second, Ancestor, called, in_conj, in_disj, Binding, Bet, unifier, or, by, call, exit, fail, redo, Event, event, goal?}
use Rattle.records.specs.Gate.Door.{with_room}
use Rattle.records.specs.Gate.Question.{Question, possible, matches, values, locals}
use Rattle.terms.specs.Theory.Outcome.{Unified, too_large, clash, unified}
use Rattle.terms.specs.Body.Body.{Body, too_many, undefined, defined}
use Rattle.stepper.specs.Rules.Machine.{Machine, StepOutcome, refused, gives, answer?}
use Rattle.stepper.specs.Walks.Walk.{Direction, forward, back}

-- the half that a tag selects
unfoldable pub selected : Half → Goal → Goal → Goal
selected first a b = a
selected second a b = b

-- question 7: an event, if a side of a rule matches
unfoldable pub matching {ℓ} : {P : Type ℓ} → Dec P → Event → StepOutcome
matching (yes p) e = gives e
matching (no p) e = refused matches

-- question 7 for the bet on top: a unifier, an OR, or a BY
unfoldable pub top_unifier : List Bet → (List Binding → List Bet → StepOutcome) → StepOutcome
top_unifier [] k = refused matches
top_unifier (unifier m ∷ s) k = k m s
top_unifier (or n ∷ s) k = refused matches
top_unifier (by g ∷ s) k = refused matches

unfoldable pub top_or : List Bet → (Half → List Bet → StepOutcome) → StepOutcome
top_or [] k = refused matches
top_or (unifier m ∷ s) k = refused matches
top_or (or n ∷ s) k = k n s
top_or (by g ∷ s) k = refused matches

unfoldable pub top_by : List Bet → (Goal → List Bet → StepOutcome) → StepOutcome
top_by [] k = refused matches
top_by (unifier m ∷ s) k = refused matches
top_by (or n ∷ s) k = refused matches
top_by (by g ∷ s) k = k g s

-- question 8, then one event if there is no unifier, and another if there is
unfoldable pub by_unifier : Unified → Event → (List Binding → Event) → StepOutcome
by_unifier too_large c k = refused values
by_unifier clash c k = gives c
by_unifier (unified m) c k = gives (k m)

-- question 9, then one event if there is no definition, and another if there is
unfoldable pub by_body : Body → Event → (Goal → Event) → StepOutcome
by_body too_many c k = refused locals
by_body undefined c k = gives c
by_body (defined g) c k = gives (k g)

-- question 10, unless it is not put
unfoldable pub fitting : (not_put : Bool) → Option Question → StepOutcome → StepOutcome
fitting true o a = a
fitting false none a = a
fitting false (some q) a = refused q

-- question 10 for the event that an answer gives
unfoldable pub limited_by : (Event → Option Question) → (not_put : Bool) → StepOutcome → StepOutcome
unfolding fitting
limited_by limit b (refused q) = refused q
limited_by limit b (gives d) = fitting b (limit d) (gives d)

unfoldable pub is_clash : Unified → Bool
is_clash too_large = false
is_clash clash = true
is_clash (unified m) = false

-- the rules from exit, fail and redo: question 6, question 7 and the right side
unfoldable pub from_exit : Goal → List Ancestor → List Bet → StepOutcome
unfolding matching selected
from_exit g [] s = refused possible
from_exit g (in_conj first a b ∷ u) s = matching (goal? g a) (event call b (in_conj second a b ∷ u) s)
from_exit g (in_conj second a b ∷ u) s = matching (goal? g b) (event exit (conj a b) u s)
from_exit g (in_disj n a b ∷ u) s = matching (goal? g (selected n a b)) (event exit (disj a b) u (or n ∷ s))
from_exit g (called p ts ∷ u) s = gives (event exit (atom p ts) u (by g ∷ s))

unfoldable pub from_fail : Goal → List Ancestor → List Bet → StepOutcome
unfolding matching
from_fail g [] s = refused possible
from_fail g (in_conj first a b ∷ u) s = matching (goal? g a) (event fail (conj a b) u s)
from_fail g (in_conj second a b ∷ u) s = matching (goal? g b) (event redo a (in_conj first a b ∷ u) s)
from_fail g (in_disj first a b ∷ u) s = matching (goal? g a) (event call b (in_disj second a b ∷ u) s)
from_fail g (in_disj second a b ∷ u) s = matching (goal? g b) (event fail (disj a b) u s)
from_fail g (called p ts ∷ u) s = gives (event fail (atom p ts) u s)

unfoldable pub from_redo : Goal → List Ancestor → List Bet → StepOutcome
unfolding selected top_unifier top_or top_by
from_redo truth u s = gives (event fail truth u s)
from_redo failure u s = refused matches
from_redo (equal l r) u s = top_unifier s (λ m t. gives (event fail (equal l r) u t))
from_redo (conj a b) u s = gives (event redo b (in_conj second a b ∷ u) s)
from_redo (disj a b) u s = top_or s (λ n t. gives (event redo (selected n a b) (in_disj n a b ∷ u) t))
from_redo (atom p ts) u s = top_by s (λ g t. gives (event redo g (called p ts ∷ u) t))

-- the rules to redo, read back
unfoldable pub into_redo : Goal → List Ancestor → List Bet → StepOutcome
unfolding matching selected
into_redo g [] s = refused matches
into_redo g (in_conj first a b ∷ u) s = matching (goal? g a) (event fail b (in_conj second a b ∷ u) s)
into_redo g (in_conj second a b ∷ u) s = matching (goal? g b) (event redo (conj a b) u s)
into_redo g (in_disj n a b ∷ u) s = matching (goal? g (selected n a b)) (event redo (disj a b) u (or n ∷ s))
into_redo g (called p ts ∷ u) s = gives (event redo (atom p ts) u (by g ∷ s))

-- a query's first event
unfoldable pub first_event : Goal → Event
first_event q = event call q [] []

module _ (M : Machine) where
  -- the rules from call: questions 8 and 9 and the right side
  unfoldable pub from_call : Goal → List Ancestor → List Bet → StepOutcome
  unfolding by_unifier by_body
  from_call truth u s = gives (event exit truth u s)
  from_call failure u s = gives (event fail failure u s)
  from_call (equal l r) u s = by_unifier (M.unify s l r) (event fail (equal l r) u s) (λ m. event exit (equal l r) u (unifier m ∷ s))
  from_call (conj a b) u s = gives (event call a (in_conj first a b ∷ u) s)
  from_call (disj a b) u s = gives (event call a (in_disj first a b ∷ u) s)
  from_call (atom p ts) u s = by_body (M.body p ts u s) (event fail (atom p ts) u s) (λ g. event call g (called p ts ∷ u) s)

  -- questions 6 to 9, and the right side of the rule whose left side the event matches
  unfoldable pub rule : Event → StepOutcome
  unfolding from_call from_exit from_fail from_redo
  rule (event call g u s) = from_call g u s
  rule (event exit g u s) = from_exit g u s
  rule (event fail g u s) = from_fail g u s
  rule (event redo g u s) = from_redo g u s

  -- whether the event calls an equality of two terms that can't be unified
  unfoldable pub cannot_unify : Goal → List Bet → Bool
  unfolding is_clash
  cannot_unify truth s = false
  cannot_unify failure s = false
  cannot_unify (equal l r) s = is_clash (M.unify s l r)
  cannot_unify (conj a b) s = false
  cannot_unify (disj a b) s = false
  cannot_unify (atom p ts) s = false

  unfoldable pub ununifiable : Event → Bool
  unfolding cannot_unify
  ununifiable (event call g u s) = cannot_unify g s
  ununifiable (event exit g u s) = false
  ununifiable (event fail g u s) = false
  ununifiable (event redo g u s) = false

  -- a step forward: question 10 is left out where an equality has no unifier
  unfoldable pub step_forward : Event → StepOutcome
  unfolding rule limited_by ununifiable
  step_forward e = limited_by M.result_limit (ununifiable e) (rule e)

  -- The rules read back: question 6, the first question 7, which looks at no unifier and at no body, questions 8 and 9, and the candidate, which is
  -- the left side. What the unifier or the body is, is left to the last question 7: call B
  -- under P and exit T1=T2 have one candidate each.
  unfoldable pub into_call : Goal → List Ancestor → List Bet → StepOutcome
  unfolding matching by_body
  into_call g [] [] = refused possible
  into_call g [] (b ∷ s) = refused matches
  into_call g (in_conj first a b ∷ u) s = matching (goal? g a) (event call (conj a b) u s)
  into_call g (in_conj second a b ∷ u) s = matching (goal? g b) (event exit a (in_conj first a b ∷ u) s)
  into_call g (in_disj first a b ∷ u) s = matching (goal? g a) (event call (disj a b) u s)
  into_call g (in_disj second a b ∷ u) s = matching (goal? g b) (event fail a (in_disj first a b ∷ u) s)
  into_call g (called p ts ∷ u) s = by_body (M.body p ts u s) (event call (atom p ts) u s) (λ b. event call (atom p ts) u s)

  unfoldable pub into_exit : Goal → List Ancestor → List Bet → StepOutcome
  unfolding selected top_unifier top_or top_by by_unifier
  into_exit truth u s = gives (event call truth u s)
  into_exit failure u s = refused matches
  into_exit (equal l r) u s = top_unifier s (λ m t. by_unifier (M.unify t l r) (event call (equal l r) u t) (λ m. event call (equal l r) u t))
  into_exit (conj a b) u s = gives (event exit b (in_conj second a b ∷ u) s)
  into_exit (disj a b) u s = top_or s (λ n t. gives (event exit (selected n a b) (in_disj n a b ∷ u) t))
  into_exit (atom p ts) u s = top_by s (λ g t. gives (event exit g (called p ts ∷ u) t))

  -- fail T1=T2 and fail P have two sources: which one it is, is known from the unifier and the definition
  unfoldable pub into_fail : Goal → List Ancestor → List Bet → StepOutcome
  unfolding by_unifier by_body
  into_fail truth u s = gives (event redo truth u s)
  into_fail failure u s = gives (event call failure u s)
  into_fail (equal l r) u s = by_unifier (M.unify s l r) (event call (equal l r) u s) (λ m. event redo (equal l r) u (unifier m ∷ s))
  into_fail (conj a b) u s = gives (event fail a (in_conj first a b ∷ u) s)
  into_fail (disj a b) u s = gives (event fail b (in_disj second a b ∷ u) s)
  into_fail (atom p ts) u s = by_body (M.body p ts u s) (event call (atom p ts) u s) (λ g. event fail g (called p ts ∷ u) s)

  unfoldable pub candidate : Event → StepOutcome
  unfolding into_call into_exit into_fail into_redo
  candidate (event call g u s) = into_call g u s
  candidate (event exit g u s) = into_exit g u s
  candidate (event fail g u s) = into_fail g u s
  candidate (event redo g u s) = into_redo g u s

  -- question 10 for the candidate, and the last 7: does its own step lead to the event? (A refused one does not.)
  unfoldable pub checked : Event → StepOutcome → StepOutcome
  unfolding fitting ununifiable matching step_forward
  checked e (refused q) = refused q
  checked e (gives c) = fitting (ununifiable c) (M.candidate_limit c) (matching (answer? (step_forward c) (gives e)) c)

  unfoldable pub step_back : Event → StepOutcome
  unfolding candidate checked
  step_back e = checked e (candidate e)

  unfoldable pub step : Direction → Event → StepOutcome
  unfolding step_forward step_back
  step forward e = step_forward e
  step back e = step_back e

-- the event of an accepted step
unfoldable pub accepted : StepOutcome → Option Event
accepted (refused q) = none
accepted (gives e) = some e

-- a step's direction, and the length of the output that it is lent
pub record Lent : Type 0 where
  pub direction : Direction
  pub room : ℕ

-- a step with question 5 before it
unfoldable pub attempt : Machine → Lent → Event → StepOutcome
unfolding step with_room
attempt M l e = with_room l.room (step M l.direction e)
