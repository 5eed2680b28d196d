-- When a step is refused, listed by the gate's questions 6 to 10 (SPECIFICATION 7.4 to 7.7): `Refusal M e q` says that q is the
-- first question that says no to a step forward from e, `BackRefusal M e q` to a step back. The steps of `Rules` are refused exactly so.
use Rattle.std.specs.Prelude.{◌≡◌, false, List, [], ◌∷◌, ℕ}
use Rattle.std.proofs.Math.Option.{none, some}
use Rattle.records.specs.Format.Syntax.{Term, Terms, Goal, equal, atom, Ancestor, called, Binding, Bet, unifier, call, exit, fail, redo, Event, event}
use Rattle.records.specs.Gate.Question.{Question, possible, matches, values, locals}
use Rattle.terms.specs.Theory.Outcome.{too_large}
use Rattle.terms.specs.Body.Body.{too_many}
use Rattle.stepper.specs.Rules.Machine.{Machine, Admits}
use Rattle.stepper.specs.Rules.Rules.{ununifiable}
use Rattle.stepper.specs.Rules.Listed.{Rule}
use Rattle.stepper.specs.Rules.Sources.{Candidate}

-- exit or fail with no ancestors: no walk forward is possible
abbrev pub AtEnd : Event → Type 0
AtEnd (event call g u s) = ⊥
AtEnd (event exit g [] s) = Unit {0}
AtEnd (event exit g (a ∷ u) s) = ⊥
AtEnd (event fail g [] s) = Unit {0}
AtEnd (event fail g (a ∷ u) s) = ⊥
AtEnd (event redo g u s) = ⊥

module _ (M : Machine) where
  pub data Refusal : Event → Question → Type 0 where
    -- 6: the walk is over
    walk_ends : {e : Event} → AtEnd e → Refusal e possible
    -- 7: no rule starts from the event, whatever the unifier and the program
    no_rule : {e : Event} → (AtEnd e → ⊥) → ((N : Machine) (d : Event) → Rule N e d → ⊥) → Refusal e matches
    -- 8: a value of the equality that is called is too large
    value_too_large : {l r : Term} {u : List Ancestor} {s : List Bet} → M.unify s l r ≡ too_large → Refusal (event call (equal l r) u s) values
    -- 9: a local of the body that is called would have too high a number
    local_too_large : {p : ℕ} {ts : Terms} {u : List Ancestor} {s : List Bet} → M.body p ts u s ≡ too_many → Refusal (event call (atom p ts) u s) locals
    -- 10: the event that a rule leads to is over the limit; where an equality fails for want of a unifier this is not asked
    result_refused : {e d : Event} {q : Question} → Rule M e d → ununifiable M e ≡ false → M.result_limit d ≡ some q → Refusal e q

-- call with both stacks empty: no walk back is possible
abbrev pub AtStart : Event → Type 0
AtStart (event call g [] []) = Unit {0}
AtStart (event call g [] (b ∷ s)) = ⊥
AtStart (event call g (a ∷ u) s) = ⊥
AtStart (event exit g u s) = ⊥
AtStart (event fail g u s) = ⊥
AtStart (event redo g u s) = ⊥

module _ (M : Machine) where
  pub data BackRefusal : Event → Question → Type 0 where
    -- 6: the walk has not begun
    walk_begins : {e : Event} → AtStart e → BackRefusal e possible
    -- 7: no rule leads to the event, whatever the unifier and the program
    no_right_side : {e : Event} → (AtStart e → ⊥) → ((N : Machine) (c : Event) → Rule N c e → ⊥) → BackRefusal e matches
    -- 8: exit and fail of an equality, whose values are those under the stack of its call
    exit_value_too_large : {l r : Term} {u : List Ancestor} {m : List Binding} {s : List Bet}
        → M.unify s l r ≡ too_large → BackRefusal (event exit (equal l r) u (unifier m ∷ s)) values
    fail_value_too_large : {l r : Term} {u : List Ancestor} {s : List Bet}
        → M.unify s l r ≡ too_large → BackRefusal (event fail (equal l r) u s) values
    -- 9: call of a body under its atom, and fail of an atom
    body_local_too_large : {g : Goal} {p : ℕ} {ts : Terms} {u : List Ancestor} {s : List Bet}
        → M.body p ts u s ≡ too_many → BackRefusal (event call g (called p ts ∷ u) s) locals
    fail_local_too_large : {p : ℕ} {ts : Terms} {u : List Ancestor} {s : List Bet}
        → M.body p ts u s ≡ too_many → BackRefusal (event fail (atom p ts) u s) locals
    -- 10: the candidate is over the limit; not asked where it is the call of an equality without a unifier
    candidate_refused : {e c : Event} {q : Question}
        → Candidate M c e → ununifiable M c ≡ false → M.candidate_limit c ≡ some q → BackRefusal e q
    -- the last 7: the candidate's own step does not lead to the event
    leads_elsewhere : {e c : Event}
        → Candidate M c e → (ununifiable M c ≡ false → M.candidate_limit c ≡ none)
        → (Rule M c e × (ununifiable M c ≡ false → Admits M e) → ⊥) → BackRefusal e matches
