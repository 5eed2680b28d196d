-- Why 'whole' speaks of the variables of the call event: of others it is false. p has the body X=a, whose X is a local, and b is another constant. In the walk
-- of 'p, fail' event 10 is the fail of p, and p holds, so whatever is put for variables it holds. But its one exit before has bound X, whose number 0 the
-- call event does not have: a substitution that puts b for 0 does not go through it. By evaluation.
use Rattle.std.specs.Prelude.{◌≡◌, refl, List, [], ◌∷◌, ℕ, zero, suc, ◌<◌}
use Rattle.std.proofs.Common.{◌∙◌, ap, subst, inl, inr, arith}
use Rattle.std.proofs.Math.Decide.{ℕ_discrete, dec_lt}
use Rattle.records.specs.Format.Encode.{record_of}
use Rattle.records.specs.Format.Never.{never}
use Rattle.records.specs.Format.Syntax.{Term, var, app, nil, Goal, failure, equal, atom, first, in_conj, bind, Bet, unifier, by, fail, Event, event, goal?, event?, Definition, definition}
use Rattle.terms.specs.Theory.Substitution.{Substitution, and_then, apply}
use Rattle.terms.specs.Values.Entries.{under}
use Rattle.terms.specs.Theory.Unify.{unify}
use Rattle.terms.specs.Theory.Outcome.{value_under, unified_under}
use Rattle.terms.specs.Body.Body.{next_variable, definition_of, body}
use Rattle.stepper.specs.Rules.Rules.{first_event}
use Rattle.stepper.specs.Run.Run.{plain, run}
use Rattle.stepper.specs.Rules.Machine.{Machine}
use Rattle.stepper.specs.Services.Services.{machine, record_limit}
use Rattle.stepper.specs.Services.Desk.{layers}
use Rattle.stepper.specs.Walks.Reached.{Reached}
use Rattle.stepper.specs.Walks.Walk.{forward, Reach}
use Rattle.answers.specs.Form.Answers.{all_of, exit_of, exit_bets, events}
use Rattle.answers.specs.Form.Continued.{answer_exits}
use Rattle.meaning.specs.Says.Any.{Belongs}
use Rattle.meaning.specs.Says.Holds.{equal_holds, atom_holds, DefinitionBody, Holds}
use Rattle.meaning.specs.Answers.ExitLaws.{reached_in}

abbrev a : Term
a = app 1 nil

abbrev b : Term
b = app 2 nil

abbrev program : List Definition
program = definition 1 0 1 (equal (var 0) a) ∷ []

abbrev p : Goal
p = atom 1 nil

pub p_holds : Holds program p
unfolding definition_of
p_holds = atom_holds x_is_a equal_holds
  where
    x_is_a : DefinitionBody program 1 nil (equal a a)
    x_is_a = record { predicate = 1; heads = 0; locals = 1; goal = equal (var 0) a; found = refl; terms = λ i. a; is = refl }

abbrev desk : Machine
desk = machine layers program

-- the events and the exits of p in the first ten steps of its walk, opened to all that they compute by
unfoldable pub event_at : ℕ → Event
unfolding run first_event record_limit record_of unified_under value_under apply unify body definition_of next_variable goal? ℕ_discrete dec_lt
event_at n = (run desk (plain forward) n (first_event (all_of p))).event

unfoldable pub exits_of_p : List (List Bet)
unfolding events exit_bets event? first_event record_limit record_of unified_under value_under apply unify body definition_of next_variable goal? ℕ_discrete dec_lt
exits_of_p = answer_exits p (events desk 10 (first_event (all_of p)))

pub p_fails : event_at 10 ≡ event fail p (in_conj first p failure ∷ []) []
unfolding event_at
p_fails = refl

-- the one exit binds number 0 to a
abbrev bound_to_a : List Bet
bound_to_a = by (equal (var 0) a) ∷ unifier (bind 0 a ∷ []) ∷ []

pub one_exit : exits_of_p ≡ bound_to_a ∷ []
unfolding exits_of_p
one_exit = refl

-- So of the exits of p up to its fail none is as general as a substitution that puts b for every variable.
pub none_for_all : (j : ℕ) (x : List Bet) → Reached desk (all_of p) j (exit_of p x) → j < 10
    → (ε : Substitution) → ((v : ℕ) → b ≡ and_then (under x) ε v) → ⊥
unfolding exits_of_p Reach apply
none_for_all zero x h l ε agrees = never cc
none_for_all (suc j) x h l ε agrees =
    go (subst (Belongs x) one_exit (reached_in desk p (all_of p) 10 0 (first_event (all_of p)) refl (suc j) (omega arith) (omega arith) x h))
  where
    go : Belongs x (bound_to_a ∷ []) → ⊥
    go (inl e) = let z : b ≡ a = agrees 0 ∙ ap (λ s. and_then (under s) ε 0) e in never cc
    go (inr e) = absurd e
