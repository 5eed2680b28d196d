-- SPECIFICATION 11.19, the example of M-101: three clauses whose own variables shared a number in release 1, which numbered locals above goal and ancestors
-- alone. There the walk of the query ended in fail, though the query follows from the clauses: its answers were right, but not whole. Locals are numbered
-- above the bets as well, so the query exits with its answer, the walk ends there, and no number of steps leads to its fail. All by evaluation.
use Rattle.std.specs.Prelude.{◌≡◌, refl, List, [], ◌∷◌, ◌++◌, ℕ, zero, suc, ◌+◌}
use Rattle.std.proofs.Common.{sym, ◌∙◌, ap, subst, inl, inr, add_comm}
use Rattle.std.proofs.Math.Option.{some}
use Rattle.std.proofs.Math.Decide.{ℕ_discrete, dec_lt}
use Rattle.records.specs.Ends.Above.{above}
use Rattle.records.specs.Format.Never.{never}
use Rattle.records.specs.Format.Syntax.{Term, var, app, nil, cons, Goal, equal, conj, atom, Bet, exit, fail, event, goal?, Definition, Clause, clause, arity}
use Rattle.records.specs.Format.Encode.{record_of}
use Rattle.records.specs.Gate.Question.{possible}
use Rattle.records.specs.Gate.RecordRules.{goal_variables}
use Rattle.terms.specs.Theory.Substitution.{Substitution, apply}
use Rattle.terms.specs.Theory.Unify.{unify}
use Rattle.terms.specs.Theory.OutcomeLaws.{unified_meant}
use Rattle.terms.specs.Body.BodyLaws.{numbered_made, numbered_missing}
use Rattle.terms.specs.Theory.Outcome.{value, value_under, unified_under}
use Rattle.terms.specs.Body.Body.{ancestors_variables, next_variable, substitute_goal, definition_of, body_of, body}
use Rattle.stepper.specs.Rules.Machine.{Machine}
use Rattle.stepper.specs.Rules.Rules.{first_event}
use Rattle.stepper.specs.Walks.Reached.{Reached}
use Rattle.stepper.specs.Walks.Walk.{forward, Reach}
use Rattle.stepper.specs.Run.Run.{Stop, spent, met, full, RunEnd, run, plain, with_marks}
use Rattle.stepper.specs.Run.RunLaws.{then, run_on, run_over, run_reached}
use Rattle.stepper.specs.Services.Services.{machine, record_limit}
use Rattle.stepper.specs.Services.Desk.{layers}
use Rattle.canonical.specs.Form.Canonical.{canonical}
use Rattle.meaning.specs.Says.Holds.{equal_holds, both_hold, atom_holds, ClauseBody, Follows}
use Rattle.meaning.specs.Says.ClausesLaws.{follows_holds}
use Rattle.meaning.specs.Solutions.Faithful.{Faithful, New}
use Rattle.meaning.proofs.WholeLaws.{failed_never}

-- constants 1 and 2, g of a term, the query's variable
abbrev one : Term
one = app 1 nil

abbrev two : Term
two = app 2 nil

abbrev g : Term → Term
g t = app 3 (cons t nil)

abbrev W : Term
W = var 0

-- p(A) :- A=g(L). q :- L=1. r(A) :- A=g(2).
abbrev clauses : List Clause
clauses =
    clause 1 2 (cons (var 0) nil) (equal (var 0) (g (var 1))) ∷ clause 2 1 nil (equal (var 0) one) ∷ clause 3 1 (cons (var 0) nil) (equal (var 0) (g two)) ∷ []

-- p(W), (q, r(W))
abbrev query : Goal
query = conj (atom 1 (cons W nil)) (conj (atom 2 nil) (atom 3 (cons W nil)))

-- W=g(2)
abbrev wanted : Substitution
wanted v = g two

-- Under it the query follows from the clauses.
pub wanted_follows : Follows clauses (substitute_goal wanted query)
wanted_follows = both_hold (atom_holds of_p equal_holds) (both_hold (atom_holds of_q equal_holds) (atom_holds of_r equal_holds))
  where
    -- A, and then L
    a_and_l : Substitution
    a_and_l zero = g two
    a_and_l (suc i) = two

    of_p : ClauseBody clauses 1 (cons (g two) nil) (equal (g two) (g two))
    of_p = record { variables = 2; head = cons (var 0) nil; goal = equal (var 0) (g (var 1)); stands = inl refl; terms = a_and_l; head_is = refl; is = refl }

    of_q : ClauseBody clauses 2 nil (equal one one)
    of_q = record { variables = 1; head = nil; goal = equal (var 0) one; stands = inr (inl refl); terms = λ i. one; head_is = refl; is = refl }

    of_r : ClauseBody clauses 3 (cons (g two) nil) (equal (g two) (g two))
    of_r = record { variables = 1; head = cons (var 0) nil; goal = equal (var 0) (g two); stands = inr (inr (inl refl)); terms = a_and_l; head_is = refl; is = refl }

-- the rules of the clauses: as the desk has them, and as release 1 had them, where m is one above the greatest variable of goal and ancestors
abbrev desk : Machine
desk = machine layers (canonical clauses)

abbrev pub release_1 : List Definition → Machine
release_1 P = record {
  unify = unified_under;
  body = λ p ts u s. body_of (definition_of P p (arity ts)) ts (above (goal_variables (atom p ts) ++ ancestors_variables u));
  result_limit = record_limit;
  candidate_limit = record_limit;
}

-- It was faithful, so its answers were right.
pub release_1_faithful : (P : List Definition) → Faithful P (release_1 P)
release_1_faithful P = record {
  unifies = unified_meant;
  made = λ p ts u s g e. (_, numbered_made P p ts _ g e);
  missing = λ p ts u s e. numbered_missing P p ts _ e;
}

-- a run of so many steps from the query's first event, opened to all that it computes by
unfoldable pub walked : Machine → ℕ → RunEnd
unfolding run first_event canonical record_limit record_of unified_under value_under apply unify body definition_of next_variable goal? ℕ_discrete dec_lt
walked M n = run M (plain forward) n (first_event query)

-- But there the walk ended in fail,
pub release_1_fails : (walked (release_1 (canonical clauses)) 23).event ≡ event fail query [] []
unfolding walked
release_1_fails = refl

-- so its locals were not new.
pub release_1_not_new : New (canonical clauses) (release_1 (canonical clauses)) (release_1_faithful (canonical clauses)) → ⊥
unfolding walked Reach
release_1_not_new new =
    failed_never (canonical clauses) M (release_1_faithful (canonical clauses)) new query 23
    (subst (Reached M query 23) release_1_fails (run_reached M query (plain forward) refl 23 0 (first_event query) refl)) wanted (follows_holds clauses _ wanted_follows)
  where
    M : Machine
    M = release_1 (canonical clauses)

-- In the desk 23 steps lead to the exit of the query, and a step more is refused by 6
pub exits : (s : List Bet) × ((walked desk 24).event ≡ event exit query [] s) × ((walked desk 24).taken ≡ 23) × ((walked desk 24).why ≡ Stop.by possible) × (value s 0 ≡ some (g two))
unfolding walked
exits = (_, refl, refl, refl, refl)

-- so the walk ends there,
pub ends_there : (n : ℕ) → walked desk (24 + n) ≡ walked desk 24
unfolding walked
ends_there n = run_over desk (plain forward) 24 (first_event query) n (λ e. never cc)

-- and the fail of the query, which was wrong, is reached by no number of steps: the walk would end at it
pub not_failed : (n : ℕ) (s : List Bet) → (walked desk n).event ≡ event fail query [] s → ⊥
unfolding walked then
not_failed n s e = go (walked desk n).why refl
  where
    later : (walked desk (n + 24)).event ≡ event fail query [] s → ⊥
    later k =
        let same : walked desk (n + 24) ≡ walked desk 24 = ap (walked desk) (add_comm n 24) ∙ ends_there n in
        let both : event exit query [] exits.0 ≡ event fail query [] s = sym exits.1 ∙ sym (ap (λ r. r.event) same) ∙ k in
        never cc

    over : ((walked desk n).why ≡ spent → ⊥) → ⊥
    over z = later (ap (λ r. r.event) (run_over desk (plain forward) n (first_event query) 24 z) ∙ e)

    go : (w : Stop) → (walked desk n).why ≡ w → ⊥
    go spent y =
        later (ap (λ r. r.event) (run_on desk (plain forward) n (first_event query) 24 y) ∙ ap (λ c. (run desk (with_marks n (plain forward)) 24 c).event) e)
    go met y = over (λ z. never cc)
    go full y = over (λ z. never cc)
    go (Stop.by q) y = over (λ z. never cc)
