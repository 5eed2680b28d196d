-- SPECIFICATION 11.19: three clauses whose own variables used to share a number, and a query that therefore failed. Locals are numbered above the bets as
-- well, so the query exits with its answer, the walk ends there, and no number of steps leads to its fail.
use Rattle.std.specs.Prelude.{◌≡◌, refl, List, [], ◌∷◌, ℕ, ◌+◌}
use Rattle.std.proofs.Common.{sym, ◌∙◌, ap, add_comm}
use Rattle.std.proofs.Math.Option.{some}
use Rattle.std.proofs.Math.Decide.{ℕ_discrete, dec_lt}
use Rattle.records.specs.Format.Never.{never}
use Rattle.records.specs.Format.Syntax.{Term, var, app, nil, cons, Goal, equal, conj, atom, Bet, exit, fail, event, goal?, Clause, clause}
use Rattle.records.specs.Format.Encode.{record_of}
use Rattle.records.specs.Gate.Question.{possible}
use Rattle.terms.specs.Theory.Substitution.{apply}
use Rattle.terms.specs.Theory.Unify.{unify}
use Rattle.terms.specs.Theory.Outcome.{value, value_under, unified_under}
use Rattle.terms.specs.Body.Body.{next_variable, definition_of, body}
use Rattle.stepper.specs.Rules.Machine.{Machine}
use Rattle.stepper.specs.Rules.Rules.{first_event}
use Rattle.stepper.specs.Walks.Walk.{forward}
use Rattle.stepper.specs.Run.Run.{Stop, spent, met, full, RunEnd, run, plain, with_marks}
use Rattle.stepper.specs.Run.RunLaws.{then, run_on, run_over}
use Rattle.stepper.specs.Services.Services.{machine, record_limit}
use Rattle.stepper.specs.Services.Desk.{layers}
use Rattle.canonical.specs.Form.Canonical.{canonical}

-- constants 1 and 2, g of a term, the query's variable
abbrev one : Term
one = app 1 nil

abbrev two : Term
two = app 2 nil

abbrev g : Term → Term
g t = app 3 (cons t nil)

abbrev W : Term
W = var 0

-- p(A) :- A=g(L). q :- L=1. r(A) :- A=g(2).
abbrev clauses : List Clause
clauses =
    clause 1 2 (cons (var 0) nil) (equal (var 0) (g (var 1))) ∷ clause 2 1 nil (equal (var 0) one) ∷ clause 3 1 (cons (var 0) nil) (equal (var 0) (g two)) ∷ []

-- p(W), (q, r(W))
abbrev query : Goal
query = conj (atom 1 (cons W nil)) (conj (atom 2 nil) (atom 3 (cons W nil)))

-- the desk's run of so many steps from the query's first event, opened to all that it computes by
unfoldable pub walked : ℕ → RunEnd
unfolding run first_event canonical record_limit record_of unified_under value_under apply unify body definition_of next_variable goal? ℕ_discrete dec_lt
walked n = run (machine layers (canonical clauses)) (plain forward) n (first_event query)

-- 23 steps lead to the exit of the query, and a step more is refused by 6
pub exits : (s : List Bet) × ((walked 24).event ≡ event exit query [] s) × ((walked 24).taken ≡ 23) × ((walked 24).why ≡ Stop.by possible) × (value s 0 ≡ some (g two))
unfolding walked
exits = (_, refl, refl, refl, refl)

-- so the walk ends there,
pub ends_there : (n : ℕ) → walked (24 + n) ≡ walked 24
unfolding walked
ends_there n = run_over (machine layers (canonical clauses)) (plain forward) 24 (first_event query) n (λ e. never cc)

-- and the fail of the query, which was wrong, is reached by no number of steps: the walk would end at it
pub not_failed : (n : ℕ) (s : List Bet) → (walked n).event ≡ event fail query [] s → ⊥
unfolding walked then
not_failed n s e = go (walked n).why refl
  where
    M : Machine
    M = machine layers (canonical clauses)

    later : (walked (n + 24)).event ≡ event fail query [] s → ⊥
    later k =
        let same : walked (n + 24) ≡ walked 24 = ap walked (add_comm n 24) ∙ ends_there n in
        let both : event exit query [] exits.0 ≡ event fail query [] s = sym exits.1 ∙ sym (ap (λ r. r.event) same) ∙ k in
        never cc

    over : ((walked n).why ≡ spent → ⊥) → ⊥
    over z = later (ap (λ r. r.event) (run_over M (plain forward) n (first_event query) 24 z) ∙ e)

    go : (w : Stop) → (walked n).why ≡ w → ⊥
    go spent y =
        later (ap (λ r. r.event) (run_on M (plain forward) n (first_event query) 24 y) ∙ ap (λ c. (run M (with_marks n (plain forward)) 24 c).event) e)
    go met y = over (λ z. never cc)
    go full y = over (λ z. never cc)
    go (Stop.by q) y = over (λ z. never cc)
