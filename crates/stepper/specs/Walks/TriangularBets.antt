-- The bet stack of every reached event is triangular (`Triangular` of terms): no variable bound by a bet is bound again above it or occurs in a term
-- that a later bet binds. It holds for every machine whose unifiers are most general, whatever its bodies are.
use Rattle.std.specs.Prelude.{◌≡◌, List, [], ◌∷◌, ℕ}
use Rattle.std.proofs.Common.{sym, subst}
use Rattle.records.specs.Format.Syntax.{Term, Goal, conj, disj, atom, first, second, Ancestor, called, in_conj, in_disj, Bet, call, exit, fail, redo, Event, event}
use Rattle.records.specs.Gate.Gate.{tree, read_event}
use Rattle.terms.specs.Theory.Outcome.{Meant}
use Rattle.terms.specs.Theory.OutcomeLaws.{unified_meant}
use Rattle.terms.specs.Theory.Triangular.{Triangular}
use Rattle.terms.specs.Theory.TriangularLaws.{unifier_triangular}
use Rattle.terms.specs.Values.ValueService.{bets_of}
use Rattle.stepper.specs.Rules.Machine.{Machine}
use Rattle.stepper.specs.Walks.Legal.{Solved, by_truth, by_equal, by_conj, by_disj, by_atom, CalledUnder, Legal}
use Rattle.stepper.specs.Walks.Reached.{Reached}
use Rattle.stepper.specs.Walks.ReachedLaws.{Anything, reached_legal}
use Rattle.stepper.specs.Walks.ByteDemands.{end_of, served_read, served_reached}
use Rattle.stepper.specs.Services.Services.{Program, rules_of, Start, Move, served}
use Rattle.stepper.specs.Services.Desk.{layers}
use Rattle.stepper.specs.Services.DeskLaws.{lawful}

module _ (M : Machine) (meant : (s : List Bet) (l r : Term) → Meant s l r (M.unify s l r)) (Q : Goal) (Seen : Event → Type 0) where
  -- a goal that is solved leaves the bets triangular
  solved_triangular : {g : Goal} {u : List Ancestor} {s t : List Bet} → Solved M Q Seen g u s t → Triangular s → Triangular t
  solved_triangular by_truth h = h
  solved_triangular (by_equal {l} {r} {s = s} {m = m} e) h = unifier_triangular s l r m h (subst (Meant s l r) e (meant s l r)).1
  solved_triangular (by_conj a _ _ b _ _) h = solved_triangular b (solved_triangular a h)
  solved_triangular (by_disj n a _ _) h = solved_triangular a h
  solved_triangular (by_atom e a _ _) h = solved_triangular a h

  called_triangular : (u : List Ancestor) (g : Goal) (s : List Bet) → CalledUnder M Q Seen u g s → Triangular s
  called_triangular [] g s c = subst Triangular (sym c.1) tt
  called_triangular (in_conj first a b ∷ u) g s c = called_triangular u (conj a b) s c.1
  called_triangular (in_conj second a b ∷ u) g s c = let w = c.1 in solved_triangular w.3 (called_triangular u (conj a b) w.0 w.1)
  called_triangular (in_disj n a b ∷ u) g s c = called_triangular u (disj a b) s c.1
  called_triangular (called p ts ∷ u) g s c = called_triangular u (atom p ts) s c.1

  pub legal_triangular : (e : Event) → Legal M Q Seen e → Triangular (bets_of e)
  legal_triangular (event call g u s) c = called_triangular u g s c
  legal_triangular (event fail g u s) c = called_triangular u g s c.0
  legal_triangular (event exit g u s) c = solved_triangular c.3 (called_triangular u g c.0 c.1)
  legal_triangular (event redo g u s) c = solved_triangular c.3 (called_triangular u g c.0 c.1)

-- on events
pub reached_triangular : (M : Machine) → ((s : List Bet) (l r : Term) → Meant s l r (M.unify s l r)) → (q : Goal) (n : ℕ) (e : Event) → Reached M q n e
    → Triangular (bets_of e)
reached_triangular M meant q n e h = legal_triangular M meant q Anything e (reached_legal M q Anything n e (λ d k. tt) h)

-- on bytes: of the record at which a list of the desk's steps ends
pub served_triangular : (c : Program layers) (q : Start layers) (ms : List Move)
    → (e : Event) × (read_event (served c q ms).event ≡ tree e) × Triangular (bets_of e)
served_triangular c q ms =
    let (n, r, _) = served_reached layers lawful c q ms in
    (end_of layers lawful c q ms, served_read layers lawful c q ms, reached_triangular (rules_of c) unified_meant q.goal n _ r)
