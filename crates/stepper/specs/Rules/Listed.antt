-- The rules in their order (SPECIFICATION 3.3), a constructor for each: `Rule M e d` says that a rule leads from e to d.
-- The 21 rules have 23 constructors, since the call rules of equality and of an atom have two right sides each.
-- S is the bet stack s, U the ancestor stack u; `a ∷ u` puts a on top.
use Rattle.std.specs.Prelude.{◌≡◌, List, ◌∷◌, ℕ}
use Rattle.records.specs.Format.Syntax.{Term, Terms, Goal, truth, failure, equal, conj, disj, atom, Half, first, second, Ancestor, called, in_conj, in_disj, Binding, Bet, unifier, or, by, call, exit, fail, redo, Event, event}
use Rattle.terms.specs.Theory.Outcome.{clash, unified}
use Rattle.terms.specs.Body.Body.{undefined, defined}
use Rattle.stepper.specs.Rules.Machine.{Machine}
use Rattle.stepper.specs.Rules.Rules.{selected}

module _ (M : Machine) where
  pub data Rule : Event → Event → Type 0 where
    -- Conjunction: call A,B → call A, 1/A,B on U.
    conj_call : {a b : Goal} {u : List Ancestor} {s : List Bet}
        → Rule (event call (conj a b) u s) (event call a (in_conj first a b ∷ u) s)
    -- exit A under 1 → call B under 2.
    conj_exit_first : {a b : Goal} {u : List Ancestor} {s : List Bet}
        → Rule (event exit a (in_conj first a b ∷ u) s) (event call b (in_conj second a b ∷ u) s)
    -- fail A under 1 → fail A,B.
    conj_fail_first : {a b : Goal} {u : List Ancestor} {s : List Bet}
        → Rule (event fail a (in_conj first a b ∷ u) s) (event fail (conj a b) u s)
    -- exit B under 2 → exit A,B.
    conj_exit_second : {a b : Goal} {u : List Ancestor} {s : List Bet}
        → Rule (event exit b (in_conj second a b ∷ u) s) (event exit (conj a b) u s)
    -- fail B under 2 → redo A under 1.
    conj_fail_second : {a b : Goal} {u : List Ancestor} {s : List Bet}
        → Rule (event fail b (in_conj second a b ∷ u) s) (event redo a (in_conj first a b ∷ u) s)
    -- redo A,B → redo B, 2/A,B on U.
    conj_redo : {a b : Goal} {u : List Ancestor} {s : List Bet}
        → Rule (event redo (conj a b) u s) (event redo b (in_conj second a b ∷ u) s)
    -- Disjunction: call A;B → call A, 1/A;B on U.
    disj_call : {a b : Goal} {u : List Ancestor} {s : List Bet}
        → Rule (event call (disj a b) u s) (event call a (in_disj first a b ∷ u) s)
    -- fail A under 1 → call B under 2.
    disj_fail_first : {a b : Goal} {u : List Ancestor} {s : List Bet}
        → Rule (event fail a (in_disj first a b ∷ u) s) (event call b (in_disj second a b ∷ u) s)
    -- fail B under 2 → fail A;B.
    disj_fail_second : {a b : Goal} {u : List Ancestor} {s : List Bet}
        → Rule (event fail b (in_disj second a b ∷ u) s) (event fail (disj a b) u s)
    -- exit A under 1 → exit A;B, OR 1 on S.
    disj_exit_first : {a b : Goal} {u : List Ancestor} {s : List Bet}
        → Rule (event exit a (in_disj first a b ∷ u) s) (event exit (disj a b) u (or first ∷ s))
    -- exit B under 2 → exit A;B, OR 2 on S.
    disj_exit_second : {a b : Goal} {u : List Ancestor} {s : List Bet}
        → Rule (event exit b (in_disj second a b ∷ u) s) (event exit (disj a b) u (or second ∷ s))
    -- redo A;B with OR N on S → redo of half N, N/A;B on U, that bet gone.
    disj_redo : {a b : Goal} {u : List Ancestor} {s : List Bet} (n : Half)
        → Rule (event redo (disj a b) u (or n ∷ s)) (event redo (selected n a b) (in_disj n a b ∷ u) s)
    -- true: call → exit;
    true_call : {u : List Ancestor} {s : List Bet}
        → Rule (event call truth u s) (event exit truth u s)
    -- redo → fail.
    true_redo : {u : List Ancestor} {s : List Bet}
        → Rule (event redo truth u s) (event fail truth u s)
    -- fail: call → fail.
    fail_call : {u : List Ancestor} {s : List Bet}
        → Rule (event call failure u s) (event fail failure u s)
    -- Equality: call → exit with the unifier of S(T1) and S(T2) put on S,
    equal_call : {l r : Term} {u : List Ancestor} {s : List Bet} {m : List Binding}
        → M.unify s l r ≡ unified m
        → Rule (event call (equal l r) u s) (event exit (equal l r) u (unifier m ∷ s))
    -- else fail.
    equal_clash : {l r : Term} {u : List Ancestor} {s : List Bet}
        → M.unify s l r ≡ clash
        → Rule (event call (equal l r) u s) (event fail (equal l r) u s)
    -- redo with a unifier on S → fail, that bet gone.
    equal_redo : {l r : Term} {u : List Ancestor} {s : List Bet} {m : List Binding}
        → Rule (event redo (equal l r) u (unifier m ∷ s)) (event fail (equal l r) u s)
    -- Atom: call P → call of P's body, P on U;
    atom_call : {p : ℕ} {ts : Terms} {g : Goal} {u : List Ancestor} {s : List Bet}
        → M.body p ts u s ≡ defined g
        → Rule (event call (atom p ts) u s) (event call g (called p ts ∷ u) s)
    -- P without a definition → fail P.
    atom_undefined : {p : ℕ} {ts : Terms} {u : List Ancestor} {s : List Bet}
        → M.body p ts u s ≡ undefined
        → Rule (event call (atom p ts) u s) (event fail (atom p ts) u s)
    -- exit B under P → exit P, BY B on S.
    atom_exit : {p : ℕ} {ts : Terms} {g : Goal} {u : List Ancestor} {s : List Bet}
        → Rule (event exit g (called p ts ∷ u) s) (event exit (atom p ts) u (by g ∷ s))
    -- fail B under P → fail P.
    atom_fail : {p : ℕ} {ts : Terms} {g : Goal} {u : List Ancestor} {s : List Bet}
        → Rule (event fail g (called p ts ∷ u) s) (event fail (atom p ts) u s)
    -- redo P with BY B on S → redo B, P on U, that bet gone.
    atom_redo : {p : ℕ} {ts : Terms} {g : Goal} {u : List Ancestor} {s : List Bet}
        → Rule (event redo (atom p ts) u (by g ∷ s)) (event redo g (called p ts ∷ u) s)
