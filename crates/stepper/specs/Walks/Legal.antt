-- What holds of every event that a walk reaches. Q is the query; `Seen` is what is known of the events passed on the way (for the demands
-- nothing, for a claim on earlier events that they were reached).
use Rattle.std.specs.Prelude.{◌≡◌, List, [], ◌∷◌, ℕ}
use Rattle.records.specs.Format.Syntax.{Term, Terms, Goal, truth, equal, conj, disj, atom, Half, first, second, Ancestor, called, in_conj, in_disj, Binding, Bet, unifier, or, by, call, exit, fail, redo, Event, event}
use Rattle.terms.specs.Theory.Outcome.{unified}
use Rattle.terms.specs.Body.Body.{defined}
use Rattle.stepper.specs.Rules.Machine.{Machine}
use Rattle.stepper.specs.Rules.Rules.{selected}

module _ (M : Machine) (Q : Goal) (Seen : Event → Type 0) where
  -- the goal, called under the ancestors with the first bet stack, exits with the second
  pub data Solved : Goal → List Ancestor → List Bet → List Bet → Type 0 where
    by_truth : {u : List Ancestor} {s : List Bet} → Solved truth u s s
    by_equal : {l r : Term} {u : List Ancestor} {s : List Bet} {m : List Binding}
        → M.unify s l r ≡ unified m
        → Solved (equal l r) u s (unifier m ∷ s)
    by_conj : {a b : Goal} {u : List Ancestor} {s t v : List Bet}
        → Solved a (in_conj first a b ∷ u) s t
        → Seen (event exit a (in_conj first a b ∷ u) t) → Seen (event call a (in_conj first a b ∷ u) s)
        → Solved b (in_conj second a b ∷ u) t v
        → Seen (event exit b (in_conj second a b ∷ u) v) → Seen (event call b (in_conj second a b ∷ u) t)
        → Solved (conj a b) u s v
    by_disj : {a b : Goal} {u : List Ancestor} {s t : List Bet} (n : Half)
        → Solved (selected n a b) (in_disj n a b ∷ u) s t
        → Seen (event exit (selected n a b) (in_disj n a b ∷ u) t) → Seen (event call (selected n a b) (in_disj n a b ∷ u) s)
        → Solved (disj a b) u s (or n ∷ t)
    by_atom : {p : ℕ} {ts : Terms} {u : List Ancestor} {s t : List Bet} {g : Goal}
        → M.body p ts u s ≡ defined g
        → Solved g (called p ts ∷ u) s t
        → Seen (event exit g (called p ts ∷ u) t) → Seen (event call g (called p ts ∷ u) s)
        → Solved (atom p ts) u s (by g ∷ t)

  -- the goal is called under the ancestors with the bet stack, on the way from the query
  abbrev pub CalledUnder : List Ancestor → Goal → List Bet → Type 0
  CalledUnder [] g s = (g ≡ Q) × (s ≡ [])
  CalledUnder (in_conj first a b ∷ u) g s = (g ≡ a) × CalledUnder u (conj a b) s × Seen (event call (conj a b) u s)
  CalledUnder (in_conj second a b ∷ u) g s =
      (g ≡ b)
      × ((r : List Bet) × CalledUnder u (conj a b) r × Seen (event call (conj a b) u r) × Solved a (in_conj first a b ∷ u) r s
      × Seen (event exit a (in_conj first a b ∷ u) s) × Seen (event call a (in_conj first a b ∷ u) r))
  CalledUnder (in_disj n a b ∷ u) g s = (g ≡ selected n a b) × CalledUnder u (disj a b) s × Seen (event call (disj a b) u s)
  CalledUnder (called p ts ∷ u) g s = (M.body p ts u s ≡ defined g) × CalledUnder u (atom p ts) s × Seen (event call (atom p ts) u s)

  -- call and fail: the goal is called with these stacks; exit and redo: it is called with some bets, and solved from them with these
  abbrev pub Legal : Event → Type 0
  Legal (event call g u s) = CalledUnder u g s
  Legal (event fail g u s) = CalledUnder u g s × Seen (event call g u s)
  Legal (event exit g u s) = (r : List Bet) × CalledUnder u g r × Seen (event call g u r) × Solved g u r s
  Legal (event redo g u s) = (r : List Bet) × CalledUnder u g r × Seen (event call g u r) × Solved g u r s × Seen (event exit g u s)
