-- The rules read from right to left (SPECIFICATION 6.1): `Source M c e` says that c is the source of e.
-- Two right sides have two sources; the source is then the one whose unifier or body is the one that its call has.
-- `Candidate M c e` says that c is the candidate of a step back from e: the source, as far as the first question 7 looks.
use Rattle.std.specs.Prelude.{◌≡◌, List, [], ◌∷◌, ℕ}
use Rattle.records.specs.Format.Syntax.{Term, Terms, Goal, truth, failure, equal, conj, disj, atom, Ancestor, called, in_conj, in_disj, Binding, Bet, unifier, or, by, call, exit, fail, redo, Event, event}
use Rattle.terms.specs.Theory.Outcome.{too_large, unified}
use Rattle.terms.specs.Body.Body.{too_many, defined}
use Rattle.stepper.specs.Rules.Machine.{Machine}
use Rattle.stepper.specs.Rules.Listed.{Rule}

module _ (M : Machine) where
  -- redo T1=T2: the unifier on S is that of S(T1) and S(T2), S being the call's
  abbrev pub OwnUnifier : Goal → List Bet → Type 0
  OwnUnifier truth s = Unit {0}
  OwnUnifier failure s = Unit {0}
  OwnUnifier (equal l r) [] = Unit {0}
  OwnUnifier (equal l r) (unifier m ∷ s) = M.unify s l r ≡ unified m
  OwnUnifier (equal l r) (or n ∷ s) = Unit {0}
  OwnUnifier (equal l r) (by g ∷ s) = Unit {0}
  OwnUnifier (conj a b) s = Unit {0}
  OwnUnifier (disj a b) s = Unit {0}
  OwnUnifier (atom p ts) s = Unit {0}

  -- fail B under P: B is the body that P has under these stacks
  abbrev pub OwnBody : Goal → List Ancestor → List Bet → Type 0
  OwnBody g [] s = Unit {0}
  OwnBody g (in_conj n a b ∷ u) s = Unit {0}
  OwnBody g (in_disj n a b ∷ u) s = Unit {0}
  OwnBody g (called p ts ∷ u) s = M.body p ts u s ≡ defined g

  abbrev pub Own : Event → Type 0
  Own (event call g u s) = Unit {0}
  Own (event exit g u s) = Unit {0}
  Own (event fail g u s) = OwnBody g u s
  Own (event redo g u s) = OwnUnifier g s

  -- a rule leads from c to e; of the two sources that fail of an equality and fail of an atom have, it is the one with the call's own unifier, or with
  -- the atom's own body, where there is one
  abbrev pub Source : Event → Event → Type 0
  Source c e = Rule M c e × Own c

  -- Questions 8 and 9 say yes, and c is the candidate for e. Unifiers and bodies are compared by the last question 7; until then call T1=T2 and
  -- call P stand for the one source of exit T1=T2 and of call B under P.
  pub data Candidate : Event → Event → Type 0 where
    -- the rule read from right to left
    source : {c e : Event} → Source c e → Candidate c e
    -- exit T1=T2 with a unifier on S, whichever it is, comes from call
    any_unifier : {l r : Term} {u : List Ancestor} {s : List Bet} {m : List Binding}
        → (M.unify s l r ≡ too_large → ⊥) → Candidate (event call (equal l r) u s) (event exit (equal l r) u (unifier m ∷ s))
    -- call B under P, whatever B is, comes from call P
    any_body : {p : ℕ} {ts : Terms} {g : Goal} {u : List Ancestor} {s : List Bet}
        → (M.body p ts u s ≡ too_many → ⊥) → Candidate (event call (atom p ts) u s) (event call g (called p ts ∷ u) s)
