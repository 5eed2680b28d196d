-- Abstract syntax: what the desk's records say (SPECIFICATION 1).
-- Choices: terms and argument lists are declared together, since each holds the other; an atom among the
-- ancestors is a constructor of its own, so that no other goal can stand there; stacks are lists with their top first; an event is a data type
-- with one constructor, so that a rule can match into it. Equality is decidable throughout.
use Rattle.std.specs.Prelude.{◌≡◌, refl, ℕ, zero, suc}
use Rattle.std.proofs.Common.{ap₂}
use mathlib.Core.List.{List, [], ◌∷◌, nil≢cons, cons≢nil, head-eq_of_cons-eq, tail-eq_of_cons-eq}
use mathlib.Core.HLevel.{Discrete}
use Rattle.std.proofs.Math.Decide.{ℕ_discrete}

-- a variable, or a symbol with its arguments
mutual
  pub data Term : Type 0 where
    var : ℕ → Term
    app : ℕ → Terms → Term
    deriving Discrete as Term-discrete

  pub data Terms : Type 0 where
    nil : Terms
    cons : Term → Terms → Terms
    deriving Discrete as Terms-discrete

-- how many arguments
abbrev pub arity : Terms → ℕ
arity nil = zero
arity (cons t ts) = suc (arity ts)

-- `truth` and `failure` are the goals true and fail
pub data Goal : Type 0 where
  truth failure : Goal
  equal : Term → Term → Goal
  conj disj : Goal → Goal → Goal
  atom : ℕ → Terms → Goal
  deriving Discrete as Goal-discrete

-- a tag selects a half of a conjunction or a disjunction
pub data Half : Type 0 where
  first second : Half
  deriving Discrete as Half-discrete

-- what a goal stands under: an atom whose body it belongs to, or a half of a conjunction or a disjunction
pub data Ancestor : Type 0 where
  called : ℕ → Terms → Ancestor
  in_conj in_disj : Half → Goal → Goal → Ancestor
  deriving Discrete as Ancestor-discrete

-- a variable with the term that it stands for
pub data Binding : Type 0 where
  bind : ℕ → Term → Binding
  deriving Discrete as Binding-discrete

-- `or` remembers which half of a disjunction exited, `by` the body by which an atom exited
pub data Bet : Type 0 where
  unifier : List Binding → Bet
  or : Half → Bet
  by : Goal → Bet
  deriving Discrete as Bet-discrete

pub data Port : Type 0 where
  call exit fail redo : Port
  deriving Discrete as Port-discrete

-- port, goal, ancestor stack and bet stack
pub data Event : Type 0 where
  event : Port → Goal → List Ancestor → List Bet → Event
  deriving Discrete as Event-discrete

-- predicate, arity, number of locals, body; variables below the arity stand for the head's arguments, those from there on are locals
pub data Definition : Type 0 where
  definition : ℕ → ℕ → ℕ → Goal → Definition

-- predicate, number of variables, head arguments, body
pub data Clause : Type 0 where
  clause : ℕ → ℕ → Terms → Goal → Clause

-- The library's decision for lists does not unfold elsewhere; this one computes.
unfoldable pub list? : {A : Type 0} → Discrete A → Discrete (List A)
list? d [] [] = yes refl
list? d [] (y ∷ ys) = no nil≢cons
list? d (x ∷ xs) [] = no cons≢nil
list? d (x ∷ xs) (y ∷ ys) = both (d x y) (list? d xs ys)
  where
    both : Dec (x ≡ y) → Dec (xs ≡ ys) → Dec (x ∷ xs ≡ y ∷ ys)
    both (yes p) (yes q) = yes (ap₂ ◌∷◌ p q)
    both (yes p) (no n) = no (λ e. n (tail-eq_of_cons-eq e))
    both (no n) q = no (λ e. n (head-eq_of_cons-eq e))

unfoldable pub term? : Discrete Term
unfolding ℕ_discrete
term? = Term-discrete ℕ_discrete

unfoldable pub terms? : Discrete Terms
unfolding ℕ_discrete
terms? = Terms-discrete ℕ_discrete

unfoldable pub goal? : Discrete Goal
unfolding ℕ_discrete term? terms?
goal? = Goal-discrete term? ℕ_discrete terms?

unfoldable pub ancestor? : Discrete Ancestor
unfolding ℕ_discrete terms? goal?
ancestor? = Ancestor-discrete ℕ_discrete terms? Half-discrete goal?

unfoldable pub bindings? : Discrete (List Binding)
unfolding ℕ_discrete term? list?
bindings? = list? (Binding-discrete ℕ_discrete term?)

unfoldable pub bet? : Discrete Bet
unfolding bindings? goal?
bet? = Bet-discrete bindings? Half-discrete goal?

unfoldable pub event? : Discrete Event
unfolding goal? ancestor? bet? list?
event? = Event-discrete Port-discrete goal? (list? ancestor?) (list? bet?)
