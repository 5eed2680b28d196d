-- The record rules of question 4 (SPECIFICATION 1.10): the order of definitions and of a unifier's pairs, and which variables may occur.
use Rattle.std.specs.Prelude.{Bool, true, false, not, ◌&&◌, ◌||◌, List, [], ◌∷◌, ◌++◌, ℕ, zero, suc, ◌+◌, ◌*◌, eqb, ltb}
use Rattle.records.specs.Format.Syntax.{Term, Terms, Goal, Ancestor, Binding, Bet, Event, Definition, Clause}
use Rattle.records.specs.Format.Syntax.Term.{var, app}
use Rattle.records.specs.Format.Syntax.Terms.{nil, cons}
use Rattle.records.specs.Format.Syntax.Goal.{truth, failure, equal, conj, disj, atom}
use Rattle.records.specs.Format.Syntax.Ancestor.{called, in_conj, in_disj}
use Rattle.records.specs.Format.Syntax.Binding.{bind}
use Rattle.records.specs.Format.Syntax.Bet.{unifier, or, by}
use Rattle.records.specs.Format.Syntax.Event.{event}
use Rattle.records.specs.Format.Syntax.Definition.{definition}
use Rattle.records.specs.Format.Syntax.Clause.{clause}

-- the variables that occur, in their order, each as often as it occurs
abbrev mutual
  pub term_variables : Term → List ℕ
  term_variables (var v) = v ∷ []
  term_variables (app f ts) = terms_variables ts

  pub terms_variables : Terms → List ℕ
  terms_variables nil = []
  terms_variables (cons t ts) = term_variables t ++ terms_variables ts

abbrev pub goal_variables : Goal → List ℕ
goal_variables truth = []
goal_variables failure = []
goal_variables (equal t u) = term_variables t ++ term_variables u
goal_variables (conj a b) = goal_variables a ++ goal_variables b
goal_variables (disj a b) = goal_variables a ++ goal_variables b
goal_variables (atom p ts) = terms_variables ts

abbrev pub ancestor_variables : Ancestor → List ℕ
ancestor_variables (called p ts) = terms_variables ts
ancestor_variables (in_conj h a b) = goal_variables a ++ goal_variables b
ancestor_variables (in_disj h a b) = goal_variables a ++ goal_variables b

-- what a unifier binds, and the variables of the terms that it binds to
abbrev pub bound : List Binding → List ℕ
bound [] = []
bound (bind v t ∷ bs) = v ∷ bound bs

abbrev pub free : List Binding → List ℕ
free [] = []
free (bind v t ∷ bs) = term_variables t ++ free bs

-- each part of a list
abbrev pub every : {A : Type 0} → (A → Bool) → List A → Bool
every f [] = true
every f (x ∷ l) = f x && every f l

-- x stands in the list
abbrev pub member : ℕ → List ℕ → Bool
member x [] = false
member x (y ∷ l) = eqb x y || member x l

-- strictly rising numbers, the first of them at least `low`
abbrev pub rising_from : ℕ → List ℕ → Bool
rising_from low [] = true
rising_from low (x ∷ l) = not (ltb x low) && rising_from (suc x) l

abbrev pub rising : List ℕ → Bool
rising l = rising_from 0 l

-- the numbers from `from` on, n of them
abbrev pub numbers : ℕ → ℕ → List ℕ
numbers from zero = []
numbers from (suc n) = from ∷ numbers (suc from) n

-- exactly the numbers 0 to v - 1 stand in the list, each at least once
unfoldable pub exactly : ℕ → List ℕ → Bool
exactly v l = every (λ x. ltb x v) l && every (λ i. member i l) (numbers 0 v)

-- pairs rise strictly by variable, and no pair's term contains a bound variable
unfoldable pub unifier_rules : List Binding → Bool
unifier_rules bs = rising (bound bs) && every (λ x. not (member x (bound bs))) (free bs)

abbrev pub bet_rules : Bet → Bool
bet_rules (unifier bs) = unifier_rules bs
bet_rules (or h) = true
bet_rules (by g) = true

unfoldable pub event_rules : Event → Bool
event_rules (event p g u s) = every bet_rules s

-- definitions rise by predicate, then arity
abbrev pub key : Definition → ℕ
key (definition p n l g) = p * 256 + n

abbrev pub keys : List Definition → List ℕ
keys [] = []
keys (d ∷ ds) = key d ∷ keys ds

-- only the head's variables and the locals occur
abbrev pub definition_rules : Definition → Bool
definition_rules (definition p n l g) = every (λ x. ltb x (n + l)) (goal_variables g)

unfoldable pub program_rules : List Definition → Bool
program_rules ds = rising (keys ds) && every definition_rules ds

-- of head and body together: the variables that occur are those below v, all of them
abbrev pub clause_rules : Clause → Bool
clause_rules (clause p v ts g) = exactly v (terms_variables ts ++ goal_variables g)

unfoldable pub clauses_rules : List Clause → Bool
clauses_rules cs = every clause_rules cs

-- a query has no question 4
abbrev pub query_rules : Goal → Bool
query_rules g = true
