-- What rules say, without any machine (SPECIFICATION 9.12): which goals hold by a program, and which follow from clauses.
-- Choices: both are one definition over the bodies that an atom has; a goal that holds may contain variables, and then holds however they are filled
-- (`holds_instance`); fail has no line, so it does not hold, nor does an atom without a body.
use Rattle.std.specs.Prelude.{◌≡◌, List, ℕ, zero, suc}
use Rattle.std.proofs.Math.Option.{some}
use Rattle.records.specs.Format.Syntax.{Term, Terms, nil, cons, Goal, truth, equal, conj, disj, atom, Definition, definition, Clause, clause, arity}
use Rattle.terms.specs.Theory.Substitution.{Substitution, substitute_all}
use Rattle.terms.specs.Body.Body.{substitute_goal, definition_of}
use Rattle.meaning.specs.Says.Any.{Belongs}

-- `Bodies p ts b`: b is a body of the atom p(ts)
module _ (Bodies : ℕ → Terms → Goal → Type 0) where
  pub data Derived : Goal → Type 0 where
    true_holds : Derived truth
    -- an equality holds of equal terms
    equal_holds : {t : Term} → Derived (equal t t)
    both_hold : {a b : Goal} → Derived a → Derived b → Derived (conj a b)
    left_holds : {a b : Goal} → Derived a → Derived (disj a b)
    right_holds : {a b : Goal} → Derived b → Derived (disj a b)
    -- an atom holds if a body of it does
    atom_holds : {p : ℕ} {ts : Terms} {b : Goal} → Bodies p ts b → Derived b → Derived (atom p ts)

-- the i-th head variable becomes the i-th argument, the i-th variable behind them the i-th of the terms δ
abbrev pub with_terms : Terms → Substitution → Substitution
with_terms nil δ i = δ i
with_terms (cons t ts) δ zero = t
with_terms (cons t ts) δ (suc i) = with_terms ts δ i

-- in a program: the goal of the atom's definition, the head's variables replaced by the arguments and the locals by some terms
pub record DefinitionBody (P : List Definition) (p : ℕ) (ts : Terms) (b : Goal) : Type 0 where
  pub predicate : ℕ
  pub heads : ℕ
  pub locals : ℕ
  pub goal : Goal
  pub found : definition_of P p (arity ts) ≡ some (definition predicate heads locals goal)
  pub terms : Substitution
  pub is : substitute_goal (with_terms ts terms) goal ≡ b

-- in clauses: the goal of one of them, its variables replaced by terms that make its head the atom
pub record ClauseBody (cs : List Clause) (p : ℕ) (ts : Terms) (b : Goal) : Type 0 where
  pub variables : ℕ
  pub head : Terms
  pub goal : Goal
  pub stands : Belongs (clause p variables head goal) cs
  pub terms : Substitution
  pub head_is : substitute_all terms head ≡ ts
  pub is : substitute_goal terms goal ≡ b

-- the goals that hold by a program, and those that follow from clauses
abbrev pub Holds : List Definition → Goal → Type 0
Holds P = Derived (DefinitionBody P)

abbrev pub Follows : List Clause → Goal → Type 0
Follows cs = Derived (ClauseBody cs)
