-- The canonical form (SPECIFICATION 2): the definitions that clauses make.
-- Choices: a predicate is a number together with an arity, as in a program's order; its definition is made from its own clauses, taken out of the
-- list in their order; a clause's variables are renamed by a substitution, as those of a body are; nothing is simplified.
use Rattle.std.specs.Prelude.{Bool, ◌&&◌, ◌||◌, cond, List, [], ◌∷◌, ℕ, zero, suc, ◌+◌, eqb, ltb}
use Rattle.std.proofs.Math.Option.{Option, none, some}
use Rattle.records.specs.Format.Syntax.{Terms, Goal, Definition, Clause, arity}
use Rattle.records.specs.Format.Syntax.Term.{var}
use Rattle.records.specs.Format.Syntax.Terms.{nil, cons}
use Rattle.records.specs.Format.Syntax.Goal.{equal, conj, disj}
use Rattle.records.specs.Format.Syntax.Definition.{definition}
use Rattle.records.specs.Format.Syntax.Clause.{clause}
use Rattle.terms.specs.Theory.Substitution.{Substitution, substitute}
use Rattle.terms.specs.Body.Body.{substitute_goal}

-- its number and its arity
pub data Predicate : Type 0 where
  predicate : ℕ → ℕ → Predicate

-- the predicate that a clause belongs to
abbrev pub predicate_of : Clause → Predicate
predicate_of (clause p v ts g) = predicate p (arity ts)

abbrev pub same_predicate : Predicate → Predicate → Bool
same_predicate (predicate p n) (predicate q m) = eqb p q && eqb n m

-- predicates rise by number, then arity
abbrev pub predicate_before : Predicate → Predicate → Bool
predicate_before (predicate p n) (predicate q m) = ltb p q || (eqb p q && ltb n m)

-- a rising list with x in it, once
abbrev pub placed : Predicate → List Predicate → List Predicate
placed x [] = x ∷ []
placed x (y ∷ l) = cond (predicate_before x y) (x ∷ (y ∷ l)) (cond (same_predicate x y) (y ∷ l) (y ∷ placed x l))

-- the predicates of the clauses, rising, each once
abbrev pub predicates : List Clause → List Predicate
predicates [] = []
predicates (c ∷ cs) = placed (predicate_of c) (predicates cs)

-- the clauses of a predicate, in their order
abbrev pub clauses_of : Predicate → List Clause → List Clause
clauses_of x [] = []
clauses_of x (c ∷ cs) = cond (same_predicate x (predicate_of c)) (c ∷ clauses_of x cs) (clauses_of x cs)

-- variable i becomes k + i
abbrev pub numbered_from : ℕ → Substitution
numbered_from k i = var (k + i)

-- Xx=T1, .., G joined by conjunction to the right, the terms and G renamed; without terms it is G
abbrev pub branch_from : ℕ → Substitution → Terms → Goal → Goal
branch_from x θ nil g = substitute_goal θ g
branch_from x θ (cons t ts) g = conj (equal (var x) (substitute θ t)) (branch_from (suc x) θ ts g)

-- the branch of a clause whose variables are numbered from k on
abbrev pub branch : ℕ → Clause → Goal
branch k (clause p v ts g) = branch_from 0 (numbered_from k) ts g

abbrev pub variable_count : Clause → ℕ
variable_count (clause p v ts g) = v

-- the sum of the variable counts
abbrev pub locals_of : List Clause → ℕ
locals_of [] = zero
locals_of (c ∷ cs) = variable_count c + locals_of cs

-- the branches of a clause and those after it, joined by disjunction to the right; each clause is numbered behind the one before it
abbrev pub branches : ℕ → Clause → List Clause → Goal
branches k c [] = branch k c
branches k c (d ∷ cs) = disj (branch k c) (branches (k + variable_count c) d cs)

-- the definition that a predicate's clauses make; without clauses there is none
abbrev pub defined_by : Predicate → List Clause → Option Definition
defined_by x [] = none
defined_by (predicate p n) (c ∷ cs) = some (definition p n (locals_of (c ∷ cs)) (branches n c cs))

-- in front of a list, if there is one
abbrev pub if_any : {A : Type 0} → Option A → List A → List A
if_any none l = l
if_any (some x) l = x ∷ l

-- the definitions of these predicates, in their order
abbrev pub definitions : List Predicate → List Clause → List Definition
definitions [] cs = []
definitions (x ∷ l) cs = if_any (defined_by x (clauses_of x cs)) (definitions l cs)

-- the definitions of all predicates that have clauses, rising by predicate, then arity
unfoldable pub canonical : List Clause → List Definition
canonical cs = definitions (predicates cs) cs
