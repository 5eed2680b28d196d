-- The unifier of two values, from their table to its bytes: what the functions rely on and what they give.
use Rattle.std.specs.Prelude.{◌≡◌, List, Bool, true, false, Option, Some, None, ℕ, ◌+◌, ◌≤◌, ◌<◌, min, length, take}
use Rattle.std.proofs.Math.Option.{none, some}
use Rattle.records.specs.Format.Syntax.{Term, Binding}
use Rattle.records.specs.Format.Syntax.Term.{var}
use Rattle.records.specs.Format.Syntax.Binding.{bind}
use Rattle.records.specs.Format.Encode.{term_bytes, binding_bytes, each, counted}
use Rattle.records.specs.Format.Formed.{TermFormed}
use Rattle.records.specs.Writing.Patched.{Put}
use Rattle.terms.specs.Theory.Substitution.{Substitution}
use Rattle.terms.specs.Theory.Unify.{bindings, unify}
use Rattle.terms.specs.Classes.Nodes.{at, Nodes, count, In, node_number, IsVariable, Table, Graph}
use Rattle.terms.specs.Classes.Lengths.{Expansion, length_cap}
use Rattle.terms.specs.Classes.SolveLaws.{Unmet}
use Rattle.terms.specs.Classes.Laid.{Layable, TermsLaid}
use Rattle.terms.specs.Unifier.ClassTerms.{ClassTable}
use Rattle.terms.specs.declared.unifier.PairsWritten.{PairsWritten}
use Rattle.terms.specs.declared.unifier.UnifierFound.{UnifierFound}

-- every node has a representative in the table
pub record Classed (n : Nodes) (rep : List ℕ) : Type 0 where
  pub table : Table n
  pub long : length rep ≡ count n
  pub inside : (i : ℕ) → In n i → In n (at rep i)

-- node i is a variable whose class has another term
abbrev pub Bound : Nodes → List ℕ → ℕ → Type 0
Bound n rep i = IsVariable n i × (IsVariable n (at rep i) → node_number n (at rep i) ≡ node_number n i → ⊥)

-- what the test of a node says
unfoldable pub Tested : Nodes → List ℕ → ℕ → Bool → Type 0
Tested n rep i true = Bound n rep i
Tested n rep i false = Bound n rep i → ⊥

-- of the nodes below m none has a bound variable from lo on
pub record NoneBound (n : Nodes) (rep : List ℕ) (lo m : ℕ) : Type 0 where
  pub none : (j : ℕ) → j < m → In n j → Bound n rep j → lo ≤ node_number n j → ⊥

-- of the nodes below m, i has the least bound variable from lo on
pub record LeastBound (n : Nodes) (rep : List ℕ) (lo m i : ℕ) : Type 0 where
  pub inside : In n i
  pub bound : Bound n rep i
  pub high : lo ≤ node_number n i
  pub least : (j : ℕ) → j < m → In n j → Bound n rep j → lo ≤ node_number n j → node_number n i ≤ node_number n j

-- what is found of them
abbrev pub Least : Nodes → List ℕ → ℕ → ℕ → Option ℕ → Type 0
Least n rep lo m None = NoneBound n rep lo m
Least n rep lo m (Some i) = LeastBound n rep lo m i

-- `best` among the nodes below i gives `chosen` among those up to i
pub record Chosen (n : Nodes) (rep : List ℕ) (lo : ℕ) (best : Option ℕ) (i : ℕ) (chosen : Option ℕ) : Type 0 where
  pub each : Least n rep lo i best → Least n rep lo (i + 1) chosen

-- the classes give these bindings, by a substitution that gives each variable of the table the term of its class
pub record ClassesGive (n : Nodes) (rep : List ℕ) (σ : List Binding) : Type 0 where
  pub children : ℕ → List ℕ
  pub term : ℕ → Term
  pub graph : Graph n children term
  pub θ : Substitution
  pub met : (i : ℕ) → In n i → IsVariable n i → Expansion n children (at rep) (at rep i) (θ (node_number n i))
  pub unmet : (x : ℕ) → Unmet n x (count n) → θ x ≡ var x
  pub top : ℕ
  pub high : (x : ℕ) → top ≤ x → θ x ≡ var x
  pub same : σ ≡ bindings 0 top θ

-- the length of a written unifier, up to the cap
abbrev pub written_length : List Binding → ℕ
written_length σ = min length_cap (length (counted binding_bytes σ))

-- w is the length of whatever bindings the classes give
pub record PairsLength (n : Nodes) (rep : List ℕ) (w : ℕ) : Type 0 where
  pub each : (σ : List Binding) → ClassesGive n rep σ → w ≡ written_length σ

-- the pair of node i's variable and its class's term fits at k
pub record PairFits (n : Nodes) (rep size out : List ℕ) (k i : ℕ) : Type 0 where
  pub inside : In n i
  pub small : at size (at rep i) < length_cap
  pub room : k + (2 + at size (at rep i)) ≤ length out

-- that pair is written at k
pub record PairPut (n : Nodes) (rep : List ℕ) (old : List ℕ) (k i : ℕ) (new : List ℕ) (end : ℕ) : Type 0 where
  pub each : (children : ℕ → List ℕ) (term : ℕ → Term) → Graph n children term → (t : Term) → Expansion n children (at rep) (at rep i) t
      → Put old k (binding_bytes (bind (node_number n i) t)) new end

-- the bindings that the classes give fit at k
pub record PairsFit (n : Nodes) (rep out : List ℕ) (k : ℕ) : Type 0 where
  pub σ : List Binding
  pub gives : ClassesGive n rep σ
  pub small : length (each binding_bytes σ) < length_cap
  pub room : k + length (each binding_bytes σ) ≤ length out

-- whatever bindings the classes give are written at k
pub record PairsPut (n : Nodes) (rep : List ℕ) (old : List ℕ) (k : ℕ) (new : List ℕ) (p : PairsWritten) : Type 0 where
  pub bytes : (σ : List Binding) → ClassesGive n rep σ → Put old k (each binding_bytes σ) new p.end
  pub many : (σ : List Binding) → ClassesGive n rep σ → p.count ≡ length σ

-- the first nodes of the tables have classes that give the bindings σ
pub record HoldsUnifier (n : Nodes) (rep size : List ℕ) (m : ℕ) (σ : List Binding) : Type 0 where
  pub table_long : m ≤ count n
  pub rep_long : m ≤ length rep
  pub size_long : m ≤ length size
  pub classes : ClassTable (take m n) (take m rep) (take m size)
  pub gives : ClassesGive (take m n) (take m rep) σ

-- they do, and the written bindings fit at k
pub record UnifierFits (n : Nodes) (rep size : List ℕ) (m : ℕ) (out : List ℕ) (k : ℕ) : Type 0 where
  pub σ : List Binding
  pub holds : HoldsUnifier n rep size m σ
  pub small : length (counted binding_bytes σ) ≤ 32768
  pub room : k + length (counted binding_bytes σ) ≤ length out

-- whatever bindings the tables hold are written at k
pub record UnifierPut (n : Nodes) (rep size : List ℕ) (m : ℕ) (old : List ℕ) (k : ℕ) (new : List ℕ) (end : ℕ) : Type 0 where
  pub each : (σ : List Binding) → HoldsUnifier n rep size m σ → Put old k (counted binding_bytes σ) new end

-- two well-formed terms are laid in the table
pub record Decidable (n : Nodes) (rep size : List ℕ) (m : ℕ) : Type 0 where
  pub s : Term
  pub t : Term
  pub laid : TermsLaid n s t m
  pub s_formed : TermFormed s
  pub t_formed : TermFormed t
  pub rep_long : length rep ≡ count n
  pub size_long : length size ≡ count n

-- s and t have a unifier, which the classes of the whole table give
pub record TableUnifier (n : Nodes) (rep size : List ℕ) (s t : Term) (r : UnifierFound) : Type 0 where
  pub σ : List Binding
  pub is : unify s t ≡ some σ
  pub length_is : r.length ≡ written_length σ
  pub all : r.nodes ≡ count n
  pub classes : ClassTable n rep size
  pub gives : ClassesGive n rep σ

-- the answer for s and t
abbrev pub UnificationAnswer : Nodes → List ℕ → List ℕ → Term → Term → Option UnifierFound → Type 0
UnificationAnswer n rep size s t None = unify s t ≡ none
UnificationAnswer n rep size s t (Some r) = TableUnifier n rep size s t r

-- whatever terms are laid in the table
pub record Decides (n : Nodes) (m : ℕ) (rep size : List ℕ) (r : Option UnifierFound) : Type 0 where
  pub each : (s t : Term) → TermFormed s → TermFormed t → TermsLaid n s t m → UnificationAnswer n rep size s t r

-- two values, and a table with room for them, and its classes and lengths
pub record Unifiable (a b : List ℕ) (n : Nodes) (rep size : List ℕ) : Type 0 where
  pub layable : Layable a b n
  pub rep_long : length rep ≡ count n
  pub size_long : length size ≡ count n

-- s and t have a unifier: its length, up to the cap, and the tables that hold it
pub record UnifierHeld (n : Nodes) (rep size : List ℕ) (r : UnifierFound) (s t : Term) : Type 0 where
  pub σ : List Binding
  pub is : unify s t ≡ some σ
  pub length_is : r.length ≡ written_length σ
  pub holds : HoldsUnifier n rep size r.nodes σ

-- the unifier of two values, if there is one
abbrev pub Unification : Nodes → List ℕ → List ℕ → Option UnifierFound → Term → Term → Type 0
Unification n rep size None s t = unify s t ≡ none
Unification n rep size (Some r) s t = UnifierHeld n rep size r s t

-- whatever terms the values are
pub record Unifications (a b : List ℕ) (n : Nodes) (rep size : List ℕ) (r : Option UnifierFound) : Type 0 where
  pub each : (s t : Term) → TermFormed s → TermFormed t → a ≡ term_bytes s → b ≡ term_bytes t → Unification n rep size r s t
