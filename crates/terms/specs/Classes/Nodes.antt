-- Tables of nodes: how the unifier's code holds terms. A node is a variable or a symbol; the nodes of a term stand in the order of its bytes, so
-- that a node's children are the nodes behind it, each the first behind the subtree of the one before.
use Rattle.std.specs.Prelude.{◌≡◌, List, [], ◌∷◌, ℕ, ◌+◌, ◌≤◌, ◌<◌, length, get_or}
use Rattle.records.specs.Format.Syntax.{Term, Terms}
use Rattle.records.specs.Format.Syntax.Term.{var, app}
use Rattle.records.specs.Format.Syntax.Terms.{nil, cons}
use Rattle.records.specs.Format.Formed.{All}
use Rattle.terms.specs.declared.nodes.Node.{Node}
use Rattle.terms.specs.declared.nodes.NodeKind.{NodeKind}
use Rattle.terms.specs.declared.nodes.NodeKind.TheVariants.{Variable, Symbol}

-- the i-th number of a list
abbrev pub at : List ℕ → ℕ → ℕ
at l i = get_or l i 0

-- a table: each node has its kind, a variable or a symbol with its arity; the number of the variable or symbol; and the first node behind its
-- subtree
abbrev pub Nodes : Type 0
Nodes = List Node

-- the node that stands for none
abbrev pub blank : Node
blank = record { kind = Variable; number = 0; next = 0 }

-- the i-th node
abbrev pub node : Nodes → ℕ → Node
node n i = get_or n i blank

-- node i's kind
abbrev pub kind : Nodes → ℕ → NodeKind
kind n i = (node n i).kind

-- node i's number
abbrev pub node_number : Nodes → ℕ → ℕ
node_number n i = (node n i).number

-- the first node behind node i's subtree
abbrev pub node_next : Nodes → ℕ → ℕ
node_next n i = (node n i).next

-- node i is a variable
abbrev pub IsVariable : Nodes → ℕ → Type 0
IsVariable n i = kind n i ≡ Variable

-- node i is a symbol
abbrev pub IsSymbol : Nodes → ℕ → Type 0
IsSymbol n i = (arity : ℕ) × (kind n i ≡ Symbol arity)

-- how many nodes there are
abbrev pub count : Nodes → ℕ
count n = length n

-- i is one of them
abbrev pub In : Nodes → ℕ → Type 0
In n i = i < count n

-- the nodes from p on, each the next of the one before, end at e
abbrev pub Path : Nodes → ℕ → ℕ → List ℕ → Type 0
Path n p e [] = p ≡ e
Path n p e (c ∷ cs) = (p ≡ c) × (p < e) × Path n (node_next n p) e cs

-- cs are the children of the symbol at node i
abbrev pub Children : Nodes → ℕ → List ℕ → Type 0
Children n i cs = Path n (i + 1) (node_next n i) cs

-- each subtree ends behind its node, within the table, and within the subtree that it is in
pub record Table (n : Nodes) : Type 0 where
  pub behind : (i : ℕ) → In n i → i < node_next n i
  pub within : (i : ℕ) → In n i → node_next n i ≤ count n
  pub inner : (i p : ℕ) → i < p → p < node_next n i → node_next n p ≤ node_next n i

-- the terms of a list of nodes
abbrev pub terms_at : (ℕ → Term) → List ℕ → Terms
terms_at term [] = nil
terms_at term (c ∷ cs) = cons (term c) (terms_at term cs)

-- `term` gives the term at node i, and `children` its children
pub data TableNode (n : Nodes) (children : ℕ → List ℕ) (term : ℕ → Term) (i : ℕ) : Type 0 where
  variable : IsVariable n i → term i ≡ var (node_number n i) → TableNode n children term i
  symbol : kind n i ≡ Symbol (length (children i)) → term i ≡ app (node_number n i) (terms_at term (children i)) → All (In n) (children i) → TableNode n children term i

-- the table holds these terms
pub record Graph (n : Nodes) (children : ℕ → List ℕ) (term : ℕ → Term) : Type 0 where
  pub node : (i : ℕ) → In n i → TableNode n children term i
  pub path : (i : ℕ) → In n i → IsSymbol n i → Children n i (children i)
