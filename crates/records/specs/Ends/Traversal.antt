-- A traversal over terms and goals, a node at a time: the variables and the other nodes in their order, and where it ends.
-- Whatever goes over a term or a goal, to find its end, its variables or its bytes under a substitution, goes over this row of nodes.
use Rattle.std.specs.Prelude.{ℕ, ◌+◌, List, [], ◌∷◌, ◌++◌, drop, Option, Some, None}
use Rattle.records.specs.Format.Syntax.{Term, Terms, Goal, arity}
use Rattle.records.specs.Format.Syntax.Term.{var, app}
use Rattle.records.specs.Format.Syntax.Terms.{nil, cons}
use Rattle.records.specs.Format.Syntax.Goal.{truth, failure, equal, conj, disj, atom}
use Rattle.records.specs.Format.Encode.{word}
use Rattle.records.specs.Format.Reader.{Read, Parts, terms_of, goals_of, read}
use Rattle.records.specs.Format.Reader.Read.{unread, found}
use Rattle.records.specs.Format.Items.{Reader}

-- a variable, or another node with its own bytes
pub data Node : Type 0 where
  variable : ℕ → Node
  other : List ℕ → Node

abbrev mutual
  pub term_nodes : Term → List Node
  term_nodes (var v) = variable v ∷ []
  term_nodes (app f ts) = other (0x02 ∷ (word f ++ (arity ts ∷ []))) ∷ terms_nodes ts

  pub terms_nodes : Terms → List Node
  terms_nodes nil = []
  terms_nodes (cons t ts) = term_nodes t ++ terms_nodes ts

abbrev pub goal_nodes : Goal → List Node
goal_nodes truth = other (0x10 ∷ []) ∷ []
goal_nodes failure = other (0x11 ∷ []) ∷ []
goal_nodes (equal t u) = other (0x12 ∷ []) ∷ (term_nodes t ++ term_nodes u)
goal_nodes (conj a b) = other (0x13 ∷ []) ∷ (goal_nodes a ++ goal_nodes b)
goal_nodes (disj a b) = other (0x14 ∷ []) ∷ (goal_nodes a ++ goal_nodes b)
goal_nodes (atom p ts) = other (0x15 ∷ (word p ++ (arity ts ∷ []))) ∷ terms_nodes ts

abbrev pub goals_nodes : List Goal → List Node
goals_nodes [] = []
goals_nodes (g ∷ gs) = goal_nodes g ++ goals_nodes gs

abbrev pub parts_nodes : Parts → List Node
parts_nodes p = terms_nodes (terms_of p) ++ goals_nodes (goals_of p)

-- the variables among the nodes
abbrev pub node_variables : List Node → List ℕ
node_variables [] = []
node_variables (variable v ∷ l) = v ∷ node_variables l
node_variables (other x ∷ l) = node_variables l

-- no traversal, or its nodes and the position after it
pub data Traversal : Type 0 where
  off : Traversal
  on : List Node → ℕ → Traversal

abbrev pub traversed : ℕ → Read Parts → Traversal
traversed at unread = off
traversed at (found p n) = on (parts_nodes p) (at + n)

-- the traversal over t terms and then g goals from a position on
unfoldable pub traverse : List ℕ → ℕ → ℕ → ℕ → Traversal
traverse s at t g = traversed at (read (drop at s) t g)

-- a node, and then a traversal
abbrev pub before : Node → Traversal → Traversal
before x off = off
before x (on l e) = on (x ∷ l) e

-- where what was found from a position on ends
abbrev pub place_of : {A : Type 0} → ℕ → Read A → Option ℕ
place_of at unread = None
place_of at (found a n) = Some (at + n)

-- the place that was found, else 0
abbrev pub position : Option ℕ → ℕ
position (Some e) = e
position None = 0

unfoldable pub end_of : {A : Type 0} → Reader A → List ℕ → ℕ → Option ℕ
end_of r s at = place_of at (r (drop at s))

abbrev pub traversal_end : Traversal → Option ℕ
traversal_end off = None
traversal_end (on l e) = Some e

-- where t terms and then g goals end
unfoldable pub end_at : List ℕ → ℕ → ℕ → ℕ → Option ℕ
end_at s at t g = traversal_end (traverse s at t g)
