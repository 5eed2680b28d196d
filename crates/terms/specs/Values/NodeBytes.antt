-- The bytes of a row of nodes under a substitution: each variable's node becomes the bytes of its term, every other node keeps its own bytes.
-- Whatever writes a term or a goal under a substitution writes these.
use Rattle.std.specs.Prelude.{List, [], ℕ}
use Rattle.records.specs.Format.Encode.{each, term_bytes}
use Rattle.records.specs.Ends.Traversal.{Node, Traversal}
use Rattle.records.specs.Ends.Traversal.Node.{variable, other}
use Rattle.records.specs.Ends.Traversal.Traversal.{off, on}
use Rattle.terms.specs.Theory.Substitution.{Substitution}

-- the bytes of one node
abbrev pub node_bytes : Substitution → Node → List ℕ
node_bytes θ (variable v) = term_bytes (θ v)
node_bytes θ (other x) = x

-- the nodes' bytes one after the other
abbrev pub nodes_bytes : Substitution → List Node → List ℕ
nodes_bytes θ l = each (node_bytes θ) l

-- the bytes of a traversal's nodes
abbrev pub traversal_bytes : Substitution → Traversal → List ℕ
traversal_bytes θ off = []
traversal_bytes θ (on l e) = each (node_bytes θ) l
