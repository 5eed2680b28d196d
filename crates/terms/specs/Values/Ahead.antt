-- A writer on its way over a traversal: the bytes that it has written, and the nodes that it still has ahead.
use Rattle.std.specs.Prelude.{◌≡◌, List, ◌++◌, ℕ}
use Rattle.records.specs.Format.Syntax.Term.{var}
use Rattle.records.specs.Format.Encode.{term_bytes}
use Rattle.records.specs.Ends.Traversal.{Node, before}
use Rattle.records.specs.Ends.Traversal.Node.{variable, other}
use Rattle.records.specs.Ends.Traversal.Traversal.{on}
use Rattle.records.specs.Ends.Steps.{traverse_from}
use Rattle.records.specs.Ends.Stands.{Stands}
use Rattle.records.specs.declared.traverse.Cursor.{Cursor}
use Rattle.terms.specs.Theory.Substitution.{Substitution}
use Rattle.terms.specs.Values.NodeBytes.{nodes_bytes}

-- of the bytes `whole`, `done` are written, and the nodes from the cursor on, up to `end`, give the rest
pub record Ahead (θ : Substitution) (s whole done : List ℕ) (c : Cursor) (end : ℕ) : Type 0 where
  pub nodes : List Node
  pub ahead : traverse_from s c ≡ on nodes end
  pub split : whole ≡ done ++ nodes_bytes θ nodes

-- what a step of a traversal says of the bytes there: the node's own bytes stand from the cursor to the next one
pub record VariableAt (s : List ℕ) (c : Cursor) (v : ℕ) (d : Cursor) : Type 0 where
  pub node : traverse_from s c ≡ before (variable v) (traverse_from s d)
  pub stands : Stands s c.pos (term_bytes (var v)) d.pos

pub record OtherAt (s : List ℕ) (c d : Cursor) : Type 0 where
  pub bytes : List ℕ
  pub node : traverse_from s c ≡ before (other bytes) (traverse_from s d)
  pub stands : Stands s c.pos bytes d.pos
