-- Writing that may not fit: the contract of a writer that is lent the part of the output from the current place on, and the invariant of a writer
-- that goes over the nodes of a traversal.
use Rattle.std.specs.Prelude.{◌≡◌, List, ℕ, ◌≤◌, ◌<◌, length, Some, None}
use Rattle.records.specs.Writing.Patched.{Put}
use Rattle.records.specs.Ends.Traversal.{Traversal}
use Rattle.records.specs.Ends.Steps.{end_place}
use Rattle.records.specs.declared.traverse.Cursor.{Cursor}
use Rattle.terms.specs.Theory.Substitution.{Substitution}
use Rattle.terms.specs.Values.NodeBytes.{traversal_bytes}
use Rattle.terms.specs.Values.Ahead.{Ahead}
use Rattle.terms.specs.Values.Sized.{Sized}

-- what a writer of the bytes leaves and answers: they stand at the start of the output, so many of them, or they are more than the output holds
pub record Fitted (out bytes after : List ℕ) (r : Sized) : Type 0 where
  pub fits : {n : ℕ} → r ≡ Some n → Put out 0 bytes after n × (length bytes ≤ length out)
  pub large : r ≡ None → length out < length bytes
  pub kept : length after ≡ length out

-- a writer on its way: these bytes of the traversal w are written
pub record Fitting (θ : Substitution) (s : List ℕ) (w : Traversal) (before : List ℕ) (c : Cursor) (out : List ℕ) (n : ℕ) : Type 0 where
  pub written : List ℕ
  pub put : Put before 0 written out n
  pub ahead : Ahead θ s (traversal_bytes θ w) written c (end_place w)
  pub room : n ≤ length out
