-- A term that stands somewhere.
use Rattle.std.specs.Prelude.{List, ℕ}
use Rattle.records.specs.Format.Syntax.{Term}
use Rattle.records.specs.Format.Encode.{term_bytes}
use Rattle.records.specs.Format.Formed.{TermFormed}
use Rattle.records.specs.Ends.Stands.{Stands}

-- a term stands from `at` to e
pub record TermAt (s : List ℕ) (at e : ℕ) : Type 0 where
  pub term : Term
  pub formed : TermFormed term
  pub stands : Stands s at (term_bytes term) e
