-- What a traversal goes over, its variables renamed.
use Rattle.std.specs.Prelude.{List, ℕ}
use Rattle.records.specs.Format.Syntax.Terms.{nil}
use Rattle.records.specs.Ends.Traversal.{Traversal}
use Rattle.terms.specs.Body.Body.{numbered}
use Rattle.terms.specs.Values.NodeBytes.{traversal_bytes}

-- the bytes of a traversal's nodes, variable i become m + i
unfoldable pub renamed : ℕ → Traversal → List ℕ
renamed m w = traversal_bytes (numbered nil m) w
