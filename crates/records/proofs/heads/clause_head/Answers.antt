use Rattle.std.specs.Prelude.{Some, None}
use Rattle.records.proofs.HeadBytes.{clause_at}
use borrow.Author.Tests.{le-leb, lt-leb}
use mathlib.Core.Path.{◌∙◌}
use Rattle.records.proofs.heads.clause_head.Goals as goal

pub returns-in_err-signature : goal.returns-in_err-signature
returns-in_err-signature c = c.from_residual.ensures ∙ clause_at _ _ c.definition_head.ensures None c.in_err-signature.was

pub returns-then-signature-le-VARIABLE_LIMIT : goal.returns-then-signature-le-VARIABLE_LIMIT
returns-then-signature-le-VARIABLE_LIMIT c = let w : _ = clause_at _ _ c.definition_head.ensures (Some _) c.in_ok-signature.was in rw (le-leb _ 64 c.if-signature-le-VARIABLE_LIMIT.true) at w

pub returns-else-signature-le-VARIABLE_LIMIT : goal.returns-else-signature-le-VARIABLE_LIMIT
returns-else-signature-le-VARIABLE_LIMIT c = let w : _ = clause_at _ _ c.definition_head.ensures (Some _) c.in_ok-signature.was in rw (lt-leb _ 64 c.if-signature-le-VARIABLE_LIMIT.false) at w
