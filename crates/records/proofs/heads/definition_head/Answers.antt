use native.Mathlib.Omega.{arith}
use Rattle.records.proofs.HeadBytes.{short_definition, definition_at, large_definition}
use Rattle.records.proofs.heads.definition_head.Goals as goal

pub returns-then-room-lt4 : goal.returns-then-room-lt4
returns-then-room-lt4 c = short_definition _ _ (omega arith)

pub returns-then-signature-le-ARITY_LIMIT : goal.returns-then-signature-le-ARITY_LIMIT
returns-then-signature-le-ARITY_LIMIT c = definition_at _ _ _ _ _ (omega arith) (omega arith) (omega arith) (omega arith) (omega arith)

pub returns-else-signature-le-ARITY_LIMIT : goal.returns-else-signature-le-ARITY_LIMIT
returns-else-signature-le-ARITY_LIMIT c = large_definition _ _ (omega arith) (omega arith)
