use native.Mathlib.Omega.{arith}
use Rattle.records.proofs.HeadBytes.{past_or, or_at, not_or}
use mathlib.Core.Path.{sym, ◌∙◌}
use Rattle.records.proofs.heads.or_head.Goals as goal

pub returns-then-s-at : goal.returns-then-s-at
returns-then-s-at c = past_or _ _ (omega arith)

pub returns-then-is_tag : goal.returns-then-is_tag
returns-then-is_tag c = or_at _ _ _ (omega arith) (omega arith) (sym c.is_tag.ensures ∙ c.if-is_tag.true)

pub returns-else-is_tag : goal.returns-else-is_tag
returns-else-is_tag c = not_or _ _ c.from-k.result (omega arith) (omega arith) (sym c.is_tag.ensures ∙ c.if-is_tag.false)
