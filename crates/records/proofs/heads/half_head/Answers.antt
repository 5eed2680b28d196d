use native.Mathlib.Omega.{arith}
use Rattle.records.proofs.HeadBytes.{short_half, no_tag, conj_half, disj_half, other_half}
use borrow.Author.Tests.{not-true, not-false}
use mathlib.Core.Path.{sym, ◌∙◌}
use Rattle.std.proofs.Common.{ap, not}
use Rattle.records.proofs.heads.half_head.Goals as goal

pub returns-then-room-lt2 : goal.returns-then-room-lt2
returns-then-room-lt2 c = short_half _ _ (omega arith)

pub returns-then-not-is_tag : goal.returns-then-not-is_tag
returns-then-not-is_tag c = no_tag _ _ c.from-k.result (omega arith) (omega arith) (sym c.is_tag.ensures ∙ not-true _ (ap not c.if-not-is_tag.true))

pub returns-in-48 : goal.returns-in-48
returns-in-48 c = conj_half _ _ _ (omega arith) (omega arith) (sym c.is_tag.ensures ∙ not-false _ (ap not c.if-not-is_tag.false)) (omega arith)

pub returns-in-49 : goal.returns-in-49
returns-in-49 c = disj_half _ _ _ (omega arith) (omega arith) (sym c.is_tag.ensures ∙ not-false _ (ap not c.if-not-is_tag.false)) (omega arith)

pub returns-in_default : goal.returns-in_default
returns-in_default c = other_half _ _ c.from-k.result (omega arith) (omega arith) (sym c.is_tag.ensures ∙ not-false _ (ap not c.if-not-is_tag.false)) (omega arith) (omega arith)
