use native.Mathlib.Omega.{arith}
use Rattle.records.proofs.HeadBytes.{past_bet, unifier_kind, or_kind, by_kind, no_bet}
use mathlib.Core.Path.{◌∙◌}
use Rattle.records.proofs.heads.bet_head.Goals as goal

pub returns-then-s-at : goal.returns-then-s-at
returns-then-s-at c = past_bet _ _ (omega arith)

pub returns-in-32 : goal.returns-in-32
returns-in-32 c = c.unifier_head.ensures ∙ unifier_kind _ _ (omega arith) (omega arith) c.word_at.ensures

pub returns-in-33 : goal.returns-in-33
returns-in-33 c = or_kind _ _ _ (omega arith) (omega arith) c.or_head.ensures

pub returns-in-34 : goal.returns-in-34
returns-in-34 c = by_kind _ _ (omega arith) (omega arith)

pub returns-in_default : goal.returns-in_default
returns-in_default c = no_bet _ _ (omega arith) (omega arith) (omega arith) (omega arith)
