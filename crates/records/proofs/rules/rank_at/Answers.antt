use mathlib.Core.Path.{sym, ap, ◌∙◌}
use native.Mathlib.Omega.{arith}
use Rattle.records.specs.Ends.HeadRoomLaws.{definition_room}
use Rattle.std.specs.Prelude.{Some}
use Rattle.records.specs.Gate.Ranks.{signature_rank, rank_at}
use Rattle.records.proofs.rules.rank_at.Goals as goal

pub returns-in_err-signature-in-Definitions : goal.returns-in_err-signature-in-Definitions
unfolding rank_at
returns-in_err-signature-in-Definitions c = c.from_residual.ensures ∙ rw c.in-Definitions.is (ap signature_rank (sym c.in_err-signature-in-Definitions.was ∙ c.definition_head.ensures))

pub overflow_mul-result : goal.overflow_mul-result
overflow_mul-result c = omega (arith, definition_room _ _ c.type_inv.s c.definition_head.ensures (Some _) c.in_ok-signature-in-Definitions.was)

pub overflow_add-result : goal.overflow_add-result
overflow_add-result c = omega (arith, definition_room _ _ c.type_inv.s c.definition_head.ensures (Some _) c.in_ok-signature-in-Definitions.was)

pub returns-in-Pairs : goal.returns-in-Pairs
unfolding rank_at
returns-in-Pairs c = rw c.in-Pairs.is c.word_at.ensures

pub returns-in_ok-signature-in-Definitions : goal.returns-in_ok-signature-in-Definitions
unfolding rank_at
returns-in_ok-signature-in-Definitions c = rw c.in-Definitions.is (ap signature_rank (sym c.in_ok-signature-in-Definitions.was ∙ c.definition_head.ensures))
