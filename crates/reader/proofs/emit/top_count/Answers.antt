use native.Mathlib.Omega.{arith}
use Rattle.reader.specs.Emit.StackLaws.{stacked_none, stacked_top}
use Rattle.reader.proofs.emit.top_count.Goals as goal

pub returns-then-terms-eq0 : goal.returns-then-terms-eq0
returns-then-terms-eq0 c = stacked_none _ _ c.if-terms-eq0.true

pub returns : goal.returns
returns c = stacked_top _ _ (omega (arith, c.if-terms-eq0.false))
