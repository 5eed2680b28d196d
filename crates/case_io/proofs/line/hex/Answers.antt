use Rattle.std.proofs.Common.{arith}
use Rattle.case_io.specs.HexLaws.{hex_turn}
use Rattle.case_io.proofs.line.hex.Goals as goal

pub loop-i-preserved : goal.loop-i-preserved
loop-i-preserved c = hex_turn _ c.loop-i.text c.loop-i.i c.loop-i-test.true (omega arith) c.digit.ensures c.digit-in-loop-i.ensures c.loop-i.invariant
