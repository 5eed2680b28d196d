use native.Mathlib.Omega.{arith}
use Rattle.reader.specs.Emit.PushLaws.{pushes_full, pushes_one}
use Rattle.reader.proofs.push.push.Goals as goal

pub returns-then-at-eq0 : goal.returns-then-at-eq0
returns-then-at-eq0 c = pushes_full c.if-at-eq0.true

pub returns : goal.returns
returns c = pushes_one (omega (arith, c.if-at-eq0.false)) (omega arith)
