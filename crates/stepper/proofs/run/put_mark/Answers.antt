use native.Mathlib.Omega.{arith}
use lib.ListN.{length-set}
use Rattle.stepper.specs.Run.RunLoopLaws.{three_set}
use Rattle.stepper.proofs.run.put_mark.Goals as goal

pub bounds-log-at-2 : goal.bounds-log-at-2
bounds-log-at-2 c = simp length-set (omega arith)

pub bounds-log-at-3 : goal.bounds-log-at-3
bounds-log-at-3 c = simp length-set (omega arith)

pub returns : goal.returns
returns c = rw c.from.ensures (three_set _ _ _ _ _)
