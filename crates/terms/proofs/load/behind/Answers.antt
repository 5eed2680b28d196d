use Rattle.terms.specs.Classes.LinkLaws.{passes_start, passes_in, passes_step, passes_end}
use Rattle.std.proofs.Common.{arith}
use Rattle.terms.proofs.load.behind.Goals as goal

pub loop-init : goal.loop-init
loop-init c = passes_start _ _ _ (omega arith) c.in-Symbol.is

pub bounds-table-p : goal.bounds-table-p
bounds-table-p c = passes_in _ _ _ _ _ c.loop.invariant c.requires c.loop-test.true

pub loop-preserved : goal.loop-preserved
loop-preserved c = passes_step _ _ _ _ _ c.loop.invariant c.loop-test.true

pub returns : goal.returns
returns c = passes_end _ _ _ _ _ c.loop.invariant c.loop-test.false
