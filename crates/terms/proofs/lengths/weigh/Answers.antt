use Rattle.terms.specs.Classes.WeighLaws.{variable_weighed, weighing_step, weighing_waits, weighing_end}
use Rattle.terms.proofs.lengths.weigh.Goals as goal

pub returns-in_default : goal.returns-in_default
returns-in_default c = variable_weighed _ _ _ _ c.in_default.is

pub returns-then-k-eq0 : goal.returns-then-k-eq0
returns-then-k-eq0 c =
    weighing_waits _ _ _ _ _ _ c.requires.weighable c.loop-p.invariant (_, c.in-Symbol.is) c.loop-p-test.true
    c.if-k-eq0.true

pub loop-p-preserved : goal.loop-p-preserved
loop-p-preserved c =
    weighing_step _ _ _ _ _ _ c.requires.weighable c.loop-p.invariant c.loop-p-test.true c.if-k-eq0.false _
    c.capped-w.ensures

pub returns : goal.returns
returns c =
    weighing_end _ _ _ _ _ _ c.requires.weighable c.loop-p.invariant (_, c.in-Symbol.is) c.loop-p-test.false
