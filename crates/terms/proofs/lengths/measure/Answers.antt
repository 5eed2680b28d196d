use Rattle.terms.specs.Classes.MeasureLaws.{measuring_next, measuring_less, measuring_set}
use Rattle.terms.proofs.lengths.measure.Goals as goal

pub loop-i-preserved-in-None : goal.loop-i-preserved-in-None
loop-i-preserved-in-None c = measuring_next _ _ _ _ c.loop-i.invariant c.loop-i-test.true c.in-None.ensures

pub loop-i-smaller : goal.loop-i-smaller
loop-i-smaller c = measuring_less _ _ _ _ c.loop-i.invariant c.loop-i-test.true _ c.in-Some.ensures

pub loop-i-preserved : goal.loop-i-preserved
loop-i-preserved c = measuring_set _ _ _ _ c.loop-i.invariant c.loop-i-test.true _ _ _ c.requires.state c.in-Some.ensures
