use Rattle.terms.specs.Classes.MeasureLaws.{checking_found, checking_end}
use Rattle.terms.proofs.lengths.complete.Goals as goal

pub returns-then-size-i-eq0 : goal.returns-then-size-i-eq0
returns-then-size-i-eq0 c = checking_found _ _ _ _ c.loop-i.invariant c.loop-i-test.true c.if-rep-i.true c.if-size-i-eq0.true

pub returns : goal.returns
returns c = checking_end _ _ _ _ c.loop-i.invariant c.loop-i-test.false
