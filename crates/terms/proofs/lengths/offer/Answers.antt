-- `offer` weighs a class whose length is not known.
use Rattle.terms.specs.Classes.MeasureLaws.{offered_weighed}
use Rattle.terms.proofs.lengths.offer.Goals as goal

pub returns-then-classes-i : goal.returns-then-classes-i
returns-then-classes-i c = λ o. absurd (c.if-classes-i.true o.0)

pub returns-then-classes-i-ne0 : goal.returns-then-classes-i-ne0
returns-then-classes-i-ne0 c = λ o. absurd (c.if-classes-i-ne0.true o.1)

pub returns : goal.returns
returns c = offered_weighed _ _ _ _ _ c.if-classes-i.false c.if-classes-i-ne0.false c.weigh.ensures
