-- `unite` makes one class of two.
use Rattle.terms.specs.Classes.CloseLaws.{united_left, united_right}
use Rattle.terms.proofs.classes.unite.Goals as goal

pub returns-then-preferred : goal.returns-then-preferred
returns-then-preferred c =
    (united_left _ _ _ _ _ _ c.preferred.ensures c.if-preferred.true c.put_class.ensures.0, c.put_class.ensures.1)

pub returns-else-preferred : goal.returns-else-preferred
returns-else-preferred c =
    (united_right _ _ _ _ _ _ c.preferred.ensures c.if-preferred.false c.put_class-else-preferred.ensures.0, c.put_class-else-preferred.ensures.1)
