use mathlib.Core.Path.{refl, sym, ◌∙◌}
use Rattle.stepper.proofs.same.same_front.Goals as goal

pub returns-then-same_range : goal.returns-then-same_range
returns-then-same_range c = rw (sym c.same_range.ensures ∙ c.if-same_range.true) refl

pub returns-else-same_range : goal.returns-else-same_range
returns-else-same_range c = rw (sym c.same_range.ensures ∙ c.if-same_range.false) refl
