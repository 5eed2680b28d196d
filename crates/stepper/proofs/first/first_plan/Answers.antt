use mathlib.Core.Path.{refl}
use Rattle.stepper.proofs.first.first_plan.Goals as goal

pub returns : goal.returns
returns c = rw (c.no_items-2.ensures, c.no_items.ensures) refl
