use mathlib.Core.Path.{refl}
use Rattle.stepper.specs.Run.Run.{is_full, less_room}
use Rattle.stepper.specs.Run.RunLoopLaws.{full_told}
use Rattle.stepper.proofs.run.is_full.Goals as goal

pub returns-then-logged : goal.returns-then-logged
returns-then-logged c = rw c.if-logged.true (full_told _ _)

pub returns-else-logged : goal.returns-else-logged
unfolding is_full less_room
returns-else-logged c = rw c.if-logged.false refl
