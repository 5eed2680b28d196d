-- Each branch is the service of its direction.
use Rattle.stepper_cases.specs.SteppedLaws.{stepped_back, stepped_forward}
use Rattle.stepper_cases.proofs.step.step.Goals as goal

pub returns-then-back : goal.returns-then-back
returns-then-back c = stepped_back c.if-back.true c.step_back.ensures

pub returns-else-back : goal.returns-else-back
returns-else-back c = stepped_forward c.if-back.false c.step_forward.ensures
