use Rattle.stepper.specs.Rules.Rules.{step}
use Rattle.stepper.proofs.step.step_on.Goals as goal

pub returns-then-back : goal.returns-then-back
unfolding step
returns-then-back c = λ w. rw c.if-back.true (c.source_event.ensures w)

pub returns-else-back : goal.returns-else-back
unfolding step
returns-else-back c = λ w. rw c.if-back.false (c.next_event.ensures w)
