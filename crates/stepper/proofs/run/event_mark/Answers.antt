use Rattle.stepper.specs.Run.RunLoopLaws.{mark_placed}
use Rattle.stepper.proofs.run.event_mark.Goals as goal

pub returns : goal.returns
returns c = λ e h. mark_placed e (c.places_by-p.ensures e h)
