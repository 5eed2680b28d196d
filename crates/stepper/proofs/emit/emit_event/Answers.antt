use Rattle.std.proofs.lemmas.Result.{err_from_is_err_and}
use Rattle.stepper.specs.Step.SteppedLaws.{stepped_unemitted, stepped_emitted}
use Rattle.stepper.proofs.emit.emit_event.Goals as goal

pub emit_plan-requires : goal.emit_plan-requires
emit_plan-requires c = c.requires.plan_inside

pub returns-in_err-length : goal.returns-in_err-length
returns-in_err-length c =
    λ e w. let p = err_from_is_err_and c.from_residual.result c.from_residual.ensures.1 in rw (p.1, p.2) (stepped_unemitted c.requires.in_bounds w (rw c.in_err-length.was at c.emit_plan.ensures))

pub returns : goal.returns
returns c = λ e w. rw c.plan_ends.ensures (stepped_emitted c.requires.in_bounds w (rw c.in_ok-length.was at c.emit_plan.ensures))
