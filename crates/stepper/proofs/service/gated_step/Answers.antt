use Rattle.std.proofs.lemmas.Result.{err_from_is_err_and}
use Rattle.stepper.specs.Run.RunLoop.{direction}
use Rattle.stepper.specs.Services.PassedLaws.{gate_passes}
use Rattle.stepper.specs.Step.SteppedLaws.{gate_refused, stepped_replied}
use Rattle.stepper.proofs.service.gated_step.Goals as goal

pub returns-in_err-gate : goal.returns-in_err-gate
returns-in_err-gate c =
    let p = err_from_is_err_and c.from_residual.result c.from_residual.ensures.1 in rw (p.1, p.2) (gate_refused (direction c.args.back) _ _ _ c.gate.ensures c.in_err-gate.was)

pub part_ends-requires : goal.part_ends-requires
part_ends-requires c = rw (gate_passes _ _ _ c.gate.ensures c.in_ok-gate.was).0.reads tt

pub step_on-requires : goal.step_on-requires
step_on-requires c =
    let w = gate_passes _ _ _ c.gate.ensures c.in_ok-gate.was in record { both_passed = w.0; ends_of = c.part_ends.ensures; in_bounds = w.1 }

pub returns : goal.returns
returns c =
    let w = gate_passes _ _ _ c.gate.ensures c.in_ok-gate.was in stepped_replied (direction c.args.back) _ _ w.0 w.1 (c.step_on.ensures w.0)
