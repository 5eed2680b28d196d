use Rattle.stepper.specs.Run.RunLoop.{direction}
use Rattle.stepper.specs.Run.RunServiceLaws.{run_gate_refused, run_replied}
use Rattle.stepper.specs.Services.PassedLaws.{gate_passes}
use Rattle.stepper.proofs.run.run.Goals as goal

pub returns-in-Err : goal.returns-in-Err
returns-in-Err c = rw c.refused_run.ensures (run_gate_refused (direction c.args.back) c.args.steps _ _ _ c.gate.ensures c.in-Err.is)

pub run_from-requires : goal.run_from-requires
run_from-requires c = let w = gate_passes _ _ _ c.gate.ensures c.in-Ok.is in record { both_passed = w.0; in_bounds = w.1 }

pub returns-in-Ok : goal.returns-in-Ok
returns-in-Ok c =
    let w = gate_passes _ _ _ c.gate.ensures c.in-Ok.is in
    run_replied (direction c.args.back) c.args.steps w.0 w.1 (rw c.plain_order.ensures at (c.run_from.ensures w.0))
