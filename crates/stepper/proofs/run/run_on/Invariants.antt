-- What the loop keeps: the run of as many steps as are taken from its start is held, and it is not stopped.
use Rattle.std.proofs.Common.{◌≡◌}
use Rattle.stepper.specs.Run.RunLoop.{RunStands, Keeps}
use Rattle.stepper.proofs.run.run_on.Given as goal

abbrev pub invariant-loop : goal.invariant-loop
invariant-loop l =
    ((g : RunStands l.program l.order l.initial.last l.initial.here l.initial.log) → Keeps g l.last l.here l.log) × (l.last.taken ≡ l.counter)
