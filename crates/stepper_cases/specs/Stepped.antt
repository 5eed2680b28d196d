-- A step in a direction: the service of that direction gives the number and the output.
use Rattle.std.specs.Prelude.{Bool, List, ℕ}
use Rattle.stepper.specs.Services.Services.{step_record}
use Rattle.stepper.specs.Services.Desk.{layers}
use Rattle.records.specs.Gate.Reply.{Replied}
use Rattle.stepper.specs.Run.RunLoop.{direction}

pub record SteppedBy (way : Bool) (program event before : List ℕ) (r : ℕ) (after : List ℕ) : Type 0 where
  pub reply : Replied (step_record layers (direction way) program event before) r after
