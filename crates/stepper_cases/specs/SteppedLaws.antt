-- Laws of a step in a direction: it is the step back, or the step forward.
use Rattle.std.specs.Prelude.{◌≡◌, Bool, true, false, List, ℕ}
use Rattle.stepper.specs.Walks.Walk.{forward, back}
use Rattle.stepper.specs.Services.Services.{step_record}
use Rattle.stepper.specs.Services.Desk.{layers}
use Rattle.records.specs.Gate.Reply.{Replied}
use Rattle.stepper_cases.specs.Stepped.{SteppedBy}

module _ {way : Bool} {program event before : List ℕ} {r : ℕ} {after : List ℕ} where
  pub stepped_back : way ≡ true → Replied (step_record layers back program event before) r after → SteppedBy way program event before r after
  stepped_back h w = record { reply = rw h w }

  pub stepped_forward : way ≡ false → Replied (step_record layers forward program event before) r after → SteppedBy way program event before r after
  stepped_forward h w = record { reply = rw h w }
