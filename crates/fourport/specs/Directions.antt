-- The direction of a run as a number.
use Rattle.std.specs.Prelude.{not, ℕ, eqb}
use Rattle.stepper.specs.Walks.Walk.{Direction}
use Rattle.stepper.specs.Run.RunLoop.{direction}

-- 0 is forward, any other number back
abbrev pub direction_of : ℕ → Direction
direction_of n = direction (not (eqb n 0))
