use Rattle.stepper.specs.Plans.Halves.{is_half}
use Rattle.stepper.proofs.half.is_half.Goals as goal

pub same_range-requires : goal.same_range-requires
same_range-requires c = record { inside = rw c.whole.ensures c.requires.goal_inside; inside_2 = rw c.half_piece-half.ensures c.requires.half_inside }

pub returns : goal.returns
unfolding is_half
returns c = rw (c.half_piece-half.ensures, c.whole.ensures) at c.same_range.ensures
