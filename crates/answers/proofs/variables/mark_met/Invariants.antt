use Prim.Native.Nat.{◌-◌}
use lib.ListN.{length}
use Rattle.records.specs.Ends.Steps.{Underway, traverse_from}
use Rattle.records.specs.Gate.Sets.{marked}
use Rattle.answers.proofs.variables.mark_met.Given as goal

abbrev pub invariant-loop-step : goal.invariant-loop-step
invariant-loop-step l = Underway marked l.s (traverse_from l.s l.initial.c) l.initial.marks.words l.c l.marks.words

abbrev pub decreases-loop-step : goal.decreases-loop-step
decreases-loop-step l = length l.s - l.c.pos
