use Rattle.records.specs.Ends.Steps.{Underway, raised, traverse_from}
use lib.ListN.{length}
use Prim.Native.Nat.{◌-◌}
use Rattle.records.proofs.traverse.variables_top.Given as goal

abbrev pub invariant-loop-step : goal.invariant-loop-step
invariant-loop-step l = Underway raised l.s (traverse_from l.s l.initial.c) 0 l.c l.top

abbrev pub decreases-loop-step : goal.decreases-loop-step
decreases-loop-step l = length l.s - l.c.pos
