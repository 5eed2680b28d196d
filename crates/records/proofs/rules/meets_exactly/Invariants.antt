use Rattle.records.specs.Ends.Steps.{On, met, traverse_from}
use Rattle.records.specs.Gate.Sets.{exactly_from}
use Rattle.records.specs.Gate.RecordRules.{exactly}
use lib.ListN.{length}
use mathlib.Core.Path.{◌≡◌}
use Prim.Native.Nat.{◌-◌}
use Rattle.records.proofs.rules.meets_exactly.Given as goal

abbrev pub invariant-loop-step : goal.invariant-loop-step
invariant-loop-step l = On (traverse_from l.s l.c) × (exactly l.v (met (traverse_from l.s l.initial.c)) ≡ exactly_from l.v l.set (met (traverse_from l.s l.c)))

abbrev pub decreases-loop-step : goal.decreases-loop-step
decreases-loop-step l = length l.s - l.c.pos
