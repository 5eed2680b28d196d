use Rattle.records.proofs.RuleArms.{unmarked}
use Rattle.records.specs.Ends.Steps.{On, met, traverse_from}
use lib.ListN.{length}
use mathlib.Core.Path.{◌≡◌}
use Prim.Native.Nat.{◌-◌}
use Rattle.records.proofs.rules.avoids.Given as goal

abbrev pub invariant-loop-step : goal.invariant-loop-step
invariant-loop-step l = On (traverse_from l.s l.c) × (unmarked l.marks.words (met (traverse_from l.s l.initial.c)) ≡ unmarked l.marks.words (met (traverse_from l.s l.c)))

abbrev pub decreases-loop-step : goal.decreases-loop-step
decreases-loop-step l = length l.s - l.c.pos
