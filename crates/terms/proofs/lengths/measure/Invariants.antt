-- `measure` stores lengths until no class is left that can be weighed.
use lib.ListN.{length}
use Rattle.terms.specs.Classes.Lengths.{Measuring}
use Rattle.terms.specs.Classes.MeasureLaws.{measuring_left}
use Rattle.terms.proofs.lengths.measure.Given as goal

abbrev pub invariant-loop-i : goal.invariant-loop-i
invariant-loop-i l = Measuring l.table l.rep l.size l.i

abbrev pub decreases-loop-i : goal.decreases-loop-i
decreases-loop-i l = measuring_left l.size (length l.table) l.i
