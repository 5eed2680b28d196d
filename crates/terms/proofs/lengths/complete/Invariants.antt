-- `complete` looks for a class without a length.
use Rattle.terms.specs.Classes.MeasureLaws.{Checking}
use Rattle.terms.proofs.lengths.complete.Given as goal

abbrev pub invariant-loop-i : goal.invariant-loop-i
invariant-loop-i l = Checking l.classes.table.now l.classes.rep.now l.classes.size.now l.i
