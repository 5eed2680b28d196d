-- `load` writes the kinds and numbers of a term.
use Rattle.terms.specs.Classes.LoadLaws.{LoadLoop}
use Rattle.std.proofs.Common.{length, ◌-◌}
use Rattle.terms.proofs.load.load.Given as goal

abbrev pub invariant-loop-p : goal.invariant-loop-p
invariant-loop-p l = LoadLoop l.b l.start l.initial.table l.table l.i l.p

abbrev pub decreases-loop-p : goal.decreases-loop-p
decreases-loop-p l = length l.b - l.p
