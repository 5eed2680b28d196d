-- `link` fills in where each subtree ends.
use Rattle.terms.specs.Classes.LinkLaws.{Linking}
use Rattle.terms.proofs.load.link.Given as goal

abbrev pub invariant-loop-i : goal.invariant-loop-i
invariant-loop-i l = Linking l.initial.table l.table l.i
