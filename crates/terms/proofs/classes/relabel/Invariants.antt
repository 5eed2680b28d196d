-- `relabel` puts class b into class a.
use Rattle.terms.specs.Classes.RelabelLaws.{Relabelling}
use Rattle.terms.proofs.classes.relabel.Given as goal

abbrev pub invariant-loop-r : goal.invariant-loop-r
invariant-loop-r l = Relabelling l.a l.b l.initial.rep l.rep l.r-index
