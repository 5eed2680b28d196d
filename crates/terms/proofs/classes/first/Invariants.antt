-- `first` finds the first node of a node's variable.
use Rattle.std.proofs.Common.{◌≡◌, take}
use Rattle.terms.specs.Classes.BeginLaws.{Seeking}
use Rattle.terms.proofs.classes.first.Given as goal

abbrev pub invariant-loop-j : goal.invariant-loop-j
invariant-loop-j l = record { before : l.node-items ≡ take l.i l.table; seeking : Seeking l.table l.i l.j }
