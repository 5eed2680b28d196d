-- `compare` compares the children of two symbols.
use Prim.Native.Nat.{◌-◌}
use Rattle.terms.specs.Classes.CompareLaws.{Comparing}
use Rattle.terms.proofs.classes.compare.Given as goal

abbrev pub invariant-loop-p : goal.invariant-loop-p
invariant-loop-p l = Comparing l.table l.rep l.i l.r l.p l.q

abbrev pub decreases-loop-p : goal.decreases-loop-p
decreases-loop-p l = l.end - l.p
