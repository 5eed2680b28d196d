-- `close` goes over the nodes until each agrees with its representative.
use lib.ListN.{length}
use Rattle.terms.specs.Classes.CloseLaws.{Closing, closing_left}
use Rattle.terms.proofs.classes.close.Given as goal

abbrev pub invariant-loop-i : goal.invariant-loop-i
invariant-loop-i l = Closing l.table l.s l.t l.rep l.i

abbrev pub decreases-loop-i : goal.decreases-loop-i
decreases-loop-i l = closing_left l.rep (length l.table) l.i
