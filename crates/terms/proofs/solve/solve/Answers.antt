-- `solve` closes the classes and measures them.
use borrow.Author.Tests.{not-true, not-false}
use Rattle.terms.specs.Classes.SolveLaws.{ended_state, ended_solved, checked_solved}
use Rattle.std.proofs.Common.{ap}
use Rattle.std.proofs.Common.{not}
use Rattle.terms.proofs.solve.solve.Goals as goal

pub returns-then-not-close : goal.returns-then-not-close
returns-then-not-close c = ended_solved _ _ _ _ _ c.close.ensures (not-true _ (ap not c.if-not-close.true)) _

pub returns : goal.returns
returns c =
    checked_solved _ _ _ _ _ c.close.ensures _ (not-false _ (ap not c.if-not-close.false)) c.measure.ensures _
    c.complete.ensures

pub measure-requires-clause-state : goal.measure-requires-clause-state
measure-requires-clause-state c = ended_state _ _ _ _ _ c.close.ensures (not-false _ (ap not c.if-not-close.false))
