use Rattle.std.proofs.Common.{arith}
use Rattle.terms.specs.Classes.CloseLaws.{closing_end, closing_fine, closing_back, closing_stuck, fine_less, joined_less}
use Rattle.terms.proofs.classes.close.Goals as goal

pub returns-in-Stuck : goal.returns-in-Stuck
returns-in-Stuck c =
    closing_stuck _ _ _ _ _ _ _ c.visit.ensures c.in-Stuck.is _

pub loop-i-smaller-in-Fine : goal.loop-i-smaller-in-Fine
loop-i-smaller-in-Fine c =
    fine_less _ _ _ _ _ _ _ c.visit.ensures c.in-Fine.is c.loop-i-test.true

pub loop-i-preserved-in-Fine : goal.loop-i-preserved-in-Fine
loop-i-preserved-in-Fine c =
    closing_fine _ _ _ _ _ _ _ c.visit.ensures c.in-Fine.is c.loop-i.invariant c.loop-i-test.true

pub loop-i-smaller : goal.loop-i-smaller
loop-i-smaller c =
    joined_less _ _ _ _ _ _ _ c.visit.ensures _ c.in-Joined.is _

pub loop-i-preserved : goal.loop-i-preserved
loop-i-preserved c =
    closing_back _ _ _ _ _ _ _ c.visit.ensures _ c.in-Joined.is c.loop-i.invariant _ (omega (arith, c.min-i.ensures))

pub returns : goal.returns
returns c = closing_end _ _ _ _ _ c.loop-i.invariant c.loop-i-test.false
