use Rattle.terms.specs.Classes.CompareLaws.{other_numbers, comparing_step, comparing_differ, comparing_more, comparing_fewer, comparing_same}
use Rattle.terms.proofs.classes.compare.Goals as goal

pub returns-then-table-i : goal.returns-then-table-i
returns-then-table-i c = other_numbers _ _ _ _ c.if-table-i.true

pub returns-then-q-stop : goal.returns-then-q-stop
returns-then-q-stop c = comparing_more _ _ _ _ _ _ c.loop-p.invariant c.loop-p-test.true c.if-q-stop.true

pub returns-then-rep-p : goal.returns-then-rep-p
returns-then-rep-p c =
    comparing_differ _ _ _ _ _ _ c.loop-p.invariant c.loop-p-test.true c.if-q-stop.false c.if-rep-p.true

pub loop-p-preserved : goal.loop-p-preserved
loop-p-preserved c =
    comparing_step _ _ _ _ _ _ c.loop-p.invariant c.requires c.loop-p-test.true c.if-q-stop.false
    c.if-rep-p.false

pub returns-then-q-stop-2 : goal.returns-then-q-stop-2
returns-then-q-stop-2 c = comparing_fewer _ _ _ _ _ _ c.loop-p.invariant c.loop-p-test.false c.if-q-stop-2.true

pub returns : goal.returns
returns c = comparing_same _ _ _ _ _ _ c.loop-p.invariant c.loop-p-test.false c.if-q-stop-2.false
