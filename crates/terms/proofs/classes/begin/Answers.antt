-- `begin` puts s and t into one class.
use Rattle.terms.specs.Classes.BeginLaws.{begin_same, begin_other}
use Rattle.terms.proofs.classes.begin.Goals as goal

pub returns-then-rep-s : goal.returns-then-rep-s
returns-then-rep-s c =
    begin_other _ _ _ _ c.requires.1 c.requires.2 c.separate.ensures _ c.if-rep-s.true
    c.unite.ensures.0

pub returns-else-rep-s : goal.returns-else-rep-s
returns-else-rep-s c =
    begin_same _ _ _ _ c.requires.1 c.requires.2 c.separate.ensures c.if-rep-s.false
