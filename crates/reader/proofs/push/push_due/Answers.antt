use Rattle.reader.specs.Emit.PushLaws.{pushes_none}
use Rattle.reader.proofs.push.push_due.Goals as goal

pub returns-then-due : goal.returns-then-due
returns-then-due c = rw c.if-due.true c.push.ensures

pub returns : goal.returns
returns c = rw c.if-due.false pushes_none
