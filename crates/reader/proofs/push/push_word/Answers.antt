use Rattle.reader.specs.Emit.PushLaws.{pushes_then}
use Rattle.reader.proofs.push.push_word.Goals as goal

pub returns : goal.returns
returns c = pushes_then c.push-low.ensures c.push.ensures
