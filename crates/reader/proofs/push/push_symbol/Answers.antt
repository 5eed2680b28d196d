use Rattle.reader.specs.Emit.PushLaws.{pushes_then}
use Rattle.reader.proofs.push.push_symbol.Goals as goal

pub returns : goal.returns
returns c = pushes_then (pushes_then c.push-arity.ensures c.push_word-number.ensures) c.push.ensures
