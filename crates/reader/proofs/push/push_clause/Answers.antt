use Rattle.reader.specs.Emit.PushLaws.{pushes_then}
use Rattle.reader.proofs.push.push_clause.Goals as goal

pub returns : goal.returns
returns c = pushes_then (pushes_then c.push-variables.ensures c.push-arity.ensures) c.push_word.ensures
