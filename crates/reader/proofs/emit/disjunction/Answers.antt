use mathlib.Core.Path.{refl}
use Rattle.reader.specs.Emit.TurnsLaws.{turns_semicolon}
use Rattle.reader.proofs.emit.disjunction.Goals as goal

pub returns : goal.returns
returns c = λ a x counts brackets. turns_semicolon _ a x (c.whole-inner.ensures.1 counts brackets) refl
