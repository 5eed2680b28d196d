use mathlib.Core.Path.{refl}
use Rattle.reader.specs.Emit.TurnsLaws.{turns_primary}
use Rattle.reader.proofs.emit.primary.Goals as goal

pub returns : goal.returns
returns c = λ counts brackets. turns_primary counts brackets c.push_due-equality.ensures c.push_due-next.ensures refl
