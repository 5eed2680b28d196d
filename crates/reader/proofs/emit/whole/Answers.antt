use mathlib.Core.Path.{refl}
use Rattle.reader.specs.Emit.TurnsLaws.{turns_whole}
use Rattle.reader.proofs.emit.whole.Goals as goal

pub returns : goal.returns
returns c = (refl, λ counts brackets. turns_whole counts brackets c.push_due-next.ensures refl)
