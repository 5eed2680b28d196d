use mathlib.Core.Path.{refl}
use Rattle.reader.specs.Emit.TurnsLaws.{turns_shut}
use Rattle.reader.proofs.emit.shut.Goals as goal

pub returns : goal.returns
returns c = λ a x out brackets. turns_shut out a x c.requires refl
