use mathlib.Core.Path.{refl}
use Rattle.reader.specs.Emit.TurnsLaws.{turns_close}
use Rattle.reader.proofs.emit.close_bracket.Goals as goal

pub returns : goal.returns
returns c = λ a x out counts. turns_close out a x c.requires refl
