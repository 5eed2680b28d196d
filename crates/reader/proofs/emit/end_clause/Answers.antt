use mathlib.Core.Path.{refl}
use Rattle.reader.specs.Emit.TurnsLaws.{turns_end}
use Rattle.reader.proofs.emit.end_clause.Goals as goal

pub returns : goal.returns
returns c = λ a out counts brackets. turns_end out a _ refl
