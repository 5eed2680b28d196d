use Rattle.reader.specs.Emit.TurnsLaws.{turns_as, turns_bytes}
use Rattle.reader.specs.Emit.CellLaws.{variable_cell}
use Rattle.reader.proofs.emit.emit_variable.Goals as goal

pub returns : goal.returns
returns c = λ a counts brackets. turns_as (variable_cell a _) (turns_bytes counts brackets (rw c.from.ensures at c.push_variable-next.ensures) c.placed.ensures)
