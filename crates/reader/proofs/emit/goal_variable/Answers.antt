use native.Mathlib.Omega.{arith}
use Rattle.reader.specs.Emit.TurnsLaws.{turns_as, turns_bytes, turns_then}
use Rattle.reader.specs.Emit.CellLaws.{goal_variable_cell}
use Rattle.reader.proofs.emit.goal_variable.Goals as goal

pub primary-requires : goal.primary-requires
primary-requires c = let p = c.push_variable-next.ensures in rw c.placed.ensures (omega (arith, p.keeps, p.lower, c.requires))

pub returns : goal.returns
returns c = λ a counts brackets. turns_as (goal_variable_cell a _) (turns_then (turns_bytes counts brackets (rw c.from.ensures at c.push_variable-next.ensures) c.placed.ensures) (c.primary.ensures counts brackets))
