use native.Mathlib.Omega.{arith}
use Rattle.reader.specs.Emit.TurnsLaws.{turns_bytes, turns_then}
use Rattle.reader.proofs.emit.goal_plain.Goals as goal

pub primary-requires : goal.primary-requires
primary-requires c = let p = c.push-next.ensures in rw c.placed.ensures (omega (arith, p.keeps, p.lower, c.requires))

pub returns : goal.returns
returns c = λ counts brackets. turns_then (turns_bytes counts brackets c.push-next.ensures c.placed.ensures) (c.primary.ensures counts brackets)
