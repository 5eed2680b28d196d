use native.Mathlib.Omega.{arith}
use mathlib.Core.Bool.{true, false}
use Rattle.records.specs.Gate.GateEndsLaws.{more_bytes, last_byte}
use Rattle.records.proofs.gate.judged.Goals as goal

pub returns-then-e-s : goal.returns-then-e-s
returns-then-e-s c = more_bytes _ _ _ (omega arith)

pub returns-then-kept : goal.returns-then-kept
returns-then-kept c = last_byte _ _ _ true (omega arith) c.if-kept.true

pub returns-else-kept : goal.returns-else-kept
returns-else-kept c = last_byte _ _ _ false (omega arith) c.if-kept.false
