use Rattle.std.proofs.Common.{⊎_elim}
use native.Mathlib.Omega.{arith}
use Rattle.records.specs.Gate.EventEndsLaws.{past_port, port_at, no_port}
use Rattle.records.proofs.gate.port_end.Goals as goal

pub returns-then-s-at : goal.returns-then-s-at
returns-then-s-at c = past_port _ _ (omega arith)

pub returns-then-b-lt-CALL : goal.returns-then-b-lt-CALL
returns-then-b-lt-CALL c = ⊎_elim (λ h. no_port _ _ (omega arith) (λ k. omega (arith, h))) (λ h. no_port _ _ (omega arith) (λ k. omega (arith, h.1))) c.then-b-lt-CALL.either

pub returns : goal.returns
returns c = port_at _ _ (omega arith) (omega arith) (omega arith)
