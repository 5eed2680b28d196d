use mathlib.Core.Path.{ap, sym}
use Prim.Native.Nat.{ℕ, ◌-◌, ◌^◌}
use native.Mathlib.Omega.{arith}
use lib.Dec.{eqb}
use lib.Pow.{pow_pos}
use Rattle.records.specs.Gate.SetLaws.{one_shl}
use Rattle.records.proofs.sets.is_full.Goals as goal

pub returns-then-v-eq64 : goal.returns-then-v-eq64
returns-then-v-eq64 c = ap (λ (n : ℕ). eqb c.args.set (2 ^ n - 1)) (sym c.if-v-eq64.true)

pub overflow_sub-result : goal.overflow_sub-result
overflow_sub-result c = omega (arith, one_shl c.args.v (omega arith), pow_pos c.args.v)

pub returns : goal.returns
returns c = ap (λ (n : ℕ). eqb c.args.set (n - 1)) (one_shl c.args.v (omega arith))
