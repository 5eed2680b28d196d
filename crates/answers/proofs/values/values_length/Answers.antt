use mathlib.Core.Path.{refl, ◌∙◌}
use native.Mathlib.Omega.{arith}
use Prim.Native.Nat.{◌<◌}
use Rattle.answers.specs.Writing.ValuesLaws.{all_at, answered_short, summed_start, summed_next, summed_large, summed_end}
use Rattle.answers.proofs.values.values_length.Goals as goal

pub loop-v-init : goal.loop-v-init
loop-v-init c = (λ bets l. summed_start, omega arith, refl)

pub listed_variable-requires : goal.listed_variable-requires
listed_variable-requires c = record { pairs_of = c.requires.pairs_of; v_bound = all_at (λ v. v < 65536) c.args.variables.now c.loop-v.v-index (omega arith) c.requires.all; value_len = c.loop-v.invariant.2 ∙ c.requires.value_len }

pub returns-in_err-m : goal.returns-in_err-m
returns-in_err-m c = λ bets l. rw c.from_residual.ensures (summed_large (c.loop-v.invariant.0 bets l) (omega arith) (c.listed_variable.ensures bets l) c.in_err-m.was)

pub overflow_add-sum-in-loop-v : goal.overflow_add-sum-in-loop-v
overflow_add-sum-in-loop-v c =
    let short = answered_short (c.listed_variable.ensures c.requires.pairs_of.0 c.requires.pairs_of.1) c.in_ok-m.was in
    omega arith

pub overflow_add-sum : goal.overflow_add-sum
overflow_add-sum c = let all = overflow_add-sum-in-loop-v c in omega arith

pub loop-v-preserved : goal.loop-v-preserved
loop-v-preserved c =
    let e = c.in_ok-m.was in
    let short = answered_short (c.listed_variable.ensures c.requires.pairs_of.0 c.requires.pairs_of.1) e in
    (λ bets l. summed_next (c.loop-v.invariant.0 bets l) (omega arith) (c.listed_variable.ensures bets l) e, omega arith, omega arith)

pub returns : goal.returns
returns c = λ bets l. summed_end (c.loop-v.invariant.0 bets l) (omega arith)
