use mathlib.Core.Path.{refl, ◌∙◌}
use native.Mathlib.Omega.{arith}
use Prim.Native.Nat.{◌<◌}
use Rattle.records.specs.Writing.PatchedLaws.{put_length}
use Rattle.answers.specs.Writing.ValuesLaws.{all_at, value_pairs_start, next_pair_fits, value_pairs_next, value_pairs_end}
use Rattle.answers.proofs.values.put_value_pairs.Goals as goal

pub loop-v-init : goal.loop-v-init
loop-v-init c = (λ bets l f. value_pairs_start f, refl)

pub put_value_pair-pos-requires : goal.put_value_pair-pos-requires
put_value_pair-pos-requires c = let (bets, l, f) = c.requires.pairs_of in
    record { pairs_of = (bets, l, next_pair_fits (c.loop-v.invariant.0 bets l f) (omega arith) f); v_bound = all_at (λ v. v < 65536) c.args.variables.now c.loop-v.v-index (omega arith) c.requires.all; value_len = c.loop-v.invariant.1 ∙ c.requires.value_len }

pub loop-v-preserved : goal.loop-v-preserved
loop-v-preserved c =
    (λ bets l f. let w = c.loop-v.invariant.0 bets l f in value_pairs_next w (omega arith) (c.put_value_pair-pos.ensures bets l (next_pair_fits w (omega arith) f)), omega arith)

pub shape_of-out : goal.shape_of-out
shape_of-out c =
    let (bets, l, f) = c.requires.pairs_of in
    put_length (c.loop-v.invariant.0 bets l f).put

pub returns : goal.returns
returns c = λ bets l f. value_pairs_end (c.loop-v.invariant.0 bets l f) (omega arith)
