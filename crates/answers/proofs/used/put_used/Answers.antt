use mathlib.Core.Path.{◌≡◌, refl}
use Prim.Native.Nat.{◌+◌, ◌-◌}
use native.Mathlib.Omega.{arith}
use Rattle.records.specs.Writing.PatchedLaws.{put_length}
use Rattle.answers.specs.Writing.UsedLaws.{written_start, written_inside, written_room, written_next}
use Rattle.answers.proofs.used.put_used.Goals as goal

pub loop-init : goal.loop-init
loop-init c = let all : c.args.n - 0 ≡ c.args.n = omega arith in (λ b k. rw all (written_start b), omega arith, refl)

pub put_bet-from-requires : goal.put_bet-from-requires
put_bet-from-requires c = let w = c.loop.invariant.0 c.requires.b_len_bound.0 c.requires.b_len_bound.1 in record { inside = written_inside w (omega arith) c.bet_end.ensures c.position-end.ensures; at_bound = written_room w (omega arith) c.bet_end.ensures c.position-end.ensures c.requires.b_len_bound.1; to_in_bounds = omega arith }

pub loop-preserved : goal.loop-preserved
loop-preserved c =
    let wrote = c.put_bet-from.ensures in
    let fewer : c.args.n - (c.loop.counter + 1) ≡ c.args.n - c.loop.counter - 1 = omega arith in (
      λ b k. rw fewer (written_next (c.loop.invariant.0 b k) (omega arith) c.bet_end.ensures c.position-end.ensures wrote),
      omega (arith, wrote.place),
      omega (arith, put_length wrote),
    )
