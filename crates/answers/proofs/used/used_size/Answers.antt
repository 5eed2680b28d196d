use mathlib.Core.Path.{◌≡◌}
use Prim.Native.Nat.{◌+◌, ◌-◌}
use native.Mathlib.Omega.{arith}
use Rattle.answers.specs.Writing.UsedLaws.{so_far_start, so_far_next, so_far_end, next_within, so_far_within}
use Rattle.answers.proofs.used.used_size.Goals as goal

pub loop-init : goal.loop-init
loop-init c = let all : c.args.n - 0 ≡ c.args.n = omega arith in (λ b. rw all (so_far_start b), omega arith, omega arith)

pub overflow_sub-end : goal.overflow_sub-end
overflow_sub-end c =
    let w = c.loop.invariant.0 c.requires.bets_at in
    let n = next_within w.pass (omega arith) c.bet_end.ensures c.position-end.ensures in
    omega arith

pub with_bet-size-requires : goal.with_bet-size-requires
with_bet-size-requires c =
    let w = c.loop.invariant.0 c.requires.bets_at in
    let n = next_within w.pass (omega arith) c.bet_end.ensures c.position-end.ensures in
    (omega arith, omega arith, omega arith)

pub loop-preserved : goal.loop-preserved
loop-preserved c =
    let w = c.loop.invariant.0 c.requires.bets_at in
    let n = next_within w.pass (omega arith) c.bet_end.ensures c.position-end.ensures in
    let fewer : c.args.n - (c.loop.counter + 1) ≡ c.args.n - c.loop.counter - 1 = omega arith in
    let more = so_far_within c.args.event.now c.loop.pos c.position-end.result c.loop.size c.with_bet-size.result c.with_bet-size.ensures in (
      λ b. rw fewer (so_far_next (c.loop.invariant.0 b) (omega arith) c.bet_end.ensures c.position-end.ensures c.with_bet-size.ensures),
      omega arith,
      omega arith,
    )

pub returns : goal.returns
returns c = λ b. so_far_end (c.loop.invariant.0 b) (omega arith)
