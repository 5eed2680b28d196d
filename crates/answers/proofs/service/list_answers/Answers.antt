use native.Mathlib.Omega.{arith}
use Rattle.answers.proofs.service.list_answers.Goals as goal

pub loop-next-smaller : goal.loop-next-smaller
loop-next-smaller c =
    let turned = rw c.in-Continue.is at (c.next_answer.ensures _ _ _ (c.loop-next.invariant.0 _ _ _ c.requires.by_index.3)) in
    omega (arith, turned.1, turned.0.within)
