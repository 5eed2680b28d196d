use native.Mathlib.Omega.{arith}
use Rattle.goal_door.proofs.way.go_back.Goals as goal

pub loop-next-smaller : goal.loop-next-smaller
loop-next-smaller c =
    let turned = rw c.in-Continue.is at (c.next_call.ensures _ _ (c.loop-next.invariant.0 _ _ c.requires.way_stands.2)) in
    omega (arith, turned.1, turned.0.within)
