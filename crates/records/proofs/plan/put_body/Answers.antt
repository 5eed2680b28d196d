use native.Mathlib.Omega.{arith}
use lib.ListN.{length-append}
use Rattle.records.specs.Writing.PatchedLaws.{put_then, put_room}
use Rattle.records.specs.Writing.Plan.{planned_body, stack_bytes, stack_length}
use Rattle.records.specs.Writing.PlanLaws.{length_piece, length_stack}
use Rattle.records.proofs.plan.put_body.Goals as goal

pub put_stack-bets_at-requires : goal.put_stack-bets_at-requires
put_stack-bets_at-requires c = let w = c.requires.plan_inside in
    record { inside = w.ancestor_inside; inside_2 = w.ancestors_inside; stack_in_bounds = omega (arith, length_piece c.args.p.goal w.goal_inside) }

pub put_stack-requires : goal.put_stack-requires
put_stack-requires c = let w = c.requires.plan_inside in
    let g = length_piece c.args.p.goal w.goal_inside in
    let u = length_stack c.args.p.ancestors w.ancestor_inside w.ancestors_inside in
    let q = put_then c.put_byte-goal_at.ensures (put_then c.put_piece-ancestors_at.ensures c.put_stack-bets_at.ensures) in
    record { inside = w.bet_inside; inside_2 = w.bets_inside; stack_in_bounds = put_room (stack_length c.args.p.bets) q (simp (length-append, g, u) (omega (arith, c.requires.p_in_bounds))) }

pub returns : goal.returns
unfolding planned_body
returns c =
    let p = c.args.p in
    let stacks = put_then {a = stack_bytes p.ancestors _} c.put_stack-bets_at.ensures c.put_stack.ensures in
    put_then c.put_byte-goal_at.ensures (put_then c.put_piece-ancestors_at.ensures stacks)
