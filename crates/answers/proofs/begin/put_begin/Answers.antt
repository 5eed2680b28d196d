use native.Mathlib.Omega.{arith}
use Rattle.records.specs.Ends.RangeLaws.{length_cut}
use Rattle.records.specs.Ends.Range.{size}
use Rattle.records.specs.Writing.PatchedLaws.{put_length}
use Rattle.answers.specs.Writing.BegunLaws.{query_inside, begin_put}
use Rattle.answers.proofs.begin.put_begin.Goals as goal

pub put_range-end-requires : goal.put_range-end-requires
put_range-end-requires c = let inside = query_inside _ c.type_inv.query c.requires.accepted in
    record { inside = inside; from_in_bounds = omega (arith, inside, c.requires.query_in_bounds, c.put_record_head-port_at.ensures.place, put_length c.put_record_head-port_at.ensures, c.put_opening-goal_at.ensures.place, put_length c.put_opening-goal_at.ensures) }

pub put_closing-requires : goal.put_closing-requires
unfolding size
put_closing-requires c =
    let inside = query_inside _ c.type_inv.query c.requires.accepted in
    omega (arith, inside, length_cut inside, c.requires.query_in_bounds, c.put_record_head-port_at.ensures.place, put_length c.put_record_head-port_at.ensures, c.put_opening-goal_at.ensures.place, put_length c.put_opening-goal_at.ensures, c.put_range-end.ensures.place, put_length c.put_range-end.ensures)

pub returns : goal.returns
returns c = λ q e.
    begin_put _ c.type_inv.query q e c.put_record_head-port_at.ensures c.put_opening-goal_at.ensures c.put_range-end.ensures c.put_closing.ensures
