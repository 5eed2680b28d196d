use mathlib.Core.Path.{◌∙◌}
use native.Mathlib.Omega.{arith}
use Rattle.records.specs.Writing.PatchedLaws.{put_then, put_length}
use Rattle.records.specs.Ends.Range.{size}
use Rattle.records.specs.Ends.RangeLaws.{length_cut}
use Rattle.stepper.specs.Step.Completed.{unifier_front, unifier_back}
use Rattle.stepper.specs.Step.CompletedLaws.{completed, ahead_inside, behind_inside}
use Rattle.stepper.proofs.around.with_unifier.Goals as goal

pub put_unifier_top-unifier_at-requires : goal.put_unifier_top-unifier_at-requires
unfolding size
put_unifier_top-unifier_at-requires c =
    let o = c.requires.in_order in
    let head = c.put_event_head-goal_at.ensures in
    let ahead = c.put_range-count_at.ensures in
    omega (arith, c.requires.n_len_bound, c.requires.in_bounds, put_length head, put_length ahead, length_cut (ahead_inside o))

pub overflow_add-unifier_at : goal.overflow_add-unifier_at
unfolding size
overflow_add-unifier_at c =
    let o = c.requires.in_order in
    let head = c.put_event_head-goal_at.ensures in
    let ahead = c.put_range-count_at.ensures in
    let top = c.put_unifier_top-unifier_at.ensures in
    omega (arith, c.requires.n_len_bound, length_cut (ahead_inside o))

pub put_range-length-requires : goal.put_range-length-requires
unfolding size
put_range-length-requires c = let o = c.requires.in_order in
    let head = c.put_event_head-goal_at.ensures in
    let ahead = c.put_range-count_at.ensures in
    let top = c.put_unifier_top-unifier_at.ensures in
    rw c.items.ensures (record { inside = behind_inside o; from_in_bounds = omega (arith, c.requires.n_len_bound, c.requires.in_bounds, put_length head, put_length ahead, put_length top, length_cut (ahead_inside o)) })

pub shape_of-out : goal.shape_of-out
shape_of-out c =
    put_length c.put_range-length.ensures ∙ put_length c.put_unifier_top-unifier_at.ensures ∙ put_length c.put_range-count_at.ensures ∙ put_length c.put_event_head-goal_at.ensures

pub returns : goal.returns
unfolding unifier_front unifier_back
returns c =
    completed (put_then c.put_event_head-goal_at.ensures (put_then c.put_range-count_at.ensures c.put_unifier_top-unifier_at.ensures)) (rw c.items.ensures at c.put_range-length.ensures)
