use mathlib.Core.Path.{◌∙◌}
use native.Mathlib.Omega.{arith}
use Rattle.records.specs.Writing.PatchedLaws.{put_then, put_length}
use Rattle.records.specs.Ends.Range.{size}
use Rattle.records.specs.Ends.RangeLaws.{length_cut}
use Rattle.stepper.specs.Step.Completed.{body_front, body_back}
use Rattle.stepper.specs.Step.CompletedLaws.{completed, atom_inside, stacks_inside}
use Rattle.stepper.proofs.around.with_body.Goals as goal

pub put_range-length-requires : goal.put_range-length-requires
unfolding size
put_range-length-requires c = let o = c.requires.in_order in
    let head = c.put_event_head-body_at.ensures in
    let count = c.put_word-atom_at.ensures in
    let atom = rw c.whole.ensures at c.put_range-behind_at.ensures in
    record { inside = stacks_inside o; from_in_bounds = omega (arith, c.requires.n_len_bound, c.requires.in_bounds, put_length head, put_length count, put_length atom, length_cut (atom_inside o)) }

pub overflow_add-result : goal.overflow_add-result
overflow_add-result c = let o = c.requires.in_order in omega (arith, c.requires.n_len_bound)

pub overflow_add-result-2 : goal.overflow_add-result-2
overflow_add-result-2 c = let o = c.requires.in_order in omega (arith, c.requires.n_len_bound)

pub shape_of-out : goal.shape_of-out
shape_of-out c =
    put_length c.put_range-length.ensures ∙ put_length c.put_range-behind_at.ensures ∙ put_length c.put_word-atom_at.ensures ∙ put_length c.put_event_head-body_at.ensures

pub returns : goal.returns
unfolding body_front body_back
returns c =
    completed c.put_event_head-body_at.ensures (put_then c.put_word-atom_at.ensures (put_then (rw c.whole.ensures at c.put_range-behind_at.ensures) c.put_range-length.ensures))
