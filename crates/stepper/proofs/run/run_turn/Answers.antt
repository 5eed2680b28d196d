use mathlib.Core.Path.{sym, ◌∙◌}
use native.Mathlib.Omega.{arith}
use lib.Seq.{length-take-le}
use Rattle.stepper.specs.Run.RunLoopLaws.{standing_passed, standing_ends, turn_full, turn_refused, given_short, given_room, given_reads, given_ends, turn_given}
use Rattle.stepper.proofs.run.run_turn.Goals as goal

pub returns-then-is_full : goal.returns-then-is_full
returns-then-is_full c =
    λ g. rw c.stopped.ensures (turn_full c.type_inv.program g (sym c.is_full.ensures ∙ c.if-is_full.true))

pub slice_bounds-step_on-end-2 : goal.slice_bounds-step_on-end-2
slice_bounds-step_on-end-2 c =
    sym (length-take-le _ _ c.requires.run_stands.held.inside)

pub step_on-requires : goal.step_on-requires
step_on-requires c = record { both_passed = standing_passed c.type_inv.program c.requires.run_stands; ends_of = standing_ends c.type_inv.program c.requires.run_stands; in_bounds = c.requires.in_bounds_2 }

pub returns-in-Err : goal.returns-in-Err
returns-in-Err c =
    λ g. rw c.stopped-in-Err.ensures (turn_refused c.type_inv.program g (sym c.is_full.ensures ∙ c.if-is_full.false) (c.step_on.ensures (standing_passed c.type_inv.program g)) c.in-Err.is)

pub slice_bounds-event_mark-end : goal.slice_bounds-event_mark-end
slice_bounds-event_mark-end c =
    omega (arith, given_short c.type_inv.program c.requires.run_stands (sym c.is_full.ensures ∙ c.if-is_full.false) (c.step_on.ensures (standing_passed c.type_inv.program c.requires.run_stands)) c.in-Ok.is, c.step_on.auto.out, c.requires.in_bounds_2)

pub event_mark-mark-requires : goal.event_mark-mark-requires
event_mark-mark-requires c = record { accepted = rw (given_reads c.type_inv.program c.requires.run_stands (sym c.is_full.ensures ∙ c.if-is_full.false) (c.step_on.ensures (standing_passed c.type_inv.program c.requires.run_stands)) c.in-Ok.is) tt; ends_of = given_ends c.type_inv.program c.requires.run_stands (sym c.is_full.ensures ∙ c.if-is_full.false) (c.step_on.ensures (standing_passed c.type_inv.program c.requires.run_stands)) c.in-Ok.is }

pub slice_bounds-put_part-end : goal.slice_bounds-put_part-end
slice_bounds-put_part-end c =
    omega (arith, given_short c.type_inv.program c.requires.run_stands (sym c.is_full.ensures ∙ c.if-is_full.false) (c.step_on.ensures (standing_passed c.type_inv.program c.requires.run_stands)) c.in-Ok.is, c.step_on.auto.out, c.requires.in_bounds_2)

pub put_part-requires : goal.put_part-requires
put_part-requires c =
    given_room c.type_inv.program c.requires.run_stands (sym c.is_full.ensures ∙ c.if-is_full.false) (c.step_on.ensures (standing_passed c.type_inv.program c.requires.run_stands)) c.in-Ok.is c.requires.in_bounds

pub log_mark-requires : goal.log_mark-requires
log_mark-requires c =
    sym c.is_full.ensures ∙ c.if-is_full.false

pub returns-in-Ok : goal.returns-in-Ok
returns-in-Ok c =
    λ g.
    turn_given c.type_inv.program g (sym c.is_full.ensures ∙ c.if-is_full.false) (c.step_on.ensures (standing_passed c.type_inv.program g)) c.in-Ok.is c.requires.in_bounds (c.event_mark-mark.ensures _ (given_reads c.type_inv.program g (sym c.is_full.ensures ∙ c.if-is_full.false) (c.step_on.ensures (standing_passed c.type_inv.program g)) c.in-Ok.is)) c.put_part.ensures c.log_mark.ensures c.stop_at.ensures

pub slice_bounds-event_mark-end-in-Ok : goal.slice_bounds-event_mark-end-in-Ok
slice_bounds-event_mark-end-in-Ok c =
    sym (length-take-le _ _ (omega (arith, given_short c.type_inv.program c.requires.run_stands (sym c.is_full.ensures ∙ c.if-is_full.false) (c.step_on.ensures (standing_passed c.type_inv.program c.requires.run_stands)) c.in-Ok.is, c.step_on.auto.out, c.requires.in_bounds_2)))

pub slice_bounds-put_part-end-in-Ok : goal.slice_bounds-put_part-end-in-Ok
slice_bounds-put_part-end-in-Ok c =
    sym (length-take-le _ _ (omega (arith, given_short c.type_inv.program c.requires.run_stands (sym c.is_full.ensures ∙ c.if-is_full.false) (c.step_on.ensures (standing_passed c.type_inv.program c.requires.run_stands)) c.in-Ok.is, c.step_on.auto.out, c.requires.in_bounds_2)))
