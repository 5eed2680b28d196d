-- `greatest_part` asks the gate, and searches the frame of an accepted event.
use mathlib.Core.Path.{refl, ◌∙◌}
use Rattle.std.proofs.lemmas.Result.{err_from_is_err_and}
use Rattle.records.specs.Gate.DoorLaws.{event_open}
use Rattle.records.specs.Gate.OutcomeLaws.{told_refusal, told_zero, refusal_positive}
use Rattle.terms.specs.Body.GreatestServiceLaws.{part_refused, frame_found, part_told}
use Rattle.terms.proofs.part.greatest_part.Goals as goal

pub returns-in_err-event_door : goal.returns-in_err-event_door
returns-in_err-event_door c =
    let p = err_from_is_err_and c.from_residual.result c.from_residual.ensures.1 in
    rw (p.1, p.2) (part_refused _ (told_refusal _ c.event_door.ensures c.in_err-event_door.was) (refusal_positive _))

pub event_places-places-requires : goal.event_places-places-requires
event_places-places-requires c = rw (event_open _ (told_zero _ c.event_door.ensures c.in_ok-event_door.was) refl).1 tt

pub greatest_variable-requires : goal.greatest_variable-requires
greatest_variable-requires c =
    let t = event_open _ (told_zero _ c.event_door.ensures c.in_ok-event_door.was) refl in
    (frame_found _ c.type_inv.event t.0 t.1 (c.event_places-places.ensures t.0 t.1) c.event_frame.ensures).frame

pub returns : goal.returns
returns c =
    let t = event_open _ (told_zero _ c.event_door.ensures c.in_ok-event_door.was) refl in
    let f = frame_found _ c.type_inv.event t.0 t.1 (c.event_places-places.ensures t.0 t.1) c.event_frame.ensures in
    part_told _ t.0 t.1 (c.greatest_variable.ensures f.frame ∙ f.holds)
