use Rattle.terms.specs.Values.ValueLaws.{value_refused, event_bets, value_of_event}
use Rattle.records.specs.Gate.DoorLaws.{event_open}
use Rattle.records.specs.Gate.OutcomeLaws.{told_refusal, told_zero, refusal_positive}
use Rattle.std.proofs.lemmas.Result.{err_from_is_err_and}
use mathlib.Core.Path.{refl}
use Rattle.terms.proofs.value.value.Goals as goal

pub returns-in_err-event_door : goal.returns-in_err-event_door
returns-in_err-event_door c =
    let p = err_from_is_err_and c.from_residual.result c.from_residual.ensures.1 in
    rw (p.1, p.2) (value_refused _ c.args.v (told_refusal _ c.event_door.ensures c.in_err-event_door.was) (refusal_positive _))

pub event_places-requires : goal.event_places-requires
event_places-requires c = rw (event_open _ (told_zero _ c.event_door.ensures c.in_ok-event_door.was) refl).1 tt

pub put_value-requires : goal.put_value-requires
put_value-requires c = let t = event_open _ (told_zero _ c.event_door.ensures c.in_ok-event_door.was) refl in
    let b = event_bets _ c.type_inv.event t.0 t.1 (c.event_places.ensures t.0 t.1) in
    record { ruled_bets = b.bets; event_len_bound = b.short }

pub returns : goal.returns
returns c =
    let t = event_open _ (told_zero _ c.event_door.ensures c.in_ok-event_door.was) refl in
    let b = event_bets _ c.type_inv.event t.0 t.1 (c.event_places.ensures t.0 t.1) in
    value_of_event c.args.v t.0 t.1 b (c.put_value.ensures b.bets)
