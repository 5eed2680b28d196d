-- `count` asks the gate, and adds the port of an accepted event.
use Rattle.std.proofs.lemmas.Result.{err_from_is_err_and}
use Rattle.stepper.specs.Services.PassedLaws.{event_passes}
use Rattle.stepper.specs.Services.PortCountsLaws.{count_refused, count_added}
use Rattle.stepper.proofs.counts.count.Goals as goal

pub returns-in_err-event_door : goal.returns-in_err-event_door
returns-in_err-event_door c =
    let p = err_from_is_err_and c.from_residual.result c.from_residual.ensures.1 in rw (p.1, p.2) (count_refused _ _ c.event_door.ensures c.in_err-event_door.was)

pub event_places-requires : goal.event_places-requires
event_places-requires c = rw (event_passes _ c.event_door.ensures c.in_ok-event_door.was).1 tt

pub returns : goal.returns
returns c = count_added _ _ c.event_door.ensures c.in_ok-event_door.was c.event_places.ensures c.with_port.ensures
