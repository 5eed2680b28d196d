use Rattle.std.proofs.lemmas.Result.{err_from_is_err_and}
use Rattle.records.specs.Gate.Receipt.{receipt_of}
use Rattle.stepper.specs.Services.PassedLaws.{receipt_number}
use Rattle.stepper.specs.Services.FirstLaws.{first_within, first_replied, first_refused, first_emitted}
use Rattle.stepper.proofs.first.first_event.Goals as goal

pub returns-in_err-query_door : goal.returns-in_err-query_door
returns-in_err-query_door c =
    let w = first_refused _ c.type_inv.query c.query_door.ensures _ c.in_err-query_door.was in
    let p = err_from_is_err_and c.from_residual.result c.from_residual.ensures.1 in
    rw (p.1, p.2) (record { replied = first_replied _ c.type_inv.query _ _ w; length_is = w.length_is })

pub emit_plan-requires : goal.emit_plan-requires
emit_plan-requires c = rw c.first_plan.ensures (first_within _ c.type_inv.query c.query_door.ensures c.in_ok-query_door.was)

pub returns : goal.returns
returns c =
    let w = first_emitted _ c.type_inv.query c.query_door.ensures _ _ (receipt_of c.emit_plan.result) c.in_ok-query_door.was (rw c.first_plan.ensures at c.emit_plan.ensures) in
    record { replied = rw receipt_number at (first_replied _ c.type_inv.query _ _ w); length_is = w.length_is }
