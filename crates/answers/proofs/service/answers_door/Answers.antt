use Rattle.std.proofs.Common.{◌∙◌, refl, arith}
use Rattle.std.proofs.lemmas.Result.{err_from_is_err_and}
use Rattle.records.specs.Gate.DoorLaws.{told_program, told_event, told_door, told_short}
use Rattle.answers.specs.Form.ServiceLaws.{begin_refused}
use Rattle.answers.specs.Writing.OpenLaws.{told_long, told_begins}
use Rattle.answers.proofs.service.answers_door.Goals as goal

pub returns-in_err-program_door : goal.returns-in_err-program_door
returns-in_err-program_door c =
    let r = err_from_is_err_and c.from_residual.result c.from_residual.ensures.1 in
    rw (r.1, r.2) (begin_refused _ _ c.args.room (told_door _ _ c.args.room (told_program _ _ c.program_door.ensures c.in_err-program_door.was) refl) refl)

pub returns-in_err-query_door : goal.returns-in_err-query_door
returns-in_err-query_door c =
    let r = err_from_is_err_and c.from_residual-in_err-query_door.result c.from_residual-in_err-query_door.ensures.1 in
    let both = c.query_door.ensures ∙ told_event _ _ c.program_door.ensures c.in_ok-program_door.was in
    rw (r.1, r.2) (begin_refused _ _ c.args.room (told_door _ _ c.args.room both c.in_err-query_door.was) refl)

pub returns-then-room-lt-RECORD_LIMIT : goal.returns-then-room-lt-RECORD_LIMIT
returns-then-room-lt-RECORD_LIMIT c =
    let both = c.query_door.ensures ∙ told_event _ _ c.program_door.ensures c.in_ok-program_door.was in
    begin_refused _ _ c.args.room (told_short _ _ c.args.room both c.in_ok-query_door.was (omega arith)) refl

pub returns-then-query-gt-RECORD_LIMIT : goal.returns-then-query-gt-RECORD_LIMIT
returns-then-query-gt-RECORD_LIMIT c =
    let both = c.query_door.ensures ∙ told_event _ _ c.program_door.ensures c.in_ok-program_door.was in
    told_long _ _ c.args.room c.type_inv.query both c.in_ok-query_door.was (omega arith) (omega arith)

pub returns : goal.returns
returns c =
    let both = c.query_door.ensures ∙ told_event _ _ c.program_door.ensures c.in_ok-program_door.was in
    told_begins _ _ c.args.room c.type_inv.query both c.in_ok-query_door.was (omega arith) (omega arith)
