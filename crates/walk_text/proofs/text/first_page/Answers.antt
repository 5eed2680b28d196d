use Rattle.std.proofs.Math.Path.{refl}
use Rattle.std.proofs.lemmas.Result.{err_from_is_err_and}
use mathlib.Core.Path.{sym}
use lib.Seq.{length-take-le}
use borrow.Author.Rules.{rules}
use Rattle.records.specs.Gate.DoorLaws.{program_open}
use Rattle.records.specs.Gate.OutcomeLaws.{told_zero, told_refusal, refusal_positive}
use Rattle.walk_text.specs.TextLaws.{begun, begun_length, begun_passed}
use Rattle.walk_text.specs.RestLaws.{program_text, first_text, page_starts}
use Rattle.walk_text.proofs.text.first_page.Goals as goal

pub returns-in-Err : goal.returns-in-Err
returns-in-Err c = rw (program_text _ _ (told_refusal _ c.program_door.ensures c.in-Err.is) (refusal_positive _), ← c.number-number.ensures) (c.stop_page.ensures _ _ _)

pub returns-in_err-length : goal.returns-in_err-length
returns-in_err-length c =
    let p = err_from_is_err_and c.from_residual.result c.from_residual.ensures.1 in
    let accepted = program_open _ (told_zero _ c.program_door.ensures c.in_default.is) refl in
    rw (p.1, p.2) (first_text _ _ accepted.0 accepted.1 _ (search rules) c.in_err-length.ensures.replied (refusal_positive _), refl)

pub slice_bounds-event-end : goal.slice_bounds-event-end
slice_bounds-event-end c =
    let b = begun _ _ c.type_inv.query c.in_ok-length.ensures.replied refl in
    rw (begun_length c.type_inv.query b c.in_ok-length.ensures.length_is) b.inside

pub slice_bounds-walk_page-end : goal.slice_bounds-walk_page-end
slice_bounds-walk_page-end c =
    let b = begun _ _ c.type_inv.query c.in_ok-length.ensures.replied refl in
    rw (begun_length c.type_inv.query b c.in_ok-length.ensures.length_is) (sym (length-take-le _ _ b.inside))

pub walk_page-requires-clause-both_passed : goal.walk_page-requires-clause-both_passed
walk_page-requires-clause-both_passed c =
    let p = program_open _ (told_zero _ c.program_door.ensures c.in_default.is) refl in
    let b = begun _ _ c.type_inv.query c.in_ok-length.ensures.replied refl in
    rw (begun_length c.type_inv.query b c.in_ok-length.ensures.length_is) (begun_passed p.0 p.1 b)

pub returns : goal.returns
returns c =
    let p = program_open _ (told_zero _ c.program_door.ensures c.in_default.is) refl in
    let b = begun _ _ c.type_inv.query c.in_ok-length.ensures.replied refl in
    let length_is = begun_length c.type_inv.query b c.in_ok-length.ensures.length_is in
    page_starts p.0 p.1 b c.put_part-used.ensures ((rw length_is at c.walk_page.ensures) (begun_passed p.0 p.1 b) _)
