-- The event's front and the steps made are those that the definitions name.
use Rattle.std.proofs.Common.{◌≡◌, min, rules}
use Rattle.std.proofs.Math.Path.{refl}
use Rattle.std.proofs.lemmas.Result.{err_from_is_err_and}
use Rattle.records.specs.Gate.DoorLaws.{door_open}
use Rattle.records.specs.Gate.OutcomeLaws.{told_zero, told_refusal, refusal_positive}
use Rattle.walk_text.specs.Rest.{steps_made}
use Rattle.walk_text.specs.RestLaws.{gate_text, gives_later}
use Rattle.walk_text.proofs.text.later_page.Goals as goal

pub returns-in_err-door : goal.returns-in_err-door
returns-in_err-door c = λ query.
    let p = err_from_is_err_and c.from_residual.result c.from_residual.ensures.1 in
    let length_is : c.min.result ≡ min c.args.stand.now.length 32768 = search rules in
    rw (p.1, p.2) (gate_text _ c.args.stand.now (told_refusal _ (rw length_is at c.door.ensures) c.in_err-door.was) (refusal_positive _), refl)

pub walk_page-requires-clause-both_passed : goal.walk_page-requires-clause-both_passed
walk_page-requires-clause-both_passed c = door_open _ _ (told_zero _ c.door.ensures c.in_ok-door.was) refl

pub returns : goal.returns
returns c = λ query.
    let length_is : c.min.result ≡ min c.args.stand.now.length 32768 = search rules in
    let first_is : c.min-2.result ≡ steps_made c.args.stand.now = search rules in
    let w = door_open _ _ (told_zero _ (rw length_is at c.door.ensures) c.in_ok-door.was) refl in
    gives_later c.args.stand.now w (rw first_is at (rw length_is at c.walk_page.ensures w query))
