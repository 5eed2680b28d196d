-- `canonical`: questions 1 to 4 by the door, question 5, and then the program.
use native.Mathlib.Omega.{arith}
use Rattle.std.specs.Prelude.{refl}
use Rattle.std.proofs.lemmas.Result.{err_from_is_err_and}
use Rattle.records.specs.Gate.OutcomeLaws.{told_refusal, told_zero, refusal_positive}
use Rattle.canonical.specs.Writing.ReplyLaws.{clauses_refused, clauses_accepted, replied_short, replied_made}
use Rattle.canonical.proofs.service.canonical.Goals as goal

pub returns-in_err-clauses_door : goal.returns-in_err-clauses_door
returns-in_err-clauses_door c =
    let p = err_from_is_err_and c.from_residual.result c.from_residual.ensures.1 in
    rw (p.1, p.2) (clauses_refused _ _ (told_refusal _ c.clauses_door.ensures c.in_err-clauses_door.was) (refusal_positive _))

pub returns-then-out-lt-RECORD_LIMIT : goal.returns-then-out-lt-RECORD_LIMIT
returns-then-out-lt-RECORD_LIMIT c = replied_short _ _ (clauses_accepted _ (told_zero _ c.clauses_door.ensures c.in_ok-clauses_door.was) refl) (omega arith)

pub put_canonical-requires-clause-accepted : goal.put_canonical-requires-clause-accepted
put_canonical-requires-clause-accepted c = clauses_accepted _ (told_zero _ c.clauses_door.ensures c.in_ok-clauses_door.was) refl

pub returns : goal.returns
returns c = replied_made _ _ (clauses_accepted _ (told_zero _ c.clauses_door.ensures c.in_ok-clauses_door.was) refl) c.put_canonical.ensures
