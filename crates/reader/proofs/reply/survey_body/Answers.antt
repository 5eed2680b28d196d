use native.Mathlib.Omega.{arith}
use Rattle.std.proofs.lemmas.Result.{err_from_is_err_and}
use Rattle.records.specs.Gate.OutcomeLaws.{chosen_some, chosen_none}
use Rattle.reader.specs.Survey.ReplyLaws.{number_names, number_over, number_short, number_long, number_done}
use Rattle.reader.proofs.reply.survey_body.Goals as goal

pub returns-then-space-survey-clause-number : goal.returns-then-space-survey-clause-number
returns-then-space-survey-clause-number c = λ names bytes rec within n list scratch s i. number_names rec s _ _ (omega (arith, c.if-space-survey.true))

pub returns-in_err-body-clause-number : goal.returns-in_err-body-clause-number
returns-in_err-body-clause-number c =
    let p = err_from_is_err_and c.from_residual.result c.from_residual.ensures.1 in
    let none = chosen_none _ c.ok_or.ensures.value c.in_err-body.was in
    λ names bytes rec within n list scratch s i. rw (p.1, p.2, ← none.1) (number_over rec s _ _ (omega (arith, c.if-space-survey.false)) none.0)

pub returns-then-room-lt-RECORD_LIMIT-clause-number : goal.returns-then-room-lt-RECORD_LIMIT-clause-number
returns-then-room-lt-RECORD_LIMIT-clause-number c = λ names bytes rec within n list scratch s i. number_short rec s _ _ (chosen_some _ c.ok_or.ensures.value c.in_ok-body.was) (omega (arith, c.if-space-survey.false)) (omega (arith, c.if-room-lt-RECORD_LIMIT.true))

pub returns-then-body-head-clause-number : goal.returns-then-body-head-clause-number
returns-then-body-head-clause-number c = λ names bytes rec within n list scratch s i. number_long rec s _ _ (chosen_some _ c.ok_or.ensures.value c.in_ok-body.was) i (omega (arith, c.if-space-survey.false)) (omega (arith, c.if-room-lt-RECORD_LIMIT.false)) (omega (arith, c.if-body-head.true, c.requires))

pub returns-clause-number : goal.returns-clause-number
returns-clause-number c = λ names bytes rec within n list scratch s i. number_done rec s _ _ (chosen_some _ c.ok_or.ensures.value c.in_ok-body.was) i c.requires (omega (arith, c.if-space-survey.false)) (omega (arith, c.if-room-lt-RECORD_LIMIT.false)) (omega (arith, c.if-body-head.false))
