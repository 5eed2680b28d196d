use native.Mathlib.Omega.{arith}
use Rattle.std.proofs.lemmas.Result.{err_from_is_err_and}
use Rattle.std.proofs.lemmas.List.{length-take-le}
use Rattle.reader.specs.Survey.ServiceLaws.{clauses_refused, clauses_ready, clauses_given}
use Rattle.reader.proofs.read.read_clauses.Goals as goal

pub returns-in_err-body : goal.returns-in_err-body
returns-in_err-body c =
    let p = err_from_is_err_and c.from_residual.result c.from_residual.ensures.1 in
    rw (p.1, p.2) (clauses_refused _ _ _ c.requires c.survey_clauses-survey.ensures c.survey_body.ensures.number c.in_err-body.was)

pub slice_bounds-list-end : goal.slice_bounds-list-end
slice_bounds-list-end c =
    let r = clauses_ready _ _ _ c.requires c.survey_clauses-survey.ensures c.survey_body.ensures.number c.in_ok-body.was (c.survey_body.ensures.body _ c.in_ok-body.was) in
    omega (arith, r.listed)

pub slice_bounds-put_part-end : goal.slice_bounds-put_part-end
slice_bounds-put_part-end c =
    let r = clauses_ready _ _ _ c.requires c.survey_clauses-survey.ensures c.survey_body.ensures.number c.in_ok-body.was (c.survey_body.ensures.body _ c.in_ok-body.was) in
    omega (arith, length-take-le _ c.survey_clauses-survey.new.list r.listed)

pub put_part-requires : goal.put_part-requires
put_part-requires c =
    let r = clauses_ready _ _ _ c.requires c.survey_clauses-survey.ensures c.survey_body.ensures.number c.in_ok-body.was (c.survey_body.ensures.body _ c.in_ok-body.was) in
    omega (arith, r.names_fit, length-take-le _ c.survey_clauses-survey.new.list r.listed)

pub slice_bounds-put_clauses-count : goal.slice_bounds-put_clauses-count
slice_bounds-put_clauses-count c =
    let r = clauses_ready _ _ _ c.requires c.survey_clauses-survey.ensures c.survey_body.ensures.number c.in_ok-body.was (c.survey_body.ensures.body _ c.in_ok-body.was) in
    omega (arith, r.at_in)

pub slice_bounds-put_clauses-start : goal.slice_bounds-put_clauses-start
slice_bounds-put_clauses-start c =
    let r = clauses_ready _ _ _ c.requires c.survey_clauses-survey.ensures c.survey_body.ensures.number c.in_ok-body.was (c.survey_body.ensures.body _ c.in_ok-body.was) in
    omega (arith, r.at_in)

pub put_clauses-requires : goal.put_clauses-requires
put_clauses-requires c =
    let r = clauses_ready _ _ _ c.requires c.survey_clauses-survey.ensures c.survey_body.ensures.number c.in_ok-body.was (c.survey_body.ensures.body _ c.in_ok-body.was) in
    omega (arith, r.fits)

pub returns : goal.returns
returns c = clauses_given _ _ _ c.requires c.survey_clauses-survey.ensures c.survey_body.ensures.number c.in_ok-body.was (c.survey_body.ensures.body _ c.in_ok-body.was) c.put_part.ensures c.put_clauses.ensures
