use native.Mathlib.Omega.{arith}
use Rattle.std.proofs.lemmas.Result.{err_from_is_err_and}
use Rattle.std.proofs.lemmas.List.{length-take-le}
use Rattle.reader.specs.Survey.ServiceLaws.{goal_refused, goal_ready, goal_given}
use Rattle.reader.proofs.query.read_goal.Goals as goal

pub returns-in_err-body : goal.returns-in_err-body
returns-in_err-body c =
    let p = err_from_is_err_and c.from_residual.result c.from_residual.ensures.1 in
    rw (p.1, p.2) (goal_refused _ _ _ _ c.requires.text_value c.requires.query_len_bound c.survey_query-survey.ensures c.survey_body.ensures.number c.in_err-body.was)

pub slice_bounds-list-end : goal.slice_bounds-list-end
slice_bounds-list-end c =
    let r = goal_ready _ _ _ _ c.requires.text_value c.requires.query_len_bound c.survey_query-survey.ensures c.survey_body.ensures.number c.in_ok-body.was (c.survey_body.ensures.body _ c.in_ok-body.was) in
    omega (arith, r.listed)

pub slice_bounds-put_part-end : goal.slice_bounds-put_part-end
slice_bounds-put_part-end c =
    let r = goal_ready _ _ _ _ c.requires.text_value c.requires.query_len_bound c.survey_query-survey.ensures c.survey_body.ensures.number c.in_ok-body.was (c.survey_body.ensures.body _ c.in_ok-body.was) in
    omega (arith, length-take-le _ c.survey_query-survey.new.list r.listed)

pub put_part-requires : goal.put_part-requires
put_part-requires c =
    let r = goal_ready _ _ _ _ c.requires.text_value c.requires.query_len_bound c.survey_query-survey.ensures c.survey_body.ensures.number c.in_ok-body.was (c.survey_body.ensures.body _ c.in_ok-body.was) in
    omega (arith, r.names_fit, length-take-le _ c.survey_query-survey.new.list r.listed)

pub slice_bounds-put_goal-count : goal.slice_bounds-put_goal-count
slice_bounds-put_goal-count c =
    let r = goal_ready _ _ _ _ c.requires.text_value c.requires.query_len_bound c.survey_query-survey.ensures c.survey_body.ensures.number c.in_ok-body.was (c.survey_body.ensures.body _ c.in_ok-body.was) in
    omega (arith, r.at_in)

pub slice_bounds-put_goal-start : goal.slice_bounds-put_goal-start
slice_bounds-put_goal-start c =
    let r = goal_ready _ _ _ _ c.requires.text_value c.requires.query_len_bound c.survey_query-survey.ensures c.survey_body.ensures.number c.in_ok-body.was (c.survey_body.ensures.body _ c.in_ok-body.was) in
    omega (arith, r.at_in)

pub put_goal-requires : goal.put_goal-requires
put_goal-requires c =
    let r = goal_ready _ _ _ _ c.requires.text_value c.requires.query_len_bound c.survey_query-survey.ensures c.survey_body.ensures.number c.in_ok-body.was (c.survey_body.ensures.body _ c.in_ok-body.was) in
    omega (arith, r.fits)

pub returns : goal.returns
returns c = goal_given _ _ _ _ c.requires.text_value c.requires.query_len_bound c.survey_query-survey.ensures c.survey_body.ensures.number c.in_ok-body.was (c.survey_body.ensures.body _ c.in_ok-body.was) c.put_part.ensures c.put_goal.ensures
