use mathlib.Core.Path.{◌∙◌}
use native.Mathlib.Omega.{arith}
use Rattle.std.proofs.lemmas.List.{length-take-le}
use Rattle.reader.specs.Items.VariablesLaws.{sorted_tabled, tabled_front}
use Rattle.reader.specs.Survey.SurveyLaws.{text_named, query_surveyed}
use Rattle.reader.proofs.survey.survey_query.Goals as goal

pub sort-count-requires : goal.sort-count-requires
sort-count-requires c = record { s_len_bound = (omega (arith, c.requires.query_len_bound.0), omega arith); goals_bound = rw c.start.ensures (omega arith) }

pub sort-n-requires : goal.sort-n-requires
sort-n-requires c = record { s_len_bound = (omega (arith, c.requires.query_len_bound.0), omega arith); goals_bound = rw c.start-2.ensures (omega arith) }

pub list_both-listed-requires : goal.list_both-listed-requires
list_both-listed-requires c =
    let s = c.sort-count.ensures in
    let q = c.sort-n.ensures in
    let e = length-take-le c.sort-count.result c.sort-count.new.roles (omega (arith, c.requires.query_len_bound.0, s.bounded, s.kept)) in
    let f = length-take-le c.sort-n.result c.sort-n.new.roles (omega (arith, c.requires.query_len_bound.0, q.bounded, q.kept)) in
    record {
      query_len_bound = c.requires.query_len_bound;
      count_in_bounds = (omega (arith, e, s.bounded), omega (arith, c.requires.query_len_bound.0, e, s.bounded));
      n_in_bounds = (omega (arith, f, q.bounded), omega (arith, c.requires.query_len_bound.0, f, q.bounded));
    }

pub measure-body-requires : goal.measure-body-requires
measure-body-requires c =
    let q = c.sort-n.ensures in
    let l = c.list_both-listed.ensures in
    let f = length-take-le c.sort-n.result c.sort-n.new.roles (omega (arith, c.requires.query_len_bound.0, q.bounded, q.kept)) in
    (omega (arith, c.requires.query_len_bound.0, f, q.bounded), omega (arith, c.requires.query_len_bound.0, f, q.bounded, l.0))

pub returns : goal.returns
returns c =
    let s = c.sort-count.ensures in
    let q = c.sort-n.ensures in
    let m = c.measure-body.ensures in
    let l = c.list_both-listed.ensures in
    let t = tabled_front (omega (arith, c.requires.query_len_bound.0, s.bounded, s.kept)) (rw c.start.ensures at (sorted_tabled s)) in
    let u = tabled_front (omega (arith, c.requires.query_len_bound.0, q.bounded, q.kept)) (rw c.start-2.ensures at (sorted_tabled q)) in
    λ cs g says asks. let n = l.2 _ _ t (text_named _ _) u (text_named _ _) in query_surveyed _ _ cs g says asks (m.0 ∙ c.requires.scratch_len) n (m.1 _ _ u n.numbers_are)
