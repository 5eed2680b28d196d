use mathlib.Core.Path.{◌∙◌}
use native.Mathlib.Omega.{arith}
use Rattle.std.proofs.lemmas.List.{length-take-le}
use Rattle.reader.specs.Items.VariablesLaws.{sorted_tabled, tabled_front}
use Rattle.reader.specs.Survey.SurveyLaws.{text_named, clauses_surveyed}
use Rattle.reader.proofs.survey.survey_clauses.Goals as goal

pub sort-count-requires : goal.sort-count-requires
sort-count-requires c = record { s_len_bound = (c.requires.text_len_bound.0, omega arith); goals_bound = rw c.start.ensures (omega arith) }

pub list_names-listed-requires-clause-count_in_bounds : goal.list_names-listed-requires-clause-count_in_bounds
list_names-listed-requires-clause-count_in_bounds c =
    let s = c.sort-count.ensures in
    let e = length-take-le c.sort-count.result c.sort-count.new.roles (omega (arith, c.requires.text_len_bound.0, s.bounded, s.kept)) in
    (omega (arith, e, s.bounded), omega (arith, c.requires.text_len_bound.0, e, s.bounded))

pub measure-body-requires : goal.measure-body-requires
measure-body-requires c =
    let s = c.sort-count.ensures in
    let l = c.list_names-listed.ensures in
    let e = length-take-le c.sort-count.result c.sort-count.new.roles (omega (arith, c.requires.text_len_bound.0, s.bounded, s.kept)) in
    (omega (arith, c.requires.text_len_bound.0, e, s.bounded), omega (arith, c.requires.text_len_bound.0, e, s.bounded, l.0))

pub returns : goal.returns
returns c =
    let s = c.sort-count.ensures in
    let m = c.measure-body.ensures in
    let l = c.list_names-listed.ensures in
    let t = tabled_front (omega (arith, c.requires.text_len_bound.0, s.bounded, s.kept)) (rw c.start.ensures at (sorted_tabled s)) in
    λ cs says. let n = l.2 _ t (text_named _ _) in clauses_surveyed _ cs says (m.0 ∙ c.requires.scratch_len) n (m.1 _ _ t n.numbers_are)
