use mathlib.Core.List.{[]}
use mathlib.Core.Path.{refl, sym, ◌∙◌}
use native.Mathlib.Omega.{arith}
use Rattle.reader.specs.Survey.SurveyLaws.{measured_over, measured_many, measured_whole, emitted_within}
use Rattle.reader.proofs.survey.measure.Goals as goal

pub returns-then-number_variables : goal.returns-then-number_variables
returns-then-number_variables c = let v = c.number_variables.ensures in (refl, λ is ns t a. measured_over is ns [] (sym c.if-number_variables.true ∙ v.over is t))

pub emit_cells-cells-requires : goal.emit_cells-cells-requires
emit_cells-cells-requires c = let v = c.number_variables.ensures in record { count_bound = c.requires.0; count_in_bounds = (c.requires.1, omega (arith, v.kept, c.requires.0)) }

pub whole-body-requires : goal.whole-body-requires
whole-body-requires c = emitted_within _ c.emit_cells-cells.ensures

pub shape_of-scratch : goal.shape_of-scratch
shape_of-scratch c = (c.whole-body.ensures.1 [] []).keeps ∙ c.emit_cells-cells.ensures.keeps

pub returns-then-body : goal.returns-then-body
returns-then-body c = let v = c.number_variables.ensures in let e = c.emit_cells-cells.ensures in let w = c.whole-body.ensures.1 in ((w [] []).keeps ∙ e.keeps, λ is ns t a. measured_many is ns _ _ _ t.counted t.coded a (v.table is t c.if-number_variables.false) (sym c.if-number_variables.false ∙ v.over is t) e w c.if-body.true)

pub returns : goal.returns
returns c = let v = c.number_variables.ensures in let e = c.emit_cells-cells.ensures in let w = c.whole-body.ensures.1 in ((w [] []).keeps ∙ e.keeps, λ is ns t a. measured_whole is ns _ _ _ t.counted t.coded a (v.table is t c.if-number_variables.false) (sym c.if-number_variables.false ∙ v.over is t) e w c.if-body.false)
