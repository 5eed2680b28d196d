-- `put_program`: what the measuring says of questions 9 and 10.
use mathlib.Core.Path.{sym, ◌∙◌}
use native.Mathlib.Omega.{arith}
use Rattle.std.proofs.lemmas.Result.{err_from_is_err_and}
use Rattle.records.specs.Gate.OutcomeLaws.{chosen_some, chosen_none}
use Rattle.canonical.specs.Writing.ReplyLaws.{program_measured, reply_many, reply_long, reply_whole}
use Rattle.canonical.proofs.program.put_program.Goals as goal

pub returns-in_err-survey : goal.returns-in_err-survey
returns-in_err-survey c =
    let p = err_from_is_err_and c.from_residual.result c.from_residual.ensures.1 in
    let n = chosen_none _ c.ok_or.ensures.value c.in_err-survey.was in
    rw (p.1, p.2, ← n.1) (reply_many _ _ c.requires.in_bounds (sym n.0 ∙ c.measure_program.ensures))

pub returns-then-survey-gt-FITTING_SIZE : goal.returns-then-survey-gt-FITTING_SIZE
returns-then-survey-gt-FITTING_SIZE c = reply_long _ _ c.requires.in_bounds (program_measured _ (sym (chosen_some _ c.ok_or.ensures.value c.in_ok-survey.was) ∙ c.measure_program.ensures)) (omega arith)

pub returns : goal.returns
returns c = reply_whole _ _ c.requires.in_bounds (program_measured _ (sym (chosen_some _ c.ok_or.ensures.value c.in_ok-survey.was) ∙ c.measure_program.ensures)) (omega arith) c.put_record.ensures
