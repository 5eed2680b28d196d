use Rattle.records.proofs.EndSteps.{parts_more, parts_stop}
use mathlib.Core.Path.{◌∙◌}
use Rattle.records.proofs.ends.parts_end.Goals as goal

pub returns-in_err-args_end : goal.returns-in_err-args_end
returns-in_err-args_end c = c.from_residual.ensures ∙ parts_stop _ _ c.type_inv.s _ c.args_end.ensures _ c.in_err-args_end.was

pub returns : goal.returns
returns c = parts_more _ _ c.type_inv.s _ c.args_end.ensures _ c.in_ok-args_end.was c.goals_end.ensures
