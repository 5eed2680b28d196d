use mathlib.Core.Path.{sym, ap, ◌∙◌}
use Rattle.std.proofs.lemmas.Result.{err_from_is_err_and}
use Rattle.records.specs.Gate.OutcomeLaws.{chosen_some, chosen_none}
use Rattle.std.specs.Prelude.{Err}
use Rattle.records.specs.Gate.GateEndsLaws.{refuses}
use Rattle.records.specs.Gate.CountedEndsLaws.{program_unread, program_judged, program_found}
use Rattle.records.proofs.gate.program_verdict.Goals as goal

pub returns-in_err-opening_of : goal.returns-in_err-opening_of
returns-in_err-opening_of c = let p = err_from_is_err_and c.from_residual.result c.from_residual.ensures.1 in rw (p.1, p.2) (refuses _ _ _ c.opening_of.ensures c.in_err-opening_of.was)

pub returns-in_err-end : goal.returns-in_err-end
returns-in_err-end c = let p = err_from_is_err_and c.from_residual-in_err-end.result c.from_residual-in_err-end.ensures.1 in rw (p.1, p.2) (ap Err (sym (chosen_none _ c.ok_or.ensures.value c.in_err-end.was).1) ∙ program_unread _ c.opening_of.ensures c.in_ok-opening_of.was c.counted_end.ensures (chosen_none _ c.ok_or.ensures.value c.in_err-end.was).0)

pub program_kept-requires : goal.program_kept-requires
program_kept-requires c = program_found _ c.opening_of.ensures c.in_ok-opening_of.was c.counted_end.ensures (chosen_some _ c.ok_or.ensures.value c.in_ok-end.was)

pub returns : goal.returns
returns c = program_judged _ c.opening_of.ensures c.in_ok-opening_of.was c.counted_end.ensures (chosen_some _ c.ok_or.ensures.value c.in_ok-end.was) c.program_kept.ensures c.judged.ensures
