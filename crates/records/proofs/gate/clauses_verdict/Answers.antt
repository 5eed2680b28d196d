use mathlib.Core.Path.{sym, ap, ◌∙◌}
use Rattle.std.proofs.lemmas.Result.{err_from_is_err_and}
use Rattle.records.specs.Gate.OutcomeLaws.{chosen_some, chosen_none}
use Rattle.std.specs.Prelude.{Err}
use Rattle.records.specs.Gate.GateEndsLaws.{refuses}
use Rattle.records.specs.Gate.RowsLaws.{ends_at}
use Rattle.records.specs.Gate.CountedEndsLaws.{clauses_unread, clauses_judged}
use Rattle.records.proofs.gate.clauses_verdict.Goals as goal

pub returns-in_err-opening_of : goal.returns-in_err-opening_of
returns-in_err-opening_of c = let p = err_from_is_err_and c.from_residual.result c.from_residual.ensures.1 in rw (p.1, p.2) (refuses _ _ _ c.opening_of.ensures c.in_err-opening_of.was)

pub returns-in_err-end : goal.returns-in_err-end
returns-in_err-end c = let p = err_from_is_err_and c.from_residual-in_err-end.result c.from_residual-in_err-end.ensures.1 in rw (p.1, p.2) (ap Err (sym (chosen_none _ c.ok_or.ensures.value c.in_err-end.was).1) ∙ clauses_unread _ c.opening_of.ensures c.in_ok-opening_of.was c.counted_end.ensures (chosen_none _ c.ok_or.ensures.value c.in_err-end.was).0)

pub counted_kept-requires : goal.counted_kept-requires
counted_kept-requires c = ends_at (sym c.counted_end.ensures ∙ (chosen_some _ c.ok_or.ensures.value c.in_ok-end.was))

pub returns : goal.returns
returns c = clauses_judged _ c.opening_of.ensures c.in_ok-opening_of.was c.counted_end.ensures (chosen_some _ c.ok_or.ensures.value c.in_ok-end.was) c.counted_kept.ensures c.judged.ensures
