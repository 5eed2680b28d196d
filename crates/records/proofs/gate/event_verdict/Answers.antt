use mathlib.Core.Path.{sym, ap, ◌∙◌}
use Rattle.std.proofs.lemmas.Result.{err_from_is_err_and}
use Rattle.records.specs.Gate.OutcomeLaws.{chosen_some, chosen_none}
use Rattle.std.specs.Prelude.{Err}
use Rattle.records.specs.Gate.GateEndsLaws.{refuses}
use Rattle.records.specs.Gate.EventEndsLaws.{event_unread, event_judged}
use Rattle.records.proofs.gate.event_verdict.Goals as goal

pub returns-in_err-opening_of : goal.returns-in_err-opening_of
returns-in_err-opening_of c = let p = err_from_is_err_and c.from_residual.result c.from_residual.ensures.1 in rw (p.1, p.2) (refuses _ _ _ c.opening_of.ensures c.in_err-opening_of.was)

pub returns-in_err-bets : goal.returns-in_err-bets
returns-in_err-bets c = let p = err_from_is_err_and c.from_residual-in_err-bets.result c.from_residual-in_err-bets.ensures.1 in rw (p.1, p.2) (ap Err (sym (chosen_none _ c.ok_or.ensures.value c.in_err-bets.was).1) ∙ event_unread _ c.opening_of.ensures c.in_ok-opening_of.was c.bets_place.ensures (chosen_none _ c.ok_or.ensures.value c.in_err-bets.was).0)

pub returns : goal.returns
returns c = event_judged _ c.opening_of.ensures c.in_ok-opening_of.was c.bets_place.ensures (chosen_some _ c.ok_or.ensures.value c.in_ok-bets.was) c.bets_verdict.ensures
