use mathlib.Core.Path.{◌∙◌}
use Rattle.records.specs.Gate.EventEndsLaws.{no_event, no_event_goal, event_bets}
use Rattle.records.proofs.gate.bets_place.Goals as goal

pub returns-in_err-goal : goal.returns-in_err-goal
returns-in_err-goal c = c.from_residual.ensures ∙ no_event _ c.port_end.ensures c.in_err-goal.was

pub returns-in_err-ancestors : goal.returns-in_err-ancestors
returns-in_err-ancestors c = c.from_residual-in_err-ancestors.ensures ∙ no_event_goal _ c.port_end.ensures c.in_ok-goal.was c.goals_end.ensures c.in_err-ancestors.was

pub returns : goal.returns
returns c = event_bets _ c.port_end.ensures c.in_ok-goal.was c.goals_end.ensures c.in_ok-ancestors.was c.counted_end.ensures
