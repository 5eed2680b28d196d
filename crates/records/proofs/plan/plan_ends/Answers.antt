use Rattle.records.specs.Writing.PlanLaws.{ends_measured}
use Rattle.records.proofs.plan.plan_ends.Goals as goal

pub returns : goal.returns
returns c = ends_measured c.args.p c.measure_piece.ensures c.limit-goal.ensures c.measure_stack.ensures c.limit.ensures
