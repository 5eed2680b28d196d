use Rattle.std.proofs.Common.{ap, ◌∙◌}
use Rattle.records.specs.Ends.Range.{size}
use Rattle.records.specs.Writing.Plan.{limited}
use Rattle.records.proofs.plan.measure_range.Goals as goal

pub returns : goal.returns
unfolding size
returns c = c.limit.ensures ∙ ap limited c.saturating_sub.ensures
