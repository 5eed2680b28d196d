use mathlib.Core.Path.{◌∙◌}
use Rattle.records.specs.Ends.Range.{size, cut}
use Rattle.records.specs.Ends.SameLaws.{pointwise_same}
use Rattle.records.proofs.compare.same_range.Goals as goal

pub returns : goal.returns
unfolding cut size
returns c = c.eq.ensures ∙ pointwise_same _ _
