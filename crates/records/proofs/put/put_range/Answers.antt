use Rattle.records.specs.Ends.Range.{size, cut}
use Rattle.records.proofs.put.put_range.Goals as goal

pub returns : goal.returns
unfolding cut size
returns c = c.put_part.ensures
