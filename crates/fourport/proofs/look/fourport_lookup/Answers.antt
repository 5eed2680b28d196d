-- `fourport_lookup` hands on the range that `lookup_range` finds, as a place and a size.
use Rattle.fourport.specs.AnswerLaws.{range_in_order, part_of_range}
use Rattle.fourport.proofs.look.fourport_lookup.Goals as goal

pub overflow_sub-result : goal.overflow_sub-result
overflow_sub-result c = range_in_order _ c.lookup_range-range.ensures

pub returns : goal.returns
returns c = part_of_range _ c.lookup_range-range.ensures
