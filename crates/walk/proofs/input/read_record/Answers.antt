use mathlib.Core.Path.{sym}
use native.Mathlib.Omega.{arith}
use lib.Seq.{length-take-le}
use Rattle.walk_text.specs.InputLaws.{named_bound}
use Rattle.walk.specs.Reading.{delivered_most}
use Rattle.walk.specs.ReadingLaws.{record_read}
use Rattle.walk.proofs.input.read_record.Goals as goal

pub slice_bounds-named-end : goal.slice_bounds-named-end
slice_bounds-named-end c = omega (arith, delivered_most c.read_part-field.ensures.count)

pub slice_bounds-named-end-2 : goal.slice_bounds-named-end-2
slice_bounds-named-end-2 c = sym (length-take-le _ _ (omega (arith, delivered_most c.read_part-field.ensures.count)))

pub read_part-rest-requires : goal.read_part-rest-requires
read_part-rest-requires c = omega (arith, named_bound _ c.named-n.ensures)

pub overflow_add-result : goal.overflow_add-result
overflow_add-result c = omega (arith, named_bound _ c.named-n.ensures, delivered_most c.read_part-rest.ensures.count, delivered_most c.read_part-field.ensures.count)

pub returns : goal.returns
returns c = record_read c.read_part-field.ensures c.named-n.ensures c.read_part-rest.ensures
