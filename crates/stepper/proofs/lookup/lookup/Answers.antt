-- `lookup` hands back the program's part from the start of the range to its end.
use mathlib.Core.Path.{refl}
use Rattle.stepper.specs.Services.LookupLaws.{range_inside, looked_up}
use Rattle.stepper.proofs.lookup.lookup.Goals as goal

pub slice_bounds-result-count : goal.slice_bounds-result-count
slice_bounds-result-count c = (range_inside c.args.program _ c.type_inv.program c.lookup_range-range.ensures).0

pub slice_bounds-result-start : goal.slice_bounds-result-start
slice_bounds-result-start c = (range_inside c.args.program _ c.type_inv.program c.lookup_range-range.ensures).0

pub slice_bounds-result-end : goal.slice_bounds-result-end
slice_bounds-result-end c = (range_inside c.args.program _ c.type_inv.program c.lookup_range-range.ensures).1

pub returns : goal.returns
returns c = looked_up c.args.program _ c.type_inv.program c.lookup_range-range.ensures _ refl refl refl
