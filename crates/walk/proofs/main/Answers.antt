use mathlib.Core.Path.{sym}
use native.Mathlib.Omega.{arith}
use lib.Seq.{length-take-le}
use Rattle.walk.specs.ReadingLaws.{record_within, query_within}
use Rattle.walk.proofs.main.Goals as goal

pub slice_bounds-program-end : goal.slice_bounds-program-end
slice_bounds-program-end c = omega (arith, record_within c.read_record-p.ensures)

pub slice_bounds-read_query-end : goal.slice_bounds-read_query-end
slice_bounds-read_query-end c = sym (length-take-le _ _ (omega (arith, record_within c.read_record-p.ensures)))

pub slice_bounds-program-end-2 : goal.slice_bounds-program-end-2
slice_bounds-program-end-2 c = omega (arith, record_within c.read_record-p.ensures)

pub slice_bounds-print_text-end : goal.slice_bounds-print_text-end
slice_bounds-print_text-end c = sym (length-take-le _ _ (omega (arith, record_within c.read_record-p.ensures)))

pub slice_bounds-query-end : goal.slice_bounds-query-end
slice_bounds-query-end c = omega (arith, query_within c.read_query-q.ensures)

pub slice_bounds-print_text-end-2 : goal.slice_bounds-print_text-end-2
slice_bounds-print_text-end-2 c = sym (length-take-le _ _ (omega (arith, query_within c.read_query-q.ensures)))
