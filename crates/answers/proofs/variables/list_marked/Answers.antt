use Rattle.answers.proofs.variables.list_marked.Goals.{then-is_marked, else-is_marked}
use native.Mathlib.Omega.{arith}
use Rattle.records.specs.Writing.PatchedLaws.{put_none, put_length}
use Rattle.answers.specs.Writing.Marked.{marked_below}
use Rattle.answers.specs.Writing.MarkedLaws.{listed_marked, listed_unmarked, listed_room}
use Rattle.answers.proofs.variables.list_marked.Goals as goal

pub loop-v-init : goal.loop-v-init
unfolding marked_below
loop-v-init c = put_none

pub bounds-table-k : goal.bounds-table-k
bounds-table-k c =
    listed_room _ _ c.loop-v.invariant c.is_marked.ensures c.if-is_marked.true _ (omega arith) c.requires.top_in_bounds

pub offset_bounds-table-k : goal.offset_bounds-table-k
offset_bounds-table-k c = let room = listed_room _ _ c.loop-v.invariant c.is_marked.ensures c.if-is_marked.true _ (omega arith) c.requires.top_in_bounds in omega (arith, put_length c.loop-v.invariant)

pub overflow_add-k : goal.overflow_add-k
overflow_add-k c = let room = listed_room _ _ c.loop-v.invariant c.is_marked.ensures c.if-is_marked.true _ (omega arith) c.requires.top_in_bounds in omega (arith, put_length c.loop-v.invariant)

pub loop-v-preserved : goal.loop-v-preserved
loop-v-preserved c =
    elim c.if-is_marked.branch [
      | then-is_marked w ↦ rw (w.table-is, w.k-is) (listed_marked _ _ c.loop-v.invariant c.is_marked.ensures w.if-is_marked.true)
      | else-is_marked w ↦ rw (w.table-is, w.k-is) (listed_unmarked _ _ c.loop-v.invariant c.is_marked.ensures w.if-is_marked.false)
    ]
