use native.Mathlib.Omega.{arith}
use Rattle.canonical.specs.Sorting.EntryLaws.{head_read, head_unread}
use Rattle.canonical.specs.Writing.BranchLaws.{equating_start, equating_on, equating_room, equating_next, goal_on, goal_room, equating_end}
use Rattle.canonical.proofs.branch.put_branch.Goals as goal

pub returns-in_default : goal.returns-in_default
returns-in_default c = head_unread c.requires.clause_at c.clause_head.ensures c.in_default.is

pub loop-x-init : goal.loop-x-init
loop-x-init c = equating_start c.requires.clause_at (head_read c.requires.clause_at c.clause_head.ensures c.in-Some.is).1 _ _ _

pub put_equation-at-requires : goal.put_equation-at-requires
put_equation-at-requires c = record { on = equating_on c.loop-x.invariant (omega arith); base_bound = c.requires.base_bound; pos_in_bounds = equating_room c.loop-x.invariant (omega arith) c.requires.place_in_bounds }

pub loop-x-preserved : goal.loop-x-preserved
loop-x-preserved c = equating_next c.loop-x.invariant (omega arith) c.put_equation-at.ensures c.term_end.ensures c.position-pos.ensures

pub write_renamed-requires : goal.write_renamed-requires
write_renamed-requires c = record { on = rw c.goal.ensures (goal_on c.loop-x.invariant (omega arith)); m_bound = c.requires.base_bound; goals_in_bounds = rw c.goal.ensures (goal_room c.loop-x.invariant (omega arith) c.requires.place_in_bounds) }

pub returns : goal.returns
returns c = equating_end c.loop-x.invariant (omega arith) (rw c.goal.ensures at c.write_renamed.ensures)
