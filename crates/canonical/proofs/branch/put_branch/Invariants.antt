-- `put_branch`: the equations before x are written; after the last one the goal is left.
use Rattle.records.specs.Format.Encode.{goal_bytes}
use Rattle.canonical.specs.Form.Canonical.{branch}
use Rattle.canonical.specs.Sorting.Entries.{clause_at}
use Rattle.canonical.specs.Writing.BranchLaws.{Equating}
use Rattle.canonical.proofs.branch.put_branch.Given as goal

abbrev pub invariant-loop-x : goal.invariant-loop-x
invariant-loop-x l = Equating l.s l.x-end l.base (goal_bytes (branch l.base (clause_at l.s l.place))) l.initial.out l.first l.out l.at l.pos l.x
