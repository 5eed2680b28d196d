use native.Mathlib.Omega.{arith}
use Rattle.records.specs.Writing.PatchedLaws.{put_length}
use Rattle.canonical.specs.Sorting.EntryLaws.{other_read, last_read}
use Rattle.canonical.specs.Writing.DefinitionLaws.{branching_start, branching_next, branching_room, branching_last, branching_end}
use Rattle.canonical.proofs.definition.put_branches.Goals as goal

pub loop-entry-init : goal.loop-entry-init
loop-entry-init c = branching_start _ _ _ _ _ c.requires.group_nonzero c.requires.group_bound

pub put_byte-branch_at-requires : goal.put_byte-branch_at-requires
put_byte-branch_at-requires c =
    let split = c.in-Some.ensures.cases in
    omega (arith, branching_room c.loop-entry.invariant (omega (arith, split.1)) c.requires.group_in_bounds)

pub put_branch-at-requires-clause-place_in_bounds : goal.put_branch-at-requires-clause-place_in_bounds
put_branch-at-requires-clause-place_in_bounds c =
    let split = c.in-Some.ensures.cases in
    let place = other_read c.args.group.now c.in-Some.others.now c.in-Some.last.now c.loop-entry.entry-index split (omega arith) c.place_of-place.ensures in
    let byte = c.put_byte-branch_at.ensures in
    rw place (omega (arith, branching_room c.loop-entry.invariant (omega (arith, split.1)) c.requires.group_in_bounds, byte.place, put_length byte))

pub loop-entry-preserved : goal.loop-entry-preserved
loop-entry-preserved c =
    let split = c.in-Some.ensures.cases in
    let place = other_read c.args.group.now c.in-Some.others.now c.in-Some.last.now c.loop-entry.entry-index split (omega arith) c.place_of-place.ensures in
    branching_next c.loop-entry.invariant (omega (arith, split.1)) (rw place at c.clause_variables-base.ensures) c.put_byte-branch_at.ensures (rw place at c.put_branch-at.ensures)

pub put_branch-requires-clause-place_in_bounds : goal.put_branch-requires-clause-place_in_bounds
put_branch-requires-clause-place_in_bounds c =
    let split = c.in-Some.ensures.cases in
    let place = last_read c.args.group.now c.in-Some.others.now c.in-Some.last.now c.loop-entry.entry-index split (omega arith) c.place_of.ensures in
    rw place (branching_last c.loop-entry.invariant (omega (arith, split.1)) c.requires.group_in_bounds)

pub returns : goal.returns
returns c =
    let split = c.in-Some.ensures.cases in
    let place = last_read c.args.group.now c.in-Some.others.now c.in-Some.last.now c.loop-entry.entry-index split (omega arith) c.place_of.ensures in
    branching_end c.loop-entry.invariant (omega (arith, split.1)) (rw place at c.put_branch.ensures)
