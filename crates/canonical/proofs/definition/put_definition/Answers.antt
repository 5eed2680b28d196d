-- `put_definition`: the first clause's head, the totals and the branches are the definition's parts.
use native.Mathlib.Omega.{arith}
use Rattle.records.specs.Writing.PatchedLaws.{put_length}
use Rattle.canonical.specs.Sorting.EntryLaws.{group_clause, head_unread}
use Rattle.canonical.specs.Writing.DefinitionLaws.{arity_small, definition_size, definition_put}
use Rattle.canonical.proofs.definition.put_definition.Goals as goal

pub returns-in_default : goal.returns-in_default
returns-in_default c =
    let place = c.place_of-place.ensures in
    head_unread (group_clause c.requires.group_at c.requires.group_nonzero) (rw place at c.clause_head.ensures) c.in_default.is

pub put_branches-requires-clause-group_bound : goal.put_branches-requires-clause-group_bound
put_branches-requires-clause-group_bound c =
    let place = c.place_of-place.ensures in
    let arity = arity_small c.requires.group_at c.requires.group_nonzero (rw place at c.clause_head.ensures) c.in-Some.is in
    omega (arith, arity, c.requires.group_bound)

pub put_branches-requires-clause-group_in_bounds : goal.put_branches-requires-clause-group_in_bounds
put_branches-requires-clause-group_in_bounds c =
    let place = c.place_of-place.ensures in
    let size = definition_size c.requires.group_at c.requires.group_nonzero (rw place at c.clause_head.ensures) c.in-Some.is c.group_totals-totals.ensures c.requires.group_bound in
    let word = c.put_word-arity_at.ensures in
    let part = c.put_part-goal_at.ensures in
    omega (arith, size, c.requires.group_in_bounds, word.place, put_length word, part.place, put_length part)

pub returns : goal.returns
returns c =
    let place = c.place_of-place.ensures in
    definition_put c.requires.group_at c.requires.group_nonzero (rw place at c.clause_head.ensures) c.in-Some.is c.group_totals-totals.ensures c.requires.group_bound c.put_word-arity_at.ensures c.put_part-goal_at.ensures c.put_branches.ensures
