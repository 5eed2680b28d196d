-- `put_canonical`: the record's count is the number of its clauses, and the tables have room for them.
use native.Mathlib.Omega.{arith}
use mathlib.Core.Path.{sym, ◌∙◌}
use Rattle.canonical.specs.Sorting.RemainingLaws.{clauses_few, count_read, count_unread, front_length}
use Rattle.canonical.proofs.service.put_canonical.Goals as goal

pub returns-in_default : goal.returns-in_default
returns-in_default c = count_unread _ c.type_inv.s c.requires.accepted c.word_at.ensures c.in_default.is

pub slice_bounds-put_sorted-end : goal.slice_bounds-put_sorted-end
slice_bounds-put_sorted-end c = omega (arith, count_read _ c.type_inv.s c.requires.accepted c.word_at.ensures c.in-Some.is, clauses_few _ c.type_inv.s c.requires.accepted, c.requires.in_bounds)

pub slice_bounds-put_sorted-end-2 : goal.slice_bounds-put_sorted-end-2
slice_bounds-put_sorted-end-2 c =
    let n = count_read _ c.type_inv.s c.requires.accepted c.word_at.ensures c.in-Some.is in
    sym (front_length c.in-Some.n c.args.table.now (omega (arith, n, clauses_few _ c.type_inv.s c.requires.accepted, c.requires.in_bounds)))

pub slice_bounds-put_sorted-end-3 : goal.slice_bounds-put_sorted-end-3
slice_bounds-put_sorted-end-3 c = omega (arith, count_read _ c.type_inv.s c.requires.accepted c.word_at.ensures c.in-Some.is, clauses_few _ c.type_inv.s c.requires.accepted, c.requires.in_bounds_2)

pub slice_bounds-put_sorted-end-4 : goal.slice_bounds-put_sorted-end-4
slice_bounds-put_sorted-end-4 c =
    let n = count_read _ c.type_inv.s c.requires.accepted c.word_at.ensures c.in-Some.is in
    sym (front_length c.in-Some.n c.args.sorted.now (omega (arith, n, clauses_few _ c.type_inv.s c.requires.accepted, c.requires.in_bounds_2)))

pub put_sorted-requires-clause-table_len : goal.put_sorted-requires-clause-table_len
put_sorted-requires-clause-table_len c =
    let n = count_read _ c.type_inv.s c.requires.accepted c.word_at.ensures c.in-Some.is in
    front_length c.in-Some.n c.args.table.now (omega (arith, n, clauses_few _ c.type_inv.s c.requires.accepted, c.requires.in_bounds)) ∙ n

pub put_sorted-requires-clause-sorted_len : goal.put_sorted-requires-clause-sorted_len
put_sorted-requires-clause-sorted_len c =
    let n = count_read _ c.type_inv.s c.requires.accepted c.word_at.ensures c.in-Some.is in
    let few = clauses_few _ c.type_inv.s c.requires.accepted in
    front_length c.in-Some.n c.args.sorted.now (omega (arith, n, few, c.requires.in_bounds_2))
    ∙ sym (front_length c.in-Some.n c.args.table.now (omega (arith, n, few, c.requires.in_bounds)))
