use mathlib.Core.Path.{sym}
use native.Mathlib.Omega.{arith}
use lib.Seq.{length-take-le}
use Rattle.answers.specs.Writing.OpenLaws.{query_reads, begin_room, table_front, first_stands}
use borrow.Author.Rules.{rules}
use Rattle.answers.proofs.service.begin_answers.Goals as goal

pub put_begin-len-requires : goal.put_begin-len-requires
put_begin-len-requires c = let room = begin_room _ _ _ c.type_inv.query c.requires.0 c.requires.1 in
    record { accepted = rw (query_reads _ _ _ c.type_inv.query c.requires.0 c.requires.1) tt; query_in_bounds = omega (arith, room) }

pub list_variables-n-requires : goal.list_variables-n-requires
list_variables-n-requires c = let room = begin_room _ _ _ c.type_inv.query c.requires.0 c.requires.1 in
    record { accepted = rw (query_reads _ _ _ c.type_inv.query c.requires.0 c.requires.1) tt; query_len_bound = omega (arith, room) }

pub slice_bounds-table-end : goal.slice_bounds-table-end
slice_bounds-table-end c =
    (table_front _ _ _ c.type_inv.query c.requires.0 c.requires.1 (c.list_variables-n.ensures _ (query_reads _ _ _ c.type_inv.query c.requires.0 c.requires.1)) (search rules)).1

pub slice_bounds-walk-end : goal.slice_bounds-walk-end
slice_bounds-walk-end c = sym (length-take-le _ _ (table_front _ _ _ c.type_inv.query c.requires.0 c.requires.1 (c.list_variables-n.ensures _ (query_reads _ _ _ c.type_inv.query c.requires.0 c.requires.1)) (search rules)).1)

pub listed_answers-requires : goal.listed_answers-requires
listed_answers-requires c = let reads = query_reads _ _ _ c.type_inv.query c.requires.0 c.requires.1 in
    record { list_stands = (c.requires.0.program, c.requires.0.event, first_stands _ _ _ c.type_inv.query c.requires.0 c.requires.1 c.args.steps (c.put_begin-len.ensures _ reads) (search rules) (c.list_variables-n.ensures _ reads) (search rules)); here_len = search rules }

pub returns : goal.returns
returns c =
    λ t e.
    let reads = query_reads _ _ _ c.type_inv.query t e in
    c.listed_answers.ensures t.program t.event (first_stands _ _ _ c.type_inv.query t e c.args.steps (c.put_begin-len.ensures _ reads) (search rules) (c.list_variables-n.ensures _ reads) (search rules))
