use mathlib.Core.Path.{refl}
use native.Mathlib.Omega.{arith}
use Rattle.records.specs.Writing.PatchedLaws.{put_length}
use Rattle.answers.specs.Writing.SolvedLaws.{solution_length, used_fits, pairs_fit_at, parts_put}
use borrow.Author.Rules.{rules}
use Rattle.answers.proofs.answer.write_answer.Goals as goal

pub put_value_pairs-count_at-requires : goal.put_value_pairs-count_at-requires
put_value_pairs-count_at-requires c = record { pairs_of = (c.requires.pairs_of.0.row.items, c.requires.pairs_of.1, pairs_fit_at c.requires.pairs_of.2 c.put_word-pairs_at.ensures refl); all = c.requires.all; value_len = search rules }

pub put_word-used_at-requires : goal.put_word-used_at-requires
put_word-used_at-requires c =
    let f = c.requires.pairs_of.2 in
    let count = c.put_word-pairs_at.ensures in
    let pairs = c.put_value_pairs-count_at.ensures c.requires.pairs_of.0.row.items c.requires.pairs_of.1 (pairs_fit_at f count refl) in
    omega (arith, f.room_left, solution_length c.args.variables.now c.requires.pairs_of.0.row.items, count.place, put_length count, pairs.place, put_length pairs)

pub overflow_add-end : goal.overflow_add-end
overflow_add-end c =
    let f = c.requires.pairs_of.2 in
    let count = c.put_word-pairs_at.ensures in
    let pairs = c.put_value_pairs-count_at.ensures c.requires.pairs_of.0.row.items c.requires.pairs_of.1 (pairs_fit_at f count refl) in
    omega (arith, (used_fits f).1, f.room_left, solution_length c.args.variables.now c.requires.pairs_of.0.row.items, count.place, pairs.place, c.put_word-used_at.ensures.place)

pub put_used-requires : goal.put_used-requires
put_used-requires c = let f = c.requires.pairs_of.2 in
    let count = c.put_word-pairs_at.ensures in
    let pairs = c.put_value_pairs-count_at.ensures c.requires.pairs_of.0.row.items c.requires.pairs_of.1 (pairs_fit_at f count refl) in
    let second = c.put_word-used_at.ensures in
    let size = (used_fits f).1 in
    record { b_len_bound = (c.requires.pairs_of.0.row, omega (arith, size)); to_in_bounds = omega (arith, size, f.room_left, solution_length c.args.variables.now c.requires.pairs_of.0.row.items, count.place, put_length count, pairs.place, put_length pairs, second.place, put_length second) }

pub returns : goal.returns
returns c =
    λ p l f.
    let count = c.put_word-pairs_at.ensures in
    let size = (used_fits f).1 in
    parts_put f count (c.put_value_pairs-count_at.ensures p.row.items l (pairs_fit_at f count refl)) c.put_word-used_at.ensures refl (c.put_used.ensures p.row (omega (arith, size)))
