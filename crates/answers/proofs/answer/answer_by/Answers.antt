-- `answer_by` measures, refuses, and then writes.
use mathlib.Core.Path.{sym, ◌∙◌, ap}
use native.Mathlib.Omega.{arith}
use lib.ListN.{length}
use Rattle.std.proofs.lemmas.Result.{err_from_is_err_and}
use Rattle.records.specs.Gate.OutcomeLaws.{chosen_some, chosen_none}
use Rattle.answers.specs.Writing.SolvedLaws.{measured_small, solution_large, solution_long, solution_put, solution_fits}
use Rattle.answers.specs.Writing.UsedLaws.{used_short}
use borrow.Author.Rules.{rules}
use Rattle.answers.proofs.answer.answer_by.Goals as goal

pub values_length-requires : goal.values_length-requires
values_length-requires c = record { pairs_of = (_, c.requires.pairs_of.1); all = c.requires.all; variables_len_bound = omega (arith, c.requires.variables_len_bound); value_len = c.requires.event_len_bound.1 }

pub returns-in_err-size : goal.returns-in_err-size
returns-in_err-size c = λ p l.
    let r = err_from_is_err_and c.from_residual.result c.from_residual.ensures.1 in
    let none = chosen_none _ c.ok_or.ensures.value c.in_err-size.was in
    rw (r.1, r.2, ← none.1) (solution_large c.args.variables.now p.row.items (sym (c.values_length.ensures _ l) ∙ none.0))

pub used_size-used-requires : goal.used_size-used-requires
used_size-used-requires c = record { bets_at = c.requires.pairs_of.0.row; event_len_bound = c.requires.event_len_bound.0 }

pub overflow_add-size : goal.overflow_add-size
overflow_add-size c =
    let told = sym (c.values_length.ensures _ c.requires.pairs_of.1) ∙ chosen_some _ c.ok_or.ensures.value c.in_ok-size.was in
    omega (arith, measured_small c.args.variables.now c.requires.pairs_of.0.row.items told c.requires.variables_len_bound)

pub overflow_add-size-2 : goal.overflow_add-size-2
overflow_add-size-2 c =
    let told = sym (c.values_length.ensures _ c.requires.pairs_of.1) ∙ chosen_some _ c.ok_or.ensures.value c.in_ok-size.was in
    let row = c.requires.pairs_of.0.row in
    let size = ap (λ u. u.length) (c.used_size-used.ensures row) in
    omega (arith, measured_small c.args.variables.now row.items told c.requires.variables_len_bound, size, used_short row, c.requires.event_len_bound.0)

pub returns-then-out-size : goal.returns-then-out-size
returns-then-out-size c =
    λ p l.
    let told = sym (c.values_length.ensures _ l) ∙ chosen_some _ c.ok_or.ensures.value c.in_ok-size.was in
    solution_long c.args.variables.now p.row.items told (c.used_size-used.ensures p.row) (omega arith)

pub write_answer-requires : goal.write_answer-requires
write_answer-requires c = let (p, listed) = c.requires.pairs_of in
    let told = sym (c.values_length.ensures _ listed) ∙ chosen_some _ c.ok_or.ensures.value c.in_ok-size.was in
    record { pairs_of = (p, listed, solution_fits c.args.variables.now p.row.items told (c.used_size-used.ensures p.row) (omega arith)); all = c.requires.all; value_len = search rules }

pub returns : goal.returns
returns c =
    λ p l.
    let told = sym (c.values_length.ensures _ l) ∙ chosen_some _ c.ok_or.ensures.value c.in_ok-size.was in
    let fits = solution_fits c.args.variables.now p.row.items {room = length c.args.out.now} told (c.used_size-used.ensures p.row) (omega arith) in
    solution_put c.args.variables.now p.row.items fits (c.write_answer.ensures p l fits)
