use Rattle.std.specs.Prelude.{Some}
use mathlib.Core.Path.{ap, sym, ◌∙◌}
use native.Mathlib.Omega.{arith}
use Rattle.records.specs.Ends.HeadRoomLaws.{term_room}
use Rattle.records.specs.declared.heads.TermHead.TheVariants.{Variable, Symbol}
use Rattle.records.proofs.EndSteps.{variable_end, symbol_end, no_end, no_args, args_on, args_ahead, args_done, one_less}
use Rattle.records.proofs.ends.+args_end_term_end.Goals as goal

pub term_end-returns-in_err-term_head : goal.term_end-returns-in_err-term_head
term_end-returns-in_err-term_head t c = c.from_residual.ensures ∙ no_end _ _ c.term_head.ensures c.in_err-term_head.was

pub term_end-overflow_add-result : goal.term_end-overflow_add-result
term_end-overflow_add-result t c = omega (arith, term_room _ _ c.type_inv.s c.term_head.ensures (Some (Variable _)) (c.in_ok-term_head.was ∙ ap Some c.in-Variable.is))

pub term_end-overflow_add-at : goal.term_end-overflow_add-at
term_end-overflow_add-at t c = omega (arith, term_room _ _ c.type_inv.s c.term_head.ensures (Some (Symbol _ _)) (c.in_ok-term_head.was ∙ ap Some c.in-Symbol.is))

pub term_end-args_end-requires : goal.term_end-args_end-requires
term_end-args_end-requires t c = (omega (arith, term_room _ _ c.type_inv.s c.term_head.ensures (Some (Symbol _ _)) (c.in_ok-term_head.was ∙ ap Some c.in-Symbol.is)), tt)

pub term_end-returns-in-Variable : goal.term_end-returns-in-Variable
term_end-returns-in-Variable t c = variable_end _ _ c.term_head.ensures (c.in_ok-term_head.was ∙ ap Some c.in-Variable.is)

pub term_end-returns-in-Symbol : goal.term_end-returns-in-Symbol
term_end-returns-in-Symbol t c = symbol_end _ _ c.term_head.ensures (c.in_ok-term_head.was ∙ ap Some c.in-Symbol.is) c.args_end.ensures

pub term_end-overflow_add-result-in-Symbol-default-eq0 : goal.term_end-overflow_add-result-in-Symbol-default-eq0
term_end-overflow_add-result-in-Symbol-default-eq0 t c = omega (arith, term_room _ _ c.type_inv.s c.term_head.ensures (Some (Symbol _ _)) (c.in_ok-term_head.was ∙ ap Some c.in-Symbol-default-eq0.is))

pub term_end-returns-in-Symbol-default-eq0 : goal.term_end-returns-in-Symbol-default-eq0
term_end-returns-in-Symbol-default-eq0 t c = symbol_end _ _ c.term_head.ensures (c.in_ok-term_head.was ∙ ap Some c.in-Symbol-default-eq0.is) (no_args _ _ _ (omega arith))

pub args_end-loop-preserved : goal.args_end-loop-preserved
args_end-loop-preserved t c =
    let h = rw c.in_ok-end.was at c.loop.invariant in
    (rw one_less (h.0 ∙ args_on _ _ c.type_inv.s c.term_end-end.ensures _ (omega arith)), args_ahead _ _ c.type_inv.s c.term_end-end.ensures h.1)

pub args_end-returns : goal.args_end-returns
args_end-returns t c = sym (c.loop.invariant.0 ∙ args_done _ _ _ (omega arith))
