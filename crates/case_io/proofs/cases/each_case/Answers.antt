use Rattle.std.proofs.Common.{◌≡◌, ℕ, zero, suc, ◌-◌, false, not, sym, ◌∙◌}
use Rattle.std.proofs.lemmas.Bool.{not_from_false}
use native.Mathlib.Omega.{arith}
use Rattle.case_io.specs.Cases.{RunFrom, run_ends, run_more, run_none}
use Rattle.case_io.proofs.cases.each_case.Goals as goal

pub loop-ordinal-init : goal.loop-ordinal-init
loop-ordinal-init g c = λ n e r. let same : n ≡ 9999 = omega (arith, e) in rw (sym same) r

pub returns-then-is_none : goal.returns-then-is_none
returns-then-is_none g c = let n : ℕ = 9999 - c.loop-ordinal.ordinal in c.loop-ordinal.invariant (suc n) (omega arith)
    (run_ends _ _ n c.if-is_none.ensures c.run.ensures)

pub loop-ordinal-preserved : goal.loop-ordinal-preserved
loop-ordinal-preserved g c = λ n e r. c.loop-ordinal.invariant (suc n) (omega (arith, e))
    (run_more _ _ n (c.is_none.ensures ∙ not_from_false _ c.if-is_none.false) c.run.ensures r)

pub returns : goal.returns
returns g c = c.loop-ordinal.invariant zero (omega arith) (run_none _ _)
