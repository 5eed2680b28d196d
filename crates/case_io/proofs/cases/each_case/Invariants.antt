use Rattle.std.proofs.Common.{◌≡◌, ℕ, ◌+◌}
use Rattle.case_io.specs.Cases.{RunFrom}
use Rattle.case_io.proofs.cases.each_case.Given as goal

-- what is still to be run leads to the whole
abbrev pub invariant-loop-ordinal : goal.invariant-loop-ordinal
invariant-loop-ordinal g l = (n : ℕ) → l.ordinal + n ≡ 10000 → RunFrom (λ i. g.F.Fn.post l.run (i, tt)) l.ordinal n → RunFrom (λ i. g.F.Fn.post l.run (i, tt)) 1 9999
