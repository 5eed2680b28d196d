use native.Mathlib.Omega.{arith}
use Rattle.records.proofs.HeadBytes.{short_term, variable_at, other_kind, short_symbol, symbol_at, large_arity}
use Rattle.std.proofs.Common.{⊎_elim}
use Rattle.records.proofs.heads.term_head.Goals as goal

pub returns-then-left-lt3 : goal.returns-then-left-lt3
returns-then-left-lt3 c = short_term _ _ (omega arith)

pub returns-then-b-eq-VARIABLE : goal.returns-then-b-eq-VARIABLE
returns-then-b-eq-VARIABLE c = variable_at _ _ _ (omega arith) (omega arith) (omega arith)

pub returns-then-b-ne-SYMBOL : goal.returns-then-b-ne-SYMBOL
returns-then-b-ne-SYMBOL c = ⊎_elim (λ h. other_kind _ _ (omega arith) (omega arith) h) (λ h. short_symbol _ _ (omega arith) h.0 (omega (arith, h.1))) c.then-b-ne-SYMBOL.either

pub returns-then-k-le-ARITY_LIMIT : goal.returns-then-k-le-ARITY_LIMIT
returns-then-k-le-ARITY_LIMIT c = symbol_at _ _ _ _ (omega arith) (omega arith) (omega arith) (omega arith) (omega arith)

pub returns-else-k-le-ARITY_LIMIT : goal.returns-else-k-le-ARITY_LIMIT
returns-else-k-le-ARITY_LIMIT c = large_arity _ _ (omega arith) (omega arith) (omega arith)
