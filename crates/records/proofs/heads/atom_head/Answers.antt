use native.Mathlib.Omega.{arith}
use Rattle.records.proofs.HeadBytes.{short_atom, atom_at, large_atom}
use Rattle.records.proofs.heads.atom_head.Goals as goal

pub returns-then-s-at-lt3 : goal.returns-then-s-at-lt3
returns-then-s-at-lt3 c = short_atom _ _ (omega arith)

pub returns-then-k-le-ARITY_LIMIT : goal.returns-then-k-le-ARITY_LIMIT
returns-then-k-le-ARITY_LIMIT c = atom_at _ _ _ _ (omega arith) (omega arith) (omega arith) (omega arith)

pub returns-else-k-le-ARITY_LIMIT : goal.returns-else-k-le-ARITY_LIMIT
returns-else-k-le-ARITY_LIMIT c = large_atom _ _ (omega arith) (omega arith)
