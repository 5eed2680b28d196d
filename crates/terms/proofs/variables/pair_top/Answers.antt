-- `pair_top` walks over the term behind the variable.
use Rattle.std.specs.Prelude.{Some}
use Rattle.records.specs.Ends.HeadRoomLaws.{word_room}
use Rattle.terms.specs.Body.TopLaws.{pair_on, pair_tops, pair_never}
use native.Mathlib.Omega.{arith}
use Rattle.terms.proofs.variables.pair_top.Goals as goal

pub returns-in_default : goal.returns-in_default
returns-in_default c = λ p. pair_never p c.word_at.ensures c.in_default.is

pub overflow_add-at : goal.overflow_add-at
overflow_add-at c = omega (arith, (word_room _ _ c.type_inv.event c.word_at.ensures (Some _) c.in-Some.is).0)

pub variables_top-t-requires : goal.variables_top-t-requires
variables_top-t-requires c = rw c.term.ensures (pair_on c.requires)

pub overflow_add-v : goal.overflow_add-v
overflow_add-v c = omega (arith, (word_room _ _ c.type_inv.event c.word_at.ensures (Some _) c.in-Some.is).1)

pub returns : goal.returns
returns c = λ p. pair_tops p c.word_at.ensures c.in-Some.is (rw c.term.ensures at c.variables_top-t.ensures) c.max.ensures
