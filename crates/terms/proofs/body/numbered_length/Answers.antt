-- `numbered_length` reads the table, or knows a variable's three bytes.
use native.Mathlib.Omega.{arith}
use Rattle.terms.specs.Body.ArgumentLaws.{table_room, argument_ends, numbered_behind}
use Rattle.terms.proofs.body.numbered_length.Goals as goal

pub overflow_sub-k : goal.overflow_sub-k
overflow_sub-k c = omega (arith, table_room c.requires)

pub argument-range-requires : goal.argument-range-requires
argument-range-requires c = omega (arith, table_room c.requires)

pub overflow_sub-result : goal.overflow_sub-result
overflow_sub-result c = omega (arith, argument_ends c.requires 0 _ c.if-v-k.true c.argument-range.ensures)

pub returns-then-v-k : goal.returns-then-v-k
returns-then-v-k c = λ t m. omega (arith, argument_ends t m _ c.if-v-k.true c.argument-range.ensures)

pub returns : goal.returns
returns c = λ t m. rw (numbered_behind t m _ c.if-v-k.false)
