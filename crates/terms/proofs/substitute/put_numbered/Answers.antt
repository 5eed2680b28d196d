-- `put_numbered` writes an argument or a new variable, or says that it does not fit.
use native.Mathlib.Omega.{arith}
use Rattle.terms.specs.Body.ArgumentLaws.{table_room, argument_inside, argument_cut, numbered_behind}
use Rattle.terms.proofs.substitute.put_numbered.Goals as goal

pub overflow_sub-k : goal.overflow_sub-k
overflow_sub-k c = omega (arith, table_room c.requires.arguments_of.listed)

pub argument-range-requires : goal.argument-range-requires
argument-range-requires c = omega (arith, table_room c.requires.arguments_of.listed)

pub put_piece-requires : goal.put_piece-requires
put_piece-requires c = argument_inside c.requires.arguments_of 0 _ c.if-v-k.true c.argument-range.ensures

pub returns-then-v-k : goal.returns-then-v-k
returns-then-v-k c = λ a. rw (← (argument_cut a c.args.by.next _ c.if-v-k.true c.argument-range.ensures)) c.put_piece.ensures

pub overflow_add-by : goal.overflow_add-by
overflow_add-by c = omega (arith, c.requires.next_bound)

pub returns : goal.returns
returns c = λ a. rw (numbered_behind a.listed _ _ c.if-v-k.false) c.put_itself.ensures
