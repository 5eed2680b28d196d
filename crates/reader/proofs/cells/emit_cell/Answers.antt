use mathlib.Core.Path.{refl}
use Rattle.reader.specs.Emit.TurnsLaws.{turns_as, turns_and, turns_equal}
use Rattle.reader.specs.Emit.CellLaws.{constant_cell, functor_cell, truth_cell, failure_cell, head_cell, head_functor_cell}
use Rattle.reader.proofs.cells.emit_cell.Goals as goal

pub returns-in-Variable : goal.returns-in-Variable
returns-in-Variable c = rw c.in-Variable.is (c.emit_variable.ensures 0 _ _)

pub returns-in-Constant : goal.returns-in-Constant
returns-in-Constant c = rw c.in-Constant.is (turns_as (constant_cell _ 0) (c.emit_symbol.ensures.2 0 refl _ _))

pub returns-in-Functor : goal.returns-in-Functor
returns-in-Functor c = rw c.in-Functor.is (turns_as (functor_cell _ 0) (c.emit_functor.ensures _))

pub returns-in-GoalVariable : goal.returns-in-GoalVariable
returns-in-GoalVariable c = rw c.in-GoalVariable.is (c.goal_variable.ensures 0 _ _)

pub returns-in-GoalConstant : goal.returns-in-GoalConstant
returns-in-GoalConstant c = rw c.in-GoalConstant.is (c.goal_constant.ensures 0 _ _)

pub returns-in-GoalFunctor : goal.returns-in-GoalFunctor
returns-in-GoalFunctor c = rw c.in-GoalFunctor.is (c.goal_functor.ensures 0 _)

pub returns-in-Truth : goal.returns-in-Truth
returns-in-Truth c = rw c.in-Truth.is (turns_as (truth_cell 0 0) (c.goal_plain.ensures _ _))

pub returns-in-Failure : goal.returns-in-Failure
returns-in-Failure c = rw c.in-Failure.is (turns_as (failure_cell 0 0) (c.goal_plain-in-Failure.ensures _ _))

pub returns-in-Head : goal.returns-in-Head
returns-in-Head c = rw c.in-Head.is (turns_as (head_cell _ 0) (c.emit_head.ensures.2 0 refl _ _))

pub returns-in-HeadFunctor : goal.returns-in-HeadFunctor
returns-in-HeadFunctor c = rw c.in-HeadFunctor.is (turns_as (head_functor_cell _ 0) (c.head_functor.ensures _))

pub returns-in-Shut : goal.returns-in-Shut
returns-in-Shut c = rw c.in-Shut.is (c.shut.ensures 0 0 _ _)

pub returns-in-Next : goal.returns-in-Next
returns-in-Next c = rw c.in-Next.is (c.next_argument.ensures 0 0 _ _)

pub returns-in-And : goal.returns-in-And
returns-in-And c = rw c.in-And.is (turns_and _ 0 0 c.conjunction.ensures)

pub returns-in-Or : goal.returns-in-Or
returns-in-Or c = rw c.in-Or.is (c.disjunction.ensures 0 0 _ _)

pub returns-in-Equal : goal.returns-in-Equal
returns-in-Equal c = rw c.in-Equal.is (turns_equal _ 0 0 c.equality.ensures)

pub returns-in-Open : goal.returns-in-Open
returns-in-Open c = rw c.in-Open.is (c.open_bracket.ensures 0 0 _)

pub returns-in-Close : goal.returns-in-Close
returns-in-Close c = rw c.in-Close.is (c.close_bracket.ensures 0 0 _ _)

pub returns-in-Neck : goal.returns-in-Neck
returns-in-Neck c = rw c.in-Neck.is (c.whole.ensures.1 _ _)

pub returns-in-Fact : goal.returns-in-Fact
returns-in-Fact c = rw c.in-Fact.is (c.end_fact.ensures 0 _ _)

pub returns-in-Rule : goal.returns-in-Rule
returns-in-Rule c = rw c.in-Rule.is (c.end_clause.ensures 0 _ _ _)
