use native.Mathlib.Omega.{arith}
use Rattle.canonical.specs.Sorting.EntryLaws.{head_unread, end_unread, storing_clause, storing_bound, storing_next, storing_end}
use Rattle.canonical.proofs.order.list_clauses.Goals as goal

pub returns-in_default : goal.returns-in_default
returns-in_default c = λ a. head_unread (storing_clause (c.loop-entry.invariant a) (omega arith)) c.clause_head.ensures c.in_default.is

pub returns-in_default-clause_end : goal.returns-in_default-clause_end
returns-in_default-clause_end c = λ a. end_unread (storing_clause (c.loop-entry.invariant a) (omega arith)) c.clause_end.ensures c.in_default-clause_end.is

pub overflow_mul-entry : goal.overflow_mul-entry
overflow_mul-entry c =
    let bound = storing_bound (c.loop-entry.invariant c.requires) (omega arith) c.clause_head.ensures c.in-Some.is in
    omega (arith, bound.0, bound.1, bound.2)

pub overflow_add-entry : goal.overflow_add-entry
overflow_add-entry c =
    let bound = storing_bound (c.loop-entry.invariant c.requires) (omega arith) c.clause_head.ensures c.in-Some.is in
    omega (arith, bound.0, bound.1, bound.2)

pub overflow_mul-entry-in-loop-entry : goal.overflow_mul-entry-in-loop-entry
overflow_mul-entry-in-loop-entry c =
    let bound = storing_bound (c.loop-entry.invariant c.requires) (omega arith) c.clause_head.ensures c.in-Some.is in
    omega (arith, bound.0, bound.1, bound.2)

pub overflow_add-entry-in-loop-entry : goal.overflow_add-entry-in-loop-entry
overflow_add-entry-in-loop-entry c =
    let bound = storing_bound (c.loop-entry.invariant c.requires) (omega arith) c.clause_head.ensures c.in-Some.is in
    omega (arith, bound.0, bound.1, bound.2)

pub loop-entry-preserved : goal.loop-entry-preserved
loop-entry-preserved c = λ a. storing_next (c.loop-entry.invariant a) (omega arith) c.clause_head.ensures c.in-Some.is c.clause_end.ensures c.in-Some-clause_end.is

pub returns : goal.returns
returns c = λ a. storing_end (c.loop-entry.invariant a) (omega arith)
