-- `clause_size`: the clause's head and its end say how long its branch is.
use native.Mathlib.Omega.{arith}
use Rattle.canonical.specs.Sorting.EntryLaws.{clause_small, clause_within, head_read, head_unread, end_read, end_unread}
use Rattle.canonical.proofs.definition.clause_size.Goals as goal

pub returns-in_default : goal.returns-in_default
returns-in_default c = head_unread c.requires c.clause_head.ensures c.in_default.is

pub returns-in_default-clause_end : goal.returns-in_default-clause_end
returns-in_default-clause_end c = end_unread c.requires c.clause_end.ensures c.in_default-clause_end.is

pub overflow_mul-result : goal.overflow_mul-result
overflow_mul-result c = omega (arith, (head_read c.requires c.clause_head.ensures c.in-Some.is).1, (clause_small c.requires).1)

pub overflow_sub-result : goal.overflow_sub-result
overflow_sub-result c = omega (arith, end_read c.requires c.clause_end.ensures c.in-Some-clause_end.is, (clause_within c.requires).0)

pub overflow_sub-result-2 : goal.overflow_sub-result-2
overflow_sub-result-2 c = omega (arith, end_read c.requires c.clause_end.ensures c.in-Some-clause_end.is, (clause_within c.requires).0)

pub overflow_add-result : goal.overflow_add-result
overflow_add-result c = omega (arith, (head_read c.requires c.clause_head.ensures c.in-Some.is).1, (clause_small c.requires).1, end_read c.requires c.clause_end.ensures c.in-Some-clause_end.is, (clause_within c.requires).1)

pub returns : goal.returns
returns c = omega (arith, (head_read c.requires c.clause_head.ensures c.in-Some.is).1, end_read c.requires c.clause_end.ensures c.in-Some-clause_end.is, (clause_within c.requires).2)
