-- From clauses to the program that the calculus works on (SPECIFICATION 2). What clauses become is `Form.Canonical`, with its bench line in `Form.Bench`;
-- what is promised of the service on bytes is `Demand`, one page; the definition that the service's contract cites is `Writing.Service`. The laws of `Form`
-- say that a canonical form is a well-formed program, that its definitions rise, and that the definition found for a predicate is made from its own clauses
-- alone. `Sorting` and `Writing` are about the code: the clauses' entries, sorted, are groups of one predicate each; a group is measured, and written.
pub mod Form
pub mod Sorting
pub mod Writing
pub mod Demand
