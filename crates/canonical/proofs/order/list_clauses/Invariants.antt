use lib.ListN.{length}
use Rattle.canonical.specs.Sorting.Entries.{ClausesAt, clause_entries}
use Rattle.canonical.specs.Sorting.EntryLaws.{Storing}
use Rattle.canonical.proofs.order.list_clauses.Given as goal

abbrev pub invariant-loop-entry : goal.invariant-loop-entry
invariant-loop-entry l = (a : ClausesAt l.s (length l.initial.table)) → Storing l.s (length l.initial.table) (clause_entries 5 a.clauses) l.table l.pos l.entry-index
