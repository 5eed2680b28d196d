-- `clause_variables`: the clause's head says it.
use Rattle.canonical.specs.Sorting.EntryLaws.{head_read, head_unread}
use Rattle.canonical.proofs.definition.clause_variables.Goals as goal

pub returns-in-Some : goal.returns-in-Some
returns-in-Some c = (head_read c.requires c.clause_head.ensures c.in-Some.is).2

pub returns-in-None : goal.returns-in-None
returns-in-None c = head_unread c.requires c.clause_head.ensures c.in-None.is
