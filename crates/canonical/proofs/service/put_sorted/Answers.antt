-- `put_sorted`: the clauses' entries, listed and then sorted, have the whole program to make.
use Rattle.canonical.specs.Sorting.RemainingLaws.{clauses_stand, ordered_remaining}
use Rattle.canonical.proofs.service.put_sorted.Goals as goal

pub list_clauses-requires : goal.list_clauses-requires
list_clauses-requires c = clauses_stand _ c.type_inv.s c.requires.accepted _ c.requires.table_len

pub put_program-requires-clause-remaining : goal.put_program-requires-clause-remaining
put_program-requires-clause-remaining c = ordered_remaining c.type_inv.s c.requires.accepted (c.list_clauses.ensures (clauses_stand _ c.type_inv.s c.requires.accepted _ c.requires.table_len)) (λ d b. c.sort.ensures)
