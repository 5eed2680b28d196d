use Rattle.reader.specs.Emit.TurnsLaws.{turns_as, turns_bytes, turns_then}
use Rattle.reader.specs.Emit.CellLaws.{fact_cell}
use Rattle.reader.proofs.emit.end_fact.Goals as goal

pub end_clause-requires : goal.end_clause-requires
end_clause-requires c = rw c.placed.ensures c.requires.clauses_bound

pub returns : goal.returns
returns c = λ a counts brackets. turns_as (fact_cell a _) (turns_then (turns_bytes counts brackets c.push-next.ensures c.placed.ensures) (c.end_clause.ensures a _ counts brackets))
