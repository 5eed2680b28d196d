-- `put_branches`: the branches before i are written, and the next one is numbered from `base` on.
use Rattle.records.specs.Format.Encode.{goal_bytes}
use Rattle.canonical.specs.Sorting.Entries.{clauses_in}
use Rattle.canonical.specs.Writing.Definition.{joined_branches}
use Rattle.canonical.specs.Writing.DefinitionLaws.{Branching}
use Rattle.canonical.proofs.definition.put_branches.Given as goal

abbrev pub invariant-loop-entry : goal.invariant-loop-entry
invariant-loop-entry l = Branching l.s l.group (goal_bytes (joined_branches l.arity (clauses_in l.s l.group))) l.initial.out l.first l.out l.at l.base l.entry-index
