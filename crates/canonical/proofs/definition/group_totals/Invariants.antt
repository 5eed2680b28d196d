-- `group_totals`: what is summed and what is left come to the whole.
use Rattle.canonical.specs.Writing.DefinitionLaws.{Summing}
use Rattle.canonical.proofs.definition.group_totals.Given as goal

abbrev pub invariant-loop-entry : goal.invariant-loop-entry
invariant-loop-entry l = Summing l.s l.group l.locals l.size l.entry-index
