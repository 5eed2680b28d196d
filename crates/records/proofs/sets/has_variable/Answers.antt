use borrow.Author.Rules.{rules}
use Rattle.records.specs.Gate.Sets.{has_variable}
use Rattle.records.proofs.sets.has_variable.Goals as goal

pub returns : goal.returns
unfolding has_variable
returns c = search rules
