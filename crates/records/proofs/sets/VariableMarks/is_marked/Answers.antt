use borrow.Author.Rules.{rules}
use Rattle.records.specs.Gate.Sets.{is_marked}
use Rattle.records.proofs.sets.VariableMarks.is_marked.Goals as goal

pub returns : goal.returns
unfolding is_marked
returns c = search rules
