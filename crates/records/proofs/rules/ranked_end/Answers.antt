use Rattle.records.specs.Gate.Ranks.{ranked_end}
use Rattle.records.proofs.rules.ranked_end.Goals as goal

pub returns-in-Pairs : goal.returns-in-Pairs
unfolding ranked_end
returns-in-Pairs c = rw c.in-Pairs.is c.binding_end.ensures

pub returns-in-Definitions : goal.returns-in-Definitions
unfolding ranked_end
returns-in-Definitions c = rw c.in-Definitions.is c.definition_end.ensures
