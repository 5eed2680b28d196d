use Rattle.records.specs.Ends.ItemEnds.{item_end}
use Rattle.records.proofs.ends.item_end.Goals as goal

pub returns-in-Ancestor : goal.returns-in-Ancestor
unfolding item_end
returns-in-Ancestor c = rw c.in-Ancestor.is c.ancestor_end.ensures

pub returns-in-Bet : goal.returns-in-Bet
unfolding item_end
returns-in-Bet c = rw c.in-Bet.is c.bet_end.ensures

pub returns-in-Definition : goal.returns-in-Definition
unfolding item_end
returns-in-Definition c = rw c.in-Definition.is c.definition_end.ensures

pub returns-in-Clause : goal.returns-in-Clause
unfolding item_end
returns-in-Clause c = rw c.in-Clause.is c.clause_end.ensures
