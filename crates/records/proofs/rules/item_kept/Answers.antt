use Rattle.records.specs.Format.Items.{read_ancestor}
use Rattle.records.specs.Ends.ItemEnds.{item_end}
use Rattle.records.specs.Gate.Rows.{item_kept}
use Rattle.records.specs.Gate.RowsLaws.{no_rules}
use Rattle.records.proofs.rules.item_kept.Goals as goal

pub bet_kept-requires : goal.bet_kept-requires
unfolding item_end
bet_kept-requires c = rw c.in-Bet.is at c.requires

pub definition_kept-requires : goal.definition_kept-requires
unfolding item_end
definition_kept-requires c = rw c.in-Definition.is at c.requires

pub clause_kept-requires : goal.clause_kept-requires
unfolding item_end
clause_kept-requires c = rw c.in-Clause.is at c.requires

pub returns-in-Ancestor : goal.returns-in-Ancestor
unfolding item_kept
returns-in-Ancestor c = rw c.in-Ancestor.is (no_rules read_ancestor _ _)

pub returns-in-Bet : goal.returns-in-Bet
unfolding item_kept
returns-in-Bet c = rw c.in-Bet.is c.bet_kept.ensures

pub returns-in-Definition : goal.returns-in-Definition
unfolding item_kept
returns-in-Definition c = rw c.in-Definition.is c.definition_kept.ensures

pub returns-in-Clause : goal.returns-in-Clause
unfolding item_kept
returns-in-Clause c = rw c.in-Clause.is c.clause_kept.ensures
