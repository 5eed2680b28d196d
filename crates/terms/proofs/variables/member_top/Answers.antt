-- `member_top` reads an ancestor or a bet.
use Rattle.terms.specs.Body.TopLaws.{as_ancestor, as_bet, ancestor_member, bet_member}
use Rattle.terms.proofs.variables.member_top.Goals as goal

pub ancestor_top-requires : goal.ancestor_top-requires
ancestor_top-requires c = as_ancestor c.in-Ancestors.is c.requires

pub bet_top-requires : goal.bet_top-requires
bet_top-requires c = as_bet c.in-Bets.is c.requires

pub returns-in-Ancestors : goal.returns-in-Ancestors
returns-in-Ancestors c = ancestor_member c.in-Ancestors.is c.ancestor_top.ensures

pub returns-in-Bets : goal.returns-in-Bets
returns-in-Bets c = bet_member c.in-Bets.is c.bet_top.ensures
