-- The pairs of a bet stack as code hands them on: listed in a table, and linked.
use Rattle.std.specs.Prelude.{List, length}
use Rattle.records.specs.Format.Syntax.{Bet}
use Rattle.terms.specs.Values.Entries.{PairTable, PairsListed}
use Rattle.terms.specs.Values.Links.{PairsLinked}
use Rattle.terms.specs.declared.pairs.PairList.{PairList}

-- the whole table is of the pairs of a bet stack
abbrev pub Tabled : PairList → Type 0
Tabled p = PairTable p.event.now p.entries.now (length p.entries.now)

abbrev pub Linked : PairList → Type 0
Linked p = PairsLinked p.event.now p.entries.now (length p.entries.now) p.links.now

-- they are the pairs of these bets
pub record PairsOf (bets : List Bet) (p : PairList) : Type 0 where
  pub listed : PairsListed bets p.event.now p.entries.now (length p.entries.now)
  pub linked : Linked p
