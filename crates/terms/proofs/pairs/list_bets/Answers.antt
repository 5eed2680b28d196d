use mathlib.Core.Path.{refl}
use native.Mathlib.Omega.{arith}
use Rattle.terms.specs.Values.ListingLaws.{bets_start, bets_end, bets_here, bets_room, bets_next}
use borrow.Author.Rules.{rules}
use Rattle.terms.proofs.pairs.list_bets.Goals as goal

pub loop-init : goal.loop-init
loop-init c = (λ p. bets_start p (omega arith), refl)

pub list_bet-k-requires : goal.list_bet-k-requires
list_bet-k-requires c = let u = c.loop.invariant.0 c.requires.ruled_bets in record { bet_at = bets_here u (omega arith); at_in_bounds = bets_room u (omega arith) (omega arith) }

pub loop-preserved : goal.loop-preserved
loop-preserved c = (λ p. let u = c.loop.invariant.0 p in bets_next u (omega arith) (omega arith) (c.list_bet-k.ensures (bets_here u (omega arith))) c.bet_end.ensures c.position-pos.ensures (omega arith), search rules)

pub returns : goal.returns
returns c = λ p. bets_end (c.loop.invariant.0 p) p.row.formed p.rules (omega arith)
