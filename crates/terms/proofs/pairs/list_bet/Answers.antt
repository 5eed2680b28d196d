-- `list_bet`: the pairs of a bet stand behind its kind and its count.
use native.Mathlib.Omega.{arith}
use Rattle.terms.specs.Standing.BetRowLaws.{pairs_of}
use Rattle.terms.specs.Values.ListingLaws.{filled_no_pairs, filled_pairs}
use Rattle.terms.proofs.pairs.list_bet.Goals as goal

pub returns-then-n-eq0 : goal.returns-then-n-eq0
returns-then-n-eq0 c = λ p. filled_no_pairs p c.pairs_at-n.ensures (omega arith)

pub overflow_add-at : goal.overflow_add-at
overflow_add-at c = let p = c.requires.bet_at in omega (arith, (pairs_of p c.pairs_at-n.ensures (λ z. omega arith)).room)

pub list_pairs-requires : goal.list_pairs-requires
list_pairs-requires c = let p = c.requires.bet_at in record { pairs_at = (pairs_of p c.pairs_at-n.ensures (λ z. omega arith)).pairs; n_in_bounds = omega arith }

pub returns : goal.returns
returns c = λ p. filled_pairs p c.pairs_at-n.ensures (λ z. omega arith) (c.list_pairs.ensures (pairs_of p c.pairs_at-n.ensures (λ z. omega arith)).pairs)
