use mathlib.Core.Path.{refl}
use native.Mathlib.Omega.{arith}
use Rattle.terms.specs.Values.ListingLaws.{pairs_start, pairs_end, pairs_room, pairs_next}
use borrow.Author.Rules.{rules}
use Rattle.terms.proofs.pairs.list_pairs.Goals as goal

pub loop-k-init : goal.loop-k-init
loop-k-init c = (λ p. pairs_start p refl, refl)

pub overflow_add-place : goal.overflow_add-place
overflow_add-place c = omega (arith, pairs_room (c.loop-k.invariant.0 c.requires.pairs_at) c.loop-k-test.true)

pub loop-k-preserved : goal.loop-k-preserved
loop-k-preserved c = (λ p. pairs_next (c.loop-k.invariant.0 p) c.loop-k-test.true (omega arith) c.term_end.ensures c.position-place.ensures, search rules)

pub returns : goal.returns
returns c = λ p. pairs_end (c.loop-k.invariant.0 p) c.loop-k-test.false
