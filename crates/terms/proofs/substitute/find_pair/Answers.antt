use Rattle.terms.specs.Values.EntryLaws.{find_none, find_number, find_found, find_next}
use Rattle.terms.specs.Values.LinksLaws.{searching_from}
use native.Mathlib.Omega.{arith}
use Rattle.terms.proofs.substitute.find_pair.Goals as goal

pub loop-k-init : goal.loop-k-init
loop-k-init c =
    let from = c.look_from-k.ensures in
    (from.within, λ p. searching_from p c.requires.pairs_linked from)

pub offset_bounds-pairs-k : goal.offset_bounds-pairs-k
offset_bounds-pairs-k c = omega (arith, c.loop-k.invariant.0, c.requires.i_in_bounds)

pub bounds-pairs-k : goal.bounds-pairs-k
bounds-pairs-k c = omega (arith, c.loop-k.invariant.0, c.requires.i_in_bounds)

pub returns-in_default : goal.returns-in_default
returns-in_default c = λ p. absurd (find_number p (c.loop-k.invariant.1 p) (omega arith) c.word_at.ensures c.in_default.is)

pub returns-then-x-v : goal.returns-then-x-v
returns-then-x-v c =
    λ p. find_found p (c.loop-k.invariant.1 p) (omega arith) c.word_at.ensures c.in-Some.is (omega arith)

pub loop-k-preserved : goal.loop-k-preserved
loop-k-preserved c =
    (omega (arith, c.loop-k.invariant.0), λ p. find_next p (c.loop-k.invariant.1 p) (omega arith) c.word_at.ensures c.in-Some.is (λ e. omega arith))

pub returns : goal.returns
returns c = λ p. find_none p (c.loop-k.invariant.1 p) (omega arith)
