use mathlib.Core.Path.{refl}
use native.Mathlib.Omega.{arith}
use Rattle.terms.specs.Body.ArgumentLaws.{arguments_start, listing_next, listing_end}
use borrow.Author.Rules.{rules}
use Rattle.terms.proofs.arguments.list_arguments.Goals as goal

pub loop-i-init : goal.loop-i-init
loop-i-init c = (λ a. arguments_start a, refl)

pub loop-i-preserved : goal.loop-i-preserved
loop-i-preserved c = (λ a. listing_next (c.loop-i.invariant.0 a) (omega (arith, c.requires.arity_in_bounds, c.loop-i.invariant.1)) c.loop-i-test.true c.term_end.ensures c.position-pos.ensures, search rules)

pub returns : goal.returns
returns c = λ a. listing_end (c.loop-i.invariant.0 a) (omega (arith, c.requires.arity_in_bounds, c.loop-i.invariant.1)) c.loop-i-test.false
