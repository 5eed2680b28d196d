use native.Mathlib.Omega.{arith}
use Rattle.records.specs.Ends.Range.{size}
use Rattle.records.specs.Ends.RangeLaws.{length_cut}
use Rattle.terms.specs.Values.FittedLaws.{fitted_fits, fitted_large}
use mathlib.Core.Path.{refl}
use Rattle.terms.proofs.substitute.put_piece.Goals as goal

pub returns-then-out-range : goal.returns-then-out-range
unfolding size
returns-then-out-range c = fitted_large (omega (arith, length_cut c.requires)) refl

pub returns : goal.returns
unfolding size
returns c = fitted_fits c.put_range.ensures (omega (arith, length_cut c.requires))
