-- `put_itself` writes a variable, or says that it does not fit.
use native.Mathlib.Omega.{arith}
use mathlib.Core.Path.{refl}
use Rattle.terms.specs.Values.FittedLaws.{fitted_fits, fitted_large}
use Rattle.terms.proofs.substitute.put_itself.Goals as goal

pub returns-then-out-lt-VARIABLE_SIZE : goal.returns-then-out-lt-VARIABLE_SIZE
returns-then-out-lt-VARIABLE_SIZE c = fitted_large (omega arith) refl

pub returns : goal.returns
returns c = fitted_fits c.write_variable.ensures (omega arith)
