use mathlib.Core.Path.{refl}
use native.Mathlib.Omega.{arith}
use Rattle.reader.specs.Emit.TurnsLaws.{turns_reopened_none, turns_reopened}
use Rattle.reader.proofs.emit.reopened.Goals as goal

pub returns-then-e-eq0 : goal.returns-then-e-eq0
returns-then-e-eq0 c = λ out counts. turns_reopened_none out c.if-e-eq0.true refl

pub returns : goal.returns
returns c = λ out counts. turns_reopened out (omega (arith, c.if-e-eq0.false)) refl
