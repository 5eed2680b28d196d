use native.Mathlib.Omega.{arith}
use Rattle.reader.specs.Emit.TurnsLaws.{turns_first, turns_next, turns_many}
use Rattle.reader.proofs.emit.next_argument.Goals as goal

pub returns-then-terms-eq0 : goal.returns-then-terms-eq0
returns-then-terms-eq0 c = λ a x out brackets. turns_first out a x c.if-terms-eq0.true (c.shut.ensures a x out brackets)

pub returns-then-count-lt-MANY : goal.returns-then-count-lt-MANY
returns-then-count-lt-MANY c = λ a x out brackets. turns_next out a x (omega (arith, c.if-terms-eq0.false)) (omega (arith, c.requires)) (omega (arith, c.if-count-lt-MANY.true))

pub returns-else-count-lt-MANY : goal.returns-else-count-lt-MANY
returns-else-count-lt-MANY c = λ a x out brackets. turns_many out a x (omega (arith, c.if-terms-eq0.false)) (omega (arith, c.requires)) (omega (arith, c.if-count-lt-MANY.false))
