-- `fourport_greatest` hands on what `greatest_part` answers; a variable fits four bytes.
use native.Mathlib.Omega.{arith}
use Rattle.std.specs.Prelude.{Some, ◌≡◌}
use mathlib.Core.Path.{ap}
use Rattle.terms.specs.Body.GreatestServiceLaws.{greatest_small}
use Rattle.fourport.proofs.look.fourport_greatest.Goals as goal

pub overflow_cast-part : goal.overflow_cast-part
overflow_cast-part c =
    let small = greatest_small c.args.event.now c.type_inv.event in
    let some : c.in-Ok-Some.field-0 ≡ Some c.in-Ok-Some.found = rw c.in-Ok-Some.is at c.in-Ok-Some.field-0-is in
    let same = ap (λ r. r.variable) (rw some at (rw c.in-Ok-Some.is at c.greatest_part-told.ensures)) in
    record { fits = omega (arith, small, same) }
