use native.Mathlib.Omega.{arith}
use Rattle.canonical.specs.Writing.DefinitionLaws.{summing_next, summing_locals, summing_size, summing_end}
use Rattle.canonical.proofs.definition.group_totals.Goals as goal

pub overflow_add-locals : goal.overflow_add-locals
overflow_add-locals c =
    let place = c.place_of-place.ensures in
    omega (arith, summing_locals c.loop-entry.invariant (omega arith) (rw place at c.clause_variables-locals.ensures) c.requires)

pub overflow_add-size : goal.overflow_add-size
overflow_add-size c =
    let place = c.place_of-place.ensures in
    omega (arith, summing_size c.loop-entry.invariant (omega arith) (rw place at c.clause_size-size.ensures) c.requires)

pub loop-entry-preserved : goal.loop-entry-preserved
loop-entry-preserved c =
    let place = c.place_of-place.ensures in
    summing_next c.loop-entry.invariant (omega arith) (rw place at c.clause_variables-locals.ensures) (rw place at c.clause_size-size.ensures)

pub returns : goal.returns
returns c = summing_end c.loop-entry.invariant (omega arith)
