use Rattle.std.proofs.Common.{refl, arith}
use Rattle.reader.specs.Emit.WritingLaws.{writing_start, writing_room, writing_on, writing_done}
use Rattle.reader.proofs.cells.emit_cells.Goals as goal

pub loop-i-init : goal.loop-i-init
loop-i-init c = writing_start refl refl refl refl

pub emit_cell-e-requires : goal.emit_cell-e-requires
emit_cell-e-requires c = writing_room c.requires.count_bound c.loop-i.invariant

pub loop-i-preserved : goal.loop-i-preserved
loop-i-preserved c = writing_on c.loop-i-test.true c.loop-i.invariant (rw c.from-name.ensures at c.emit_cell-e.ensures)

pub returns : goal.returns
returns c = writing_done (omega (arith, c.loop-i-test.false)) c.loop-i.invariant
