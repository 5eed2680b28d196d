use Rattle.std.proofs.Common.{length}
use Rattle.reader.specs.Emit.WritingLaws.{Writing}
use Rattle.reader.proofs.cells.emit_cells.Given as goal

abbrev pub invariant-loop-i : goal.invariant-loop-i
invariant-loop-i l = Writing (length l.initial.out) l.roles l.names l.variables (length l.roles) l.out l.counts l.brackets l.e l.i
