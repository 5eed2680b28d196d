-- The pieces so far lie within the buffer.
use Rattle.std.proofs.Common.{◌≤◌, length}
use Rattle.reader_cases.proofs.pieces.read_text.Given as goal

abbrev pub invariant-loop : goal.invariant-loop
invariant-loop l = l.size ≤ length l.buf
