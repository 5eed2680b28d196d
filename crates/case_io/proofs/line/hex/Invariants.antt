-- The digits of the bytes before stand at the start of the buffer.
use Rattle.std.proofs.Common.{◌≡◌, ◌*◌, take}
use Rattle.case_io.specs.Hex.{hex_digits}
use Rattle.case_io.proofs.line.hex.Given as goal

abbrev pub invariant-loop-i : goal.invariant-loop-i
invariant-loop-i l = take (2 * l.i) l.text ≡ hex_digits (take l.i l.bytes)
