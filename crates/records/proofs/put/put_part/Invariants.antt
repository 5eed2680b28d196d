-- The loop's invariant: the first j bytes of the source are written.
use Prim.Native.Nat.{◌+◌}
use lib.ListN.{take}
use Rattle.records.specs.Writing.Patched.{Put}
use Rattle.records.proofs.put.put_part.Given as goal

abbrev pub invariant-loop-j : goal.invariant-loop-j
invariant-loop-j l = Put l.initial.out l.at (take l.j l.src) l.out (l.at + l.j)
