-- `sort`: the first i entries are copied.
use Rattle.std.specs.Prelude.{◌≡◌, take}
use Rattle.canonical.proofs.order.sort.Given as goal

abbrev pub invariant-loop-i : goal.invariant-loop-i
invariant-loop-i l = take l.i l.sorted ≡ take l.i l.table
