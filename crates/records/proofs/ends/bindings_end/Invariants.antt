use Prim.Native.Nat.{◌-◌}
use Rattle.records.specs.Ends.Traversal.{end_of}
use Rattle.records.specs.Format.Items.{many, read_binding}
use mathlib.Core.Path.{◌≡◌}
use Rattle.records.proofs.ends.bindings_end.Given as goal

abbrev pub invariant-loop : goal.invariant-loop
invariant-loop l = end_of (many read_binding l.n) l.s l.at ≡ end_of (many read_binding (l.n - l.counter)) l.s l.pos
