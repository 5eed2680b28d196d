use Prim.Native.Nat.{◌-◌}
use Rattle.records.specs.Gate.Rows.{Ends}
use Rattle.records.specs.Gate.Ranks.{ranks_end, ranks_rise}
use mathlib.Core.Path.{◌≡◌}
use Rattle.records.proofs.rules.ranks_rise.Given as goal

abbrev pub invariant-loop : goal.invariant-loop
invariant-loop l = (ranks_rise l.row 0 l.n l.s l.at ≡ ranks_rise l.row l.low (l.n - l.counter) l.s l.pos) × Ends (ranks_end l.row (l.n - l.counter) l.s l.pos)
