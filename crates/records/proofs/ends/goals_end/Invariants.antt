use Rattle.records.specs.Ends.Traversal.{end_at}
use lib.ListN.{length}
use mathlib.Core.Path.{◌≡◌}
use Prim.Native.Nat.{◌+◌, ◌-◌, ◌≤◌, max}
use Rattle.records.proofs.ends.goals_end.Given as goal

abbrev pub invariant-loop-left : goal.invariant-loop-left
invariant-loop-left l = (end_at l.s l.at 0 l.g ≡ end_at l.s l.pos 0 l.left) × (l.left + l.at ≤ l.pos + l.g) × (l.pos ≤ max (length l.s) l.at)

abbrev pub decreases-loop-left : goal.decreases-loop-left
decreases-loop-left l = length l.s - l.pos
