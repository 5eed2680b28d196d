use mathlib.Core.Path.{◌≡◌}
use mathlib.Core.List.{List}
use Prim.Native.Nat.{◌-◌}
use lib.ListN.{length}
use Rattle.records.specs.Format.Syntax.{Event, Definition}
use Rattle.goal_door.specs.Way.Going.{WayStands}
use Rattle.goal_door.proofs.way.go_back.Given as goal

abbrev pub invariant-loop-next : goal.invariant-loop-next
invariant-loop-next l =
    ((ds : List Definition) (e : Event) → WayStands l.way.program.now l.way.event.now ds e l.way.limit l.initial.last l.initial.here → WayStands l.way.program.now l.way.event.now ds e l.way.limit l.last l.here) × (length l.here ≡ length l.initial.here)

abbrev pub decreases-loop-next : goal.decreases-loop-next
decreases-loop-next l = l.way.limit - l.last.taken
