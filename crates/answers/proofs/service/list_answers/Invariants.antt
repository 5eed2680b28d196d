use mathlib.Core.Path.{◌≡◌}
use mathlib.Core.List.{List}
use Prim.Native.Nat.{ℕ, ◌-◌}
use lib.ListN.{length}
use Rattle.records.specs.Format.Syntax.{Goal, Definition}
use Rattle.answers.specs.Writing.Listing.{ListStands}
use Rattle.answers.proofs.service.list_answers.Given as goal

abbrev pub invariant-loop-next : goal.invariant-loop-next
invariant-loop-next l =
    ((ds : List Definition) (q : Goal) (before : List ℕ) → ListStands l.walk.program.now ds q l.walk.variables.now l.walk.steps before l.initial.last l.initial.here l.initial.out → ListStands l.walk.program.now ds q l.walk.variables.now l.walk.steps before l.last l.here l.out)
    × (length l.here ≡ length l.initial.here) × (length l.entries ≡ length l.initial.entries) × (length l.value ≡ length l.initial.value) × (length l.out ≡ length l.initial.out)

abbrev pub decreases-loop-next : goal.decreases-loop-next
decreases-loop-next l = l.walk.steps - l.last.taken
