use Prim.Native.Nat.{◌+◌, ◌-◌, ◌≤◌}
use lib.ListN.{length}
use Rattle.terms.specs.Standing.Frames.{BetsAt}
use Rattle.answers.specs.Writing.UsedLaws.{UsedSoFar}
use Rattle.answers.proofs.used.used_size.Given as goal

abbrev pub invariant-loop : goal.invariant-loop
invariant-loop l =
    ((b : BetsAt l.event l.at l.n) → UsedSoFar l.event b.items l.pos (l.n - l.counter) l.size) × (l.size.count + (length l.event - l.pos) ≤ length l.event) × (l.size.length + (length l.event - l.pos) ≤ length l.event)
