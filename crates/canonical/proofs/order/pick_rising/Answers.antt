-- `pick_rising`: a number is kept if it is above the one kept before and below the limit.
use native.Mathlib.Omega.{arith}
use Rattle.std.proofs.Common.{rules}
use Rattle.canonical.specs.Sorting.PickingLaws.{keeping_start, keeping_past, keeping_next, keeping_end}
use Rattle.canonical.proofs.order.pick_rising.Goals as goal
use Rattle.canonical.proofs.order.pick_rising.Goals.{then-entry-low-via-then-entry-low, then-entry-low-via-else-entry-low+then-entry-ge-ENTRY_LIMIT}

pub loop-i-init : goal.loop-i-init
loop-i-init c = keeping_start _ c.requires

pub loop-i-preserved-then-entry-low : goal.loop-i-preserved-then-entry-low
loop-i-preserved-then-entry-low c = keeping_past c.loop-i.invariant (omega arith) (λ h. elim c.then-entry-low.branch [
  | then-entry-low-via-then-entry-low w ↦ absurd (omega (arith, w.if-entry-low.true))
  | then-entry-low-via-else-entry-low+then-entry-ge-ENTRY_LIMIT w ↦ w.if-entry-ge-ENTRY_LIMIT.true
])

pub loop-i-preserved : goal.loop-i-preserved
loop-i-preserved c = keeping_next c.loop-i.invariant (omega arith) (omega arith) (omega arith)

pub returns : goal.returns
returns c = keeping_end c.loop-i.invariant (omega arith) (c.fill.ensures.after (λ y e. search rules))
