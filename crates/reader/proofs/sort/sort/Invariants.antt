use Rattle.std.proofs.Common.{◌-◌, length}
use Rattle.reader.specs.Items.Sorted.{Sorting}
use Rattle.reader.proofs.sort.sort.Given as goal

abbrev pub invariant-loop-kind : goal.invariant-loop-kind
invariant-loop-kind l = Sorting l.s l.initial.state l.initial.roles l.roles l.count l.at l.state

abbrev pub decreases-loop-kind : goal.decreases-loop-kind
decreases-loop-kind l = length l.s - l.at
