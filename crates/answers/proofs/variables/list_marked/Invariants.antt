use Rattle.records.specs.Writing.Patched.{Put}
use Rattle.answers.specs.Writing.Marked.{marked_below}
use Rattle.answers.proofs.variables.list_marked.Given as goal

abbrev pub invariant-loop-v : goal.invariant-loop-v
invariant-loop-v l = Put l.initial.table 0 (marked_below l.marks.words l.v) l.table l.k
