-- The lines of the marks before are put, and each has 68 bytes at most.
use Rattle.std.proofs.Common.{◌+◌, ◌*◌, ◌≤◌}
use Rattle.walk_text.specs.LineLaws.{LinesPut}
use Rattle.walk_text.proofs.line.put_lines.Given as goal

abbrev pub invariant-loop-i : goal.invariant-loop-i
invariant-loop-i l = record {
  lines : LinesPut l.first l.log l.initial.out l.at l.out l.used (3 * l.i) (l.first + l.i);
  within : l.used ≤ l.at + 68 * l.i;
}
