use Rattle.std.proofs.Common.{◌≡◌, ◌+◌, arith}
use Rattle.walk_text.specs.LineLaws.{lines_none, lines_mark, lines_all}
use Rattle.walk_text.proofs.line.put_lines.Goals as goal

pub loop-i-init : goal.loop-i-init
loop-i-init c = let e : c.args.first + 0 ≡ c.args.first = omega arith in record { lines = rw e (lines_none _ _); within = omega arith }

pub loop-i-preserved : goal.loop-i-preserved
loop-i-preserved c = record {
  lines = lines_mark c.loop-i.invariant.lines c.as_chunks.ensures.front (omega (arith, c.as_chunks.ensures.front_len)) c.put_line-used.ensures.put;
  within = omega arith;
}

pub returns-clause-put : goal.returns-clause-put
returns-clause-put c = lines_all c.loop-i.invariant.lines (omega (arith, c.as_chunks.ensures.front_len))
