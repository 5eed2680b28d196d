use Rattle.std.proofs.Common.{◌≡◌, ◌+◌, drop}
use Rattle.records.specs.Ends.Range.{cut}
use Rattle.reader.specs.Form.Meaning.{place}
use Rattle.reader.specs.Items.Variables.{range_words}
use Rattle.reader.proofs.variables.place_among.Given as goal

abbrev pub invariant-loop-j : goal.invariant-loop-j
invariant-loop-j l = place (cut l.s l.w) (range_words l.s l.met) ≡ l.j + place (cut l.s l.w) (drop l.j (range_words l.s l.met))
