use Rattle.std.proofs.Common.{sym, ◌∙◌}
use Rattle.records.specs.Ends.Range.{cut, size}
use Rattle.text.specs.Tokens.WordsLaws.{same_pointwise}
use Rattle.reader.proofs.variables.is_lone.Goals as goal

pub returns : goal.returns
unfolding cut size
returns c = c.eq.ensures ∙ sym (same_pointwise _ _)
