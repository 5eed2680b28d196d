-- `write_variable` writes a kind byte and a number.
use Rattle.records.specs.Writing.PatchedLaws.{put_then}
use Rattle.terms.proofs.substitute.write_variable.Goals as goal

pub returns : goal.returns
returns c = put_then c.put_byte-next.ensures c.put_word.ensures
