use Rattle.records.specs.Writing.PatchedLaws.{put_then}
use Rattle.records.proofs.put.put_word.Goals as goal

pub returns : goal.returns
returns c =
    put_then c.put_byte-next.ensures c.put_byte.ensures
