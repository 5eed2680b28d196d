use Rattle.records.specs.Writing.PatchedLaws.{put_then}
use Rattle.records.proofs.put.put_record_head.Goals as goal

pub returns : goal.returns
returns c =
    put_then c.put_word-version_at.ensures c.put_byte.ensures
