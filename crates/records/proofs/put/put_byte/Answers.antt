use Rattle.records.specs.Writing.PatchedLaws.{put_set}
use Rattle.records.proofs.put.put_byte.Goals as goal

pub returns : goal.returns
returns c = put_set
