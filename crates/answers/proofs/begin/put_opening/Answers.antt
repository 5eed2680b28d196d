use Rattle.records.specs.Writing.PatchedLaws.{put_then}
use Rattle.answers.proofs.begin.put_opening.Goals as goal

pub returns : goal.returns
returns c = put_then c.put_byte-goal_at.ensures c.put_byte.ensures
