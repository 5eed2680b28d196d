use Rattle.records.specs.Writing.PatchedLaws.{put_then}
use Rattle.stepper.proofs.around.put_unifier_top.Goals as goal

pub returns : goal.returns
returns c = put_then c.put_word-kind_at.ensures c.put_byte.ensures
