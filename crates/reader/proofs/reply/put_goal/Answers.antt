use mathlib.Core.Path.{refl}
use Rattle.reader.specs.Survey.ReplyLaws.{put_goal_record}
use Rattle.reader.proofs.reply.put_goal.Goals as goal

pub returns : goal.returns
returns c = put_goal_record _ refl c.put_record_head-first.ensures c.put_part.ensures
