use mathlib.Core.Path.{refl}
use Rattle.reader.specs.Survey.ReplyLaws.{put_clauses_record}
use Rattle.reader.proofs.reply.put_clauses.Goals as goal

pub returns : goal.returns
returns c = λ cs i d. put_clauses_record _ cs refl i d c.put_record_head-count_at.ensures c.put_word-first.ensures c.put_part.ensures
