use Rattle.records.specs.Writing.PatchedLaws.{put_then}
use Rattle.walk_text.proofs.line.put_counts.Goals as goal

pub returns-clause-put : goal.returns-clause-put
returns-clause-put c = put_then c.put_count-bets_at.ensures.put (put_then c.put_count-end_at.ensures.put c.put_byte.ensures)
