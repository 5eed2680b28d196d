use Rattle.records.specs.Writing.PatchedLaws.{put_then}
use Rattle.walk_text.specs.Line.{stop_bytes}
use Rattle.walk_text.proofs.line.put_stop.Goals as goal

pub returns-clause-put : goal.returns-clause-put
unfolding stop_bytes
returns-clause-put c = put_then c.put_part-number_at.ensures (put_then (rw c.from.ensures at c.put_count-end_at.ensures.put) c.put_byte.ensures)
