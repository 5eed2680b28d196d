use Rattle.records.specs.Writing.PatchedLaws.{put_then}
use Rattle.walk_text.proofs.line.put_count.Goals as goal

pub returns-clause-put : goal.returns-clause-put
returns-clause-put c = put_then c.put_byte-next.ensures c.put_number.ensures.put
