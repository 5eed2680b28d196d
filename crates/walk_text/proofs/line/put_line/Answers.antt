use Rattle.walk_text.specs.LineLaws.{put_fields}
use Rattle.walk_text.proofs.line.put_line.Goals as goal

pub returns-clause-put : goal.returns-clause-put
returns-clause-put c = put_fields _ _ _ _ c.put_number-blank_at.ensures.put c.put_byte-port_at.ensures c.put_port-counts_at.ensures.put c.put_counts.ensures.put
