use Rattle.walk_text.specs.LineLaws.{put_decimal}
use Rattle.walk_text.proofs.line.put_number.Goals as goal

pub returns-clause-put : goal.returns-clause-put
returns-clause-put c = put_decimal c.decimal-k.ensures.len c.decimal-k.ensures.digits c.put_part.ensures
