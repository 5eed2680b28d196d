use Rattle.walk.specs.Writing.{handed}
use Rattle.walk.proofs.output.write_bytes.Goals as goal

pub returns : goal.returns
returns c = handed _ _
