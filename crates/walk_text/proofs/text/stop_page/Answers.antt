use Rattle.std.proofs.Common.{arith}
use Rattle.records.specs.Writing.PatchedLaws.{put_length}
use Rattle.walk_text.specs.RestLaws.{gives_last}
use Rattle.walk_text.proofs.text.stop_page.Goals as goal

pub returns : goal.returns
returns c = λ program query most.
    let stop = c.put_stop.ensures in
    gives_last most stop.put (omega (arith, put_length stop.put, stop.within))
