use Rattle.records.specs.Writing.PatchedLaws.{put_then}
use Rattle.stepper.proofs.around.put_event_head.Goals as goal

pub returns : goal.returns
returns c = put_then c.put_record_head-port_at.ensures c.put_byte.ensures
