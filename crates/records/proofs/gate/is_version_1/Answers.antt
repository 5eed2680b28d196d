use Rattle.records.specs.Gate.GateEndsLaws.{version_by}
use Rattle.records.proofs.gate.is_version_1.Goals as goal

pub returns : goal.returns
returns c = version_by _ c.requires
