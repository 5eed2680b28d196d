use mathlib.Core.Path.{ap}
use lib.Bits.{bit_or}
use Rattle.records.specs.Gate.Sets.{with_variable}
use Rattle.records.specs.Gate.SetLaws.{one_shl}
use Rattle.records.proofs.sets.with_variable.Goals as goal

pub returns : goal.returns
unfolding with_variable
returns c = ap (bit_or c.args.set) (one_shl c.args.x c.requires)
