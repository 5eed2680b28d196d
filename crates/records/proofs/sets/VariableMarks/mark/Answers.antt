use mathlib.Core.Path.{ap}
use Prim.Native.Nat.{◌/◌}
use lib.ListN.{set}
use Rattle.records.specs.Gate.Sets.{marked}
use Rattle.records.proofs.sets.VariableMarks.mark.Goals as goal

pub returns : goal.returns
unfolding marked
returns c = ap (set c.args.self.now.words (c.args.x / 64)) c.with_variable.ensures
