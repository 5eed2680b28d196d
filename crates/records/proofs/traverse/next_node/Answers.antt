use Rattle.records.proofs.TraversalArms.{done_arm}
use native.Mathlib.Omega.{arith}
use Rattle.records.proofs.traverse.next_node.Goals as goal

pub returns-else-c-gt0-2 : goal.returns-else-c-gt0-2
returns-else-c-gt0-2 c = done_arm _ _ _ _ (omega arith) (omega arith)
