use native.Mathlib.Nat.{add-zero}
use native.Mathlib.Omega.{arith}
use lib.ListN.{length}
use mathlib.Core.Path.{◌≡◌}
use lib.Seq.{take-length}
use Rattle.records.specs.Writing.PatchedLaws.{put_none, put_turn}
use Rattle.records.proofs.put.put_part.Goals as goal

pub loop-j-init : goal.loop-j-init
loop-j-init c = rw add-zero put_none

pub loop-j-preserved : goal.loop-j-preserved
loop-j-preserved c = put_turn _ _ (omega arith) c.loop-j.invariant

pub returns : goal.returns
returns c =
    let past : c.loop-j.j ≡ length c.args.src.now = omega arith in
    rw (past, take-length) at c.loop-j.invariant
