use mathlib.Core.Path.{refl}
use Prim.Native.Nat.{◌+◌, ◌*◌, ◌≤◌}
use native.Mathlib.Omega.{arith}
use lib.ListN.{length}
use Rattle.stepper.specs.Run.RunLoopLaws.{room_left}
use Rattle.stepper.proofs.run.log_mark.Goals as goal

pub overflow_mul-taken : goal.overflow_mul-taken
overflow_mul-taken c =
    let room : 3 * c.args.taken + 3 ≤ length c.args.log.now = room_left _ _ (rw c.if-logged.true at c.requires) in
    omega arith

pub put_mark-requires : goal.put_mark-requires
put_mark-requires c = room_left _ _ (rw c.if-logged.true at c.requires)

pub returns-then-logged : goal.returns-then-logged
returns-then-logged c = rw c.if-logged.true c.put_mark.ensures.output

pub returns-else-logged : goal.returns-else-logged
returns-else-logged c = rw c.if-logged.false refl
