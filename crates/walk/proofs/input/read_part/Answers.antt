use Prim.Native.Nat.{◌+◌, ◌-◌}
use native.Mathlib.Omega.{arith}
use borrow.Rule.Slice.PartMut.{mid_len, take_put}
use Rattle.walk.specs.Reading.{delivered}
use Rattle.walk.proofs.input.read_part.Goals as goal

pub returns : goal.returns
returns c =
    let read = c.read_full in
    let args = c.args in
    let part = mid_len args.from (args.from + args.n) args.buf.now c.requires in
    record { count = delivered (omega (arith, read.ensures.0, read.auto.buf, part)); kept = take_put args.from (args.from + args.n - args.from) args.buf.now read.new.buf (omega arith) }
