use native.Mathlib.Omega.{arith}
use Rattle.stepper.specs.Step.SteppedLaws.{event_short}
use Rattle.goal_door.specs.Way.OpenLaws.{first_ended, first_stands}
use Rattle.goal_door.proofs.way.way_back.Goals as goal

pub put_part-length-requires : goal.put_part-length-requires
put_part-length-requires c =
    omega (arith, c.requires.here_len, event_short _ c.type_inv.event c.requires.both_passed.reads)

pub returns-then-is_door : goal.returns-then-is_door
returns-then-is_door c =
    λ w.
    let short = event_short _ c.type_inv.event w.reads in
    first_ended w c.args.limit c.type_inv.event c.put_part-length.ensures (omega (arith, short, c.requires.here_len)) c.part_ends-ends.ensures (c.is_door.ensures _ _ w.reads w.reads) c.if-is_door.true

pub go_back-requires-clause-way_stands : goal.go_back-requires-clause-way_stands
go_back-requires-clause-way_stands c =
    let w = c.requires.both_passed in
    let short = event_short _ c.type_inv.event w.reads in
    (_, _, first_stands w c.args.limit c.type_inv.event c.put_part-length.ensures (omega (arith, short, c.requires.here_len)) c.part_ends-ends.ensures (c.is_door.ensures _ _ w.reads w.reads) c.if-is_door.false)

pub returns : goal.returns
returns c =
    λ w.
    let short = event_short _ c.type_inv.event w.reads in
    c.go_back.ensures _ _ (first_stands w c.args.limit c.type_inv.event c.put_part-length.ensures (omega (arith, short, c.requires.here_len)) c.part_ends-ends.ensures (c.is_door.ensures _ _ w.reads w.reads) c.if-is_door.false)
