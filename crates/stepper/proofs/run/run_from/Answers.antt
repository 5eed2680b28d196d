use mathlib.Core.Path.{◌≡◌, sym}
use native.Mathlib.Omega.{arith}
use lib.ListN.{length}
use lib.Seq.{length-take-le}
use Rattle.stepper.specs.Step.SteppedLaws.{event_short}
use Rattle.stepper.specs.Run.RunLoopLaws.{standing_put, end_short, end_room, ran_to}
use borrow.Author.Rules.{rules}
use Rattle.stepper.proofs.run.run_from.Goals as goal

pub put_part-length-requires : goal.put_part-length-requires
put_part-length-requires c =
    let short = event_short _ c.type_inv.event c.requires.both_passed.reads in omega arith

pub part_ends-ends-requires : goal.part_ends-ends-requires
part_ends-ends-requires c =
    rw c.requires.both_passed.reads tt

pub run_on-r-requires : goal.run_on-r-requires
run_on-r-requires c = let short = event_short _ c.type_inv.event c.requires.both_passed.reads in
    record { run_stands = standing_put c.args.order c.args.log.now c.type_inv.event c.requires.both_passed (omega arith) c.put_part-length.ensures c.part_ends-ends.ensures c.started-first.ensures; taken_le_steps = rw c.started-first.ensures (omega arith); in_bounds = search rules }

pub slice_bounds-here-end : goal.slice_bounds-here-end
slice_bounds-here-end c =
    let n : length c.run_on-r.new.here ≡ 32768 = search rules in
    let short = event_short _ c.type_inv.event c.requires.both_passed.reads in
    let held = c.run_on-r.ensures (standing_put c.args.order c.args.log.now c.type_inv.event c.requires.both_passed (omega arith) c.put_part-length.ensures c.part_ends-ends.ensures c.started-first.ensures) in
    omega (arith, n, end_short c.type_inv.program c.type_inv.event c.requires.both_passed c.args.order c.args.steps held)

pub slice_bounds-put_part-end-2 : goal.slice_bounds-put_part-end-2
slice_bounds-put_part-end-2 c =
    let n : length c.run_on-r.new.here ≡ 32768 = search rules in
    let short = event_short _ c.type_inv.event c.requires.both_passed.reads in
    let held = c.run_on-r.ensures (standing_put c.args.order c.args.log.now c.type_inv.event c.requires.both_passed (omega arith) c.put_part-length.ensures c.part_ends-ends.ensures c.started-first.ensures) in
    sym (length-take-le _ _ (omega (arith, n, end_short c.type_inv.program c.type_inv.event c.requires.both_passed c.args.order c.args.steps held)))

pub put_part-requires : goal.put_part-requires
put_part-requires c =
    let short = event_short _ c.type_inv.event c.requires.both_passed.reads in
    let held = c.run_on-r.ensures (standing_put c.args.order c.args.log.now c.type_inv.event c.requires.both_passed (omega arith) c.put_part-length.ensures c.part_ends-ends.ensures c.started-first.ensures) in
    end_room c.type_inv.program c.type_inv.event c.requires.both_passed c.args.order c.args.steps held c.args.out.now c.requires.in_bounds

pub returns : goal.returns
returns c =
    λ w.
    let short = event_short _ c.type_inv.event w.reads in
    let held = c.run_on-r.ensures (standing_put c.args.order c.args.log.now c.type_inv.event w (omega arith) c.put_part-length.ensures c.part_ends-ends.ensures c.started-first.ensures) in
    ran_to c.type_inv.program c.type_inv.event w c.args.order c.args.steps held c.requires.in_bounds c.put_part.ensures
