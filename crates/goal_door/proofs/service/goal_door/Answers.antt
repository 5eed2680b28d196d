use mathlib.Core.Path.{◌≡◌, sym}
use native.Mathlib.Omega.{arith}
use lib.ListN.{length}
use lib.Seq.{length-take-le}
use Rattle.stepper.specs.Services.PassedLaws.{gate_passes}
use Rattle.goal_door.specs.Way.OpenLaws.{door_replied, door_unopened}
use borrow.Author.Rules.{rules}
use Rattle.goal_door.proofs.service.goal_door.Goals as goal

pub returns-in-Err : goal.returns-in-Err
returns-in-Err c = door_unopened c.args.limit _ _ _ c.gate.ensures c.in-Err.is

pub way_back-end-requires-clause-both_passed : goal.way_back-end-requires-clause-both_passed
way_back-end-requires-clause-both_passed c = (gate_passes _ _ _ c.gate.ensures c.in_default.is).0

pub slice_bounds-here-end : goal.slice_bounds-here-end
slice_bounds-here-end c = (c.way_back-end.ensures (gate_passes _ _ _ c.gate.ensures c.in_default.is).0).inside

pub slice_bounds-put_part-end : goal.slice_bounds-put_part-end
slice_bounds-put_part-end c = sym (length-take-le _ _ (c.way_back-end.ensures (gate_passes _ _ _ c.gate.ensures c.in_default.is).0).inside)

pub put_part-requires : goal.put_part-requires
put_part-requires c =
    let w = gate_passes _ _ _ c.gate.ensures c.in_default.is in
    let n : length c.way_back-end.new.here ≡ 32768 = search rules in
    let h = (c.way_back-end.ensures w.0).inside in
    omega (arith, n, w.1, sym (length-take-le _ _ h), h)

pub returns : goal.returns
returns c =
    let w = gate_passes _ _ _ c.gate.ensures c.in_default.is in
    door_replied w.0 c.args.limit (c.way_back-end.ensures w.0) (search rules) w.1 c.put_part.ensures
