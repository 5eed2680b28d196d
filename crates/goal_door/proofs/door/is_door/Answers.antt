use native.Mathlib.Omega.{arith}
use Rattle.goal_door.specs.Way.DoorBytesLaws.{range_inside, other_port, same_called}
use Rattle.goal_door.proofs.door.is_door.Goals as goal

pub returns-then-found-ne-CALL : goal.returns-then-found-ne-CALL
returns-then-found-ne-CALL c = λ e d x y. other_port _ c.type_inv.here c.requires.places_of_2 e d y (λ z. omega (arith, z, c.if-found-ne-CALL.true))

pub same_range-requires : goal.same_range-requires
same_range-requires c = record { inside = rw c.goal_and_ancestors.ensures (range_inside _ c.type_inv.event c.requires.places_of); inside_2 = rw c.goal_and_ancestors-2.ensures (range_inside _ c.type_inv.here c.requires.places_of_2) }

pub returns : goal.returns
returns c =
    λ e d x y.
    same_called _ c.type_inv.here c.requires.places_of_2 _ c.type_inv.event c.requires.places_of e d x y (omega (arith, c.if-found-ne-CALL.false)) (rw (c.goal_and_ancestors-2.ensures, c.goal_and_ancestors.ensures) at c.same_range.ensures)
