use Rattle.records.specs.Ends.PlacesLaws.{ends_are}
use Rattle.records.proofs.places.part_ends.Goals as goal

pub returns : goal.returns
returns c = ends_are _ c.type_inv.s c.goal_place-goal.ensures c.row_place-ancestors.ensures
