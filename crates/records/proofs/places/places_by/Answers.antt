use Rattle.records.specs.Ends.PlacesLaws.{accepted_long, places_are}
use native.Mathlib.Omega.{arith}
use Rattle.records.proofs.places.places_by.Goals as goal

pub bounds-s-3 : goal.bounds-s-3
bounds-s-3 c = omega (arith, accepted_long _ c.type_inv.s c.requires.accepted)

pub returns : goal.returns
returns c = places_are _ c.type_inv.s c.requires.ends_of c.row_to-ancestors.ensures c.row_to-bets.ensures
