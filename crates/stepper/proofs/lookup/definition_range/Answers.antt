-- `definition_range` gives the range of the definition that the search finds.
use Rattle.stepper.specs.Services.LookupLaws.{has_definitions, range_found}
use Rattle.std.specs.Prelude.{Some, None}
use mathlib.Core.Path.{refl}
use Rattle.stepper.proofs.lookup.definition_range.Goals as goal

pub find_definition-requires : goal.find_definition-requires
find_definition-requires c = has_definitions _ c.type_inv.program c.requires

pub returns-in-None : goal.returns-in-None
returns-in-None c = range_found _ c.type_inv.program _ _ c.find_definition.ensures None c.in-None.is c.nowhere.ensures

pub returns-in-Some : goal.returns-in-Some
returns-in-Some c = range_found _ c.type_inv.program _ _ c.find_definition.ensures (Some _) c.in-Some.is refl
