-- `named_range` looks for what the goal's head names, if it is an atom's.
use mathlib.Core.Path.{ap, ◌∙◌}
use Rattle.std.specs.Prelude.{Some}
use Rattle.stepper.specs.Services.LookupLaws.{none_named, atom_named}
use Rattle.stepper.proofs.lookup.named_range.Goals as goal

pub returns-in_default : goal.returns-in_default
returns-in_default c = none_named _ _ c.type_inv.event c.event_places-places.ensures c.goal_head.ensures (λ p k e. c.in_default.not-Some _ e) c.nowhere.ensures

pub returns-in_default-head : goal.returns-in_default-head
returns-in_default-head c = none_named _ _ c.type_inv.event c.event_places-places.ensures c.goal_head.ensures (λ p k e. c.in_default-head.not-Atom p k cc) c.nowhere-in_default-head.ensures

pub returns : goal.returns
returns c = atom_named _ _ c.type_inv.event c.event_places-places.ensures c.goal_head.ensures (c.in-Some.is ∙ ap Some c.in-Atom.is) c.definition_range.ensures
