use Rattle.stepper.specs.Plans.ViewLaws.{accepted_room, view_is}
use Rattle.stepper.proofs.view.event_view.Goals as goal

pub goal_part-goal-requires : goal.goal_part-goal-requires
goal_part-goal-requires c = (accepted_room _ c.type_inv.event c.places_by-places.ensures c.requires.accepted).goal_inside

pub ancestor_top-ancestor-requires : goal.ancestor_top-ancestor-requires
ancestor_top-ancestor-requires c = (accepted_room _ c.type_inv.event c.places_by-places.ensures c.requires.accepted).ancestor_inside

pub stack_places-ancestors-requires : goal.stack_places-ancestors-requires
stack_places-ancestors-requires c = (accepted_room _ c.type_inv.event c.places_by-places.ensures c.requires.accepted).ancestors_few

pub bet_top-bet-requires : goal.bet_top-bet-requires
bet_top-bet-requires c = (accepted_room _ c.type_inv.event c.places_by-places.ensures c.requires.accepted).bet_inside

pub stack_places-bets-requires : goal.stack_places-bets-requires
stack_places-bets-requires c = (accepted_room _ c.type_inv.event c.places_by-places.ensures c.requires.accepted).bets_few

pub returns : goal.returns
returns c = view_is _ c.type_inv.event c.places_by-places.ensures c.goal_part-goal.ensures c.ancestor_top-ancestor.ensures c.stack_places-ancestors.ensures c.bet_top-bet.ensures c.stack_places-bets.ensures
