-- `atom_goal` hands the frame that the event's places tell to `atom_body`.
use Rattle.terms_cases.specs.Bodies.{atom_event}
use Rattle.terms_cases.specs.BodyLaws.{atom_accepted, atom_there}
use Rattle.terms_cases.proofs.body.atom_goal.Goals as goal

pub event_places-requires : goal.event_places-requires
event_places-requires c = atom_accepted c.requires.atom_goal

pub atom_body-requires : goal.atom_body-requires
atom_body-requires c = let q = c.requires.atom_goal in
    record { program_at = c.requires.program_at; atom_at = atom_there c.type_inv.event q (c.event_places.ensures (atom_event q) q.read) c.event_frame-frame.ensures }

pub returns : goal.returns
returns c = λ d q. c.atom_body.ensures d (atom_there c.type_inv.event q (c.event_places.ensures (atom_event q) q.read) c.event_frame-frame.ensures)
