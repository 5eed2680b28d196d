use Rattle.stepper.specs.Step.AtomStepLaws.{body_told_as}
use Rattle.stepper.specs.Step.LastSevenLaws.{under_atom, whole_goal, body_beyond, body_missing, body_same, body_long}
use Rattle.stepper.specs.Plans.MadeLaws.{put_cuts}
use Rattle.terms.specs.Standing.AcceptedLaws.{accepted_program}
use Rattle.std.specs.Prelude.{◌≡◌, Some, None, Ok, Err}
use Rattle.terms.specs.declared.body.BodyRefusal.TheVariants.{TooMany, TooLong}
use borrow.Author.Rules.{rules}
use Rattle.stepper.proofs.same.same_body.Goals as goal

pub atom_body-requires : goal.atom_body-requires
atom_body-requires c = let d = c.requires.program_read in record { program_at = accepted_program _ c.type_inv.program d.definitions d.reads; atom_at = rw c.ancestor_frame.ensures (under_atom c.type_inv.program c.type_inv.event d c.requires.body_viewed) }

pub same_front-requires : goal.same_front-requires
same_front-requires c = let e : c.atom_body.result ≡ Ok (Some c.in-Ok-Some.n) = cc in let d = c.requires.program_read in let w = c.requires.body_viewed in let h = (body_told_as ((rw c.ancestor_frame.ensures at c.atom_body.ensures) (accepted_program _ c.type_inv.program d.definitions d.reads) (under_atom c.type_inv.program c.type_inv.event d w)) e) in record { inside = (put_cuts h.put h.room).inside; inside_2 = rw c.whole.ensures (whole_goal c.type_inv.program c.type_inv.event d w).inside }

pub returns-in-Err-TooMany : goal.returns-in-Err-TooMany
returns-in-Err-TooMany c =
    λ d w. let e : c.atom_body.result ≡ Err TooMany = cc in (body_beyond c.type_inv.program c.type_inv.event d w (body_told_as ((rw c.ancestor_frame.ensures at c.atom_body.ensures) (accepted_program _ c.type_inv.program d.definitions d.reads) (under_atom c.type_inv.program c.type_inv.event d w)) e).0)

pub returns-in-Ok-None : goal.returns-in-Ok-None
returns-in-Ok-None c =
    λ d w. let e : c.atom_body.result ≡ Ok None = cc in body_missing c.type_inv.program c.type_inv.event d w (body_told_as ((rw c.ancestor_frame.ensures at c.atom_body.ensures) (accepted_program _ c.type_inv.program d.definitions d.reads) (under_atom c.type_inv.program c.type_inv.event d w)) e).0

pub returns-in-Ok-Some : goal.returns-in-Ok-Some
returns-in-Ok-Some c =
    λ d w. let e : c.atom_body.result ≡ Ok (Some c.in-Ok-Some.n) = cc in body_same c.type_inv.program c.type_inv.event d w (body_told_as ((rw c.ancestor_frame.ensures at c.atom_body.ensures) (accepted_program _ c.type_inv.program d.definitions d.reads) (under_atom c.type_inv.program c.type_inv.event d w)) e) (rw c.whole.ensures at c.same_front.ensures)

pub returns-in-Err-TooLong : goal.returns-in-Err-TooLong
returns-in-Err-TooLong c =
    λ d w. let e : c.atom_body.result ≡ Err TooLong = cc in body_long c.type_inv.program c.type_inv.event d w (search rules) (body_told_as ((rw c.ancestor_frame.ensures at c.atom_body.ensures) (accepted_program _ c.type_inv.program d.definitions d.reads) (under_atom c.type_inv.program c.type_inv.event d w)) e).0
