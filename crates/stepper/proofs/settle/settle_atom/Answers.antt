use native.Mathlib.Omega.{arith}
use Rattle.std.specs.Prelude.{◌≡◌, Some, None, Ok}
use Rattle.std.proofs.Common.{◌∙◌, ap}
use Rattle.std.proofs.lemmas.Result.{err_from_is_err_and}
use Rattle.terms.specs.Standing.AcceptedLaws.{accepted_program}
use Rattle.terms.specs.Body.BodyBytes.{as_refusal}
use Rattle.stepper.specs.Step.CompletedLaws.{lent_kept, handed_room}
use Rattle.stepper.specs.Step.AtomStepLaws.{goal_atom, undefined_within, atom_order, atom_missing, body_room, atom_defined, atom_refused, body_told_as}
use Rattle.stepper.proofs.settle.settle_atom.Goals as goal

pub gap-from-requires : goal.gap-from-requires
gap-from-requires c = let o = atom_order c.type_inv.event c.requires.atom_viewed in omega arith

pub atom_body-requires : goal.atom_body-requires
atom_body-requires c =
    let d = c.requires.program_read in
    record { program_at = accepted_program _ c.type_inv.program d.definitions d.reads; atom_at = rw c.goal_frame.ensures (goal_atom c.type_inv.event c.requires.atom_viewed) }

pub returns-in_err-body : goal.returns-in_err-body
returns-in_err-body c =
    λ d w p q up dp.
    let g = c.gap-from.ensures in
    let l = c.requires.in_bounds in
    let h = body_told_as ((rw c.goal_frame.ensures at c.atom_body.ensures) (accepted_program _ c.type_inv.program d.definitions d.reads) (goal_atom c.type_inv.event w)) c.in_err-body.was in
    let r = err_from_is_err_and c.from_residual.result c.from_residual.ensures.1 in
    let same : r.0 ≡ as_refusal c.in_err-body.field-0.0 = r.2.0 in
    rw (r.1, same) (atom_refused c.type_inv.event w p q up dp d.definitions g _ l _ h (λ e. lent_kept g _ l e))

pub emit_event-requires : goal.emit_event-requires
emit_event-requires c =
    let d = c.requires.program_read in
    let w = c.requires.atom_viewed in
    let l = c.requires.in_bounds in
    let e : c.atom_body.result ≡ Ok None = c.in_ok-body.was ∙ ap Ok c.in-None.is in
    let h = body_told_as ((rw c.goal_frame.ensures at c.atom_body.ensures) (accepted_program _ c.type_inv.program d.definitions d.reads) (goal_atom c.type_inv.event w)) e in
    record { plan_inside = rw c.kept.ensures (undefined_within c.type_inv.event w _); in_bounds = rw (lent_kept c.gap-from.ensures _ l h.1) l }

pub with_body-requires : goal.with_body-requires
with_body-requires c =
    let d = c.requires.program_read in
    let w = c.requires.atom_viewed in
    let l = c.requires.in_bounds in
    let g = c.gap-from.ensures in
    let e : c.atom_body.result ≡ Ok (Some c.in-Some.n) = c.in_ok-body.was ∙ ap Ok c.in-Some.is in
    let h = body_told_as ((rw c.goal_frame.ensures at c.atom_body.ensures) (accepted_program _ c.type_inv.program d.definitions d.reads) (goal_atom c.type_inv.event w)) e in
    record { in_order = atom_order c.type_inv.event w; n_len_bound = body_room g _ l h; in_bounds = handed_room g _ l h.put }

pub returns-in-None : goal.returns-in-None
returns-in-None c =
    λ d w p q up dp.
    let l = c.requires.in_bounds in
    let e : c.atom_body.result ≡ Ok None = c.in_ok-body.was ∙ ap Ok c.in-None.is in
    let h = body_told_as ((rw c.goal_frame.ensures at c.atom_body.ensures) (accepted_program _ c.type_inv.program d.definitions d.reads) (goal_atom c.type_inv.event w)) e in
    atom_missing c.type_inv.event w p q up dp d.definitions h.0 (lent_kept c.gap-from.ensures _ l h.1) (rw c.kept.ensures at c.emit_event.ensures)

pub returns-in-Some : goal.returns-in-Some
returns-in-Some c =
    λ d w p q up dp.
    let e : c.atom_body.result ≡ Ok (Some c.in-Some.n) = c.in_ok-body.was ∙ ap Ok c.in-Some.is in
    atom_defined c.type_inv.event w p q up dp d.definitions c.gap-from.ensures _ c.requires.in_bounds (body_told_as ((rw c.goal_frame.ensures at c.atom_body.ensures) (accepted_program _ c.type_inv.program d.definitions d.reads) (goal_atom c.type_inv.event w)) e) c.with_body.ensures
