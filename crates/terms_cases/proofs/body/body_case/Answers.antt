-- `body_case` puts the questions to both records, and then asks for the body of the atom.
use mathlib.Core.Path.{sym, ap, ◌∙◌}
use Rattle.std.specs.Prelude.{◌≡◌, refl, Some}
use Rattle.std.proofs.lemmas.Result.{err_from_is_err_and}
use Rattle.records.specs.Gate.Gate.{read_program, read_event}
use Rattle.records.specs.Gate.OutcomeLaws.{told_zero}
use Rattle.records.specs.Gate.DoorLaws.{program_open, event_open}
use Rattle.records.specs.declared.heads.GoalHead.TheVariants.{Atom}
use Rattle.terms.specs.Standing.AcceptedLaws.{accepted_program}
use Rattle.terms_cases.specs.Bodies.{body_told}
use Rattle.terms_cases.specs.BodyLaws.{program_replied, event_replied, other_replied, atom_found, body_replied}
use Rattle.terms_cases.proofs.body.body_case.Goals as goal

pub returns-in_err-program_door : goal.returns-in_err-program_door
returns-in_err-program_door c =
    let p = err_from_is_err_and c.from_residual.result c.from_residual.ensures.1 in
    rw (p.1, p.2) (program_replied (read_program c.args.program.now) (read_event c.args.event.now) c.program_door.ensures c.in_err-program_door.was)

pub returns-in_err-event_door : goal.returns-in_err-event_door
returns-in_err-event_door c =
    let p = err_from_is_err_and c.from_residual-in_err-event_door.result c.from_residual-in_err-event_door.ensures.1 in
    let d = program_open (read_program c.args.program.now) (told_zero _ c.program_door.ensures c.in_ok-program_door.was) refl in
    rw (p.1, p.2) (event_replied d.0 d.1 (read_event c.args.event.now) c.event_door.ensures c.in_err-event_door.was)

pub returns-in_default : goal.returns-in_default
returns-in_default c =
    let d = program_open (read_program c.args.program.now) (told_zero _ c.program_door.ensures c.in_ok-program_door.was) refl in
    let t = event_open (read_event c.args.event.now) (told_zero _ c.event_door.ensures c.in_ok-event_door.was) refl in
    other_replied _ c.type_inv.event t.0 t.1 d.0 d.1 (λ k n e. c.in_default.not-Some (Atom k n) (c.goal_head.ensures ∙ e))

pub returns-in_default-head : goal.returns-in_default-head
returns-in_default-head c =
    let d = program_open (read_program c.args.program.now) (told_zero _ c.program_door.ensures c.in_ok-program_door.was) refl in
    let t = event_open (read_event c.args.event.now) (told_zero _ c.event_door.ensures c.in_ok-event_door.was) refl in
    other_replied _ c.type_inv.event t.0 t.1 d.0 d.1 (λ k n e. c.in_default-head.not-Atom k n (let y : Some c.in-Some.head ≡ Some (Atom k n) = sym c.in-Some.is ∙ c.goal_head.ensures ∙ e in cc))

pub atom_goal-requires : goal.atom_goal-requires
atom_goal-requires c =
    let d = program_open (read_program c.args.program.now) (told_zero _ c.program_door.ensures c.in_ok-program_door.was) refl in
    let t = event_open (read_event c.args.event.now) (told_zero _ c.event_door.ensures c.in_ok-event_door.was) refl in
    record { program_at = accepted_program _ c.type_inv.program d.0 d.1; atom_goal = atom_found _ c.type_inv.event t.0 t.1 (sym c.goal_head.ensures ∙ c.in-Some.is ∙ ap Some c.in-Atom.is) }

pub returns-in_err-atom_goal : goal.returns-in_err-atom_goal
returns-in_err-atom_goal c =
    let p = err_from_is_err_and c.from_residual-in_err-atom_goal.result c.from_residual-in_err-atom_goal.ensures.1 in
    let d = program_open (read_program c.args.program.now) (told_zero _ c.program_door.ensures c.in_ok-program_door.was) refl in
    let t = event_open (read_event c.args.event.now) (told_zero _ c.event_door.ensures c.in_ok-event_door.was) refl in
    let q = atom_found c.args.event.now c.type_inv.event t.0 t.1 (sym c.goal_head.ensures ∙ c.in-Some.is ∙ ap Some c.in-Atom.is) in
    rw (p.1, p.2.0) (body_replied q d.0 d.1 (c.atom_goal.ensures (accepted_program _ c.type_inv.program d.0 d.1) q) (ap body_told c.in_err-atom_goal.was))

pub returns : goal.returns
returns c =
    let d = program_open (read_program c.args.program.now) (told_zero _ c.program_door.ensures c.in_ok-program_door.was) refl in
    let t = event_open (read_event c.args.event.now) (told_zero _ c.event_door.ensures c.in_ok-event_door.was) refl in
    let q = atom_found c.args.event.now c.type_inv.event t.0 t.1 (sym c.goal_head.ensures ∙ c.in-Some.is ∙ ap Some c.in-Atom.is) in
    body_replied q d.0 d.1 (c.atom_goal.ensures (accepted_program _ c.type_inv.program d.0 d.1) q) (ap body_told c.in_ok-atom_goal.was)
