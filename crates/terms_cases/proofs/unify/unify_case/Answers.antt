-- `unify_case` questions the event, and then unifies the sides of its goal.
use mathlib.Core.Path.{sym, ap, ◌∙◌}
use Rattle.std.specs.Prelude.{◌≡◌, refl, Some}
use Rattle.std.proofs.lemmas.Result.{err_from_is_err_and}
use Rattle.records.specs.Gate.Gate.{read_event}
use Rattle.records.specs.Gate.OutcomeLaws.{told_zero}
use Rattle.records.specs.Gate.DoorLaws.{event_open}
use Rattle.records.specs.declared.heads.GoalHead.TheVariants.{Equal}
use Rattle.terms_cases.specs.EqualityLaws.{refused_replied, other_replied, equality_found}
use Rattle.terms_cases.proofs.unify.unify_case.Goals as goal

pub returns-in_err-event_door : goal.returns-in_err-event_door
returns-in_err-event_door c =
    let p = err_from_is_err_and c.from_residual.result c.from_residual.ensures.1 in
    rw (p.1, p.2) (refused_replied (read_event c.args.event.now) c.event_door.ensures c.in_err-event_door.was)

pub returns-in_default : goal.returns-in_default
returns-in_default c =
    let t = event_open (read_event c.args.event.now) (told_zero _ c.event_door.ensures c.in_ok-event_door.was) refl in
    other_replied _ c.type_inv.event t.0 t.1 (λ e. c.in_default.not-Some Equal (c.goal_head.ensures ∙ e))

pub returns-in_default-head : goal.returns-in_default-head
returns-in_default-head c =
    let t = event_open (read_event c.args.event.now) (told_zero _ c.event_door.ensures c.in_ok-event_door.was) refl in
    other_replied _ c.type_inv.event t.0 t.1 (λ e. c.in_default-head.not-Equal (let y : Some c.in-Some.head ≡ Some Equal = sym c.in-Some.is ∙ c.goal_head.ensures ∙ e in cc))

pub unify_goal-requires : goal.unify_goal-requires
unify_goal-requires c =
    let t = event_open (read_event c.args.event.now) (told_zero _ c.event_door.ensures c.in_ok-event_door.was) refl in
    equality_found _ c.type_inv.event t.0 t.1 (sym c.goal_head.ensures ∙ c.in-Some.is ∙ ap Some c.in-Equal.is)
