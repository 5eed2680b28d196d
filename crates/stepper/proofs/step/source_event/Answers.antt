use Rattle.stepper.specs.Step.AtomStepLaws.{back_atom, program_read, atom_viewed}
use Rattle.stepper.specs.Step.EqualityStepLaws.{back_equality, equality_viewed}
use Rattle.stepper.specs.Step.LastSevenLaws.{back_exit, back_called, unifier_viewed, body_viewed}
use Rattle.stepper.specs.Step.StepLaws.{exits_equality, fails_equality, calls_body, fails_atom, view_halves, back_nothing, back_determined}
use Rattle.stepper.specs.Step.SteppedLaws.{determined_within, determined_no, determined_yes}
use Rattle.records.specs.Gate.Reply.{outcome_number}
use Rattle.std.proofs.lemmas.Result.{err_from_is_err_and}
use Rattle.records.specs.Format.Syntax.{call, fail, redo}
use Rattle.std.proofs.Common.{refl, ◌∙◌, ap}
use Rattle.std.specs.Prelude.{Some}
use Rattle.stepper.proofs.step.source_event.Goals as goal

pub event_view-v-requires : goal.event_view-v-requires
event_view-v-requires c = record { accepted = rw c.requires.both_passed.reads tt; ends_of = c.requires.ends_of }

pub same_unifier-requires : goal.same_unifier-requires
same_unifier-requires c =
    let w = c.requires.both_passed in let same = c.event_view-v.ensures w.event w.reads in unifier_viewed c.type_inv.event w same (exits_equality c.type_inv.event w same c.back_rule-found.ensures (c.in-Some.is ∙ ap Some c.in-EqualCall.is))

pub emit_event-requires : goal.emit_event-requires
emit_event-requires c =
    let w = c.requires.both_passed in
    let same = c.event_view-v.ensures w.event w.reads in
    let f = exits_equality c.type_inv.event w same c.back_rule-found.ensures (c.in-Some.is ∙ ap Some c.in-EqualCall.is) in
    record { plan_inside = rw (c.back_plan.ensures, c.in-EqualCall.is) (determined_within (back_exit c.type_inv.event w same f (c.same_unifier.ensures (unifier_viewed c.type_inv.event w same f))) (ap outcome_number c.in_ok-same_unifier-in-EqualCall.was)); in_bounds = c.requires.in_bounds }

pub settle_equality-requires : goal.settle_equality-requires
settle_equality-requires c = let w = c.requires.both_passed in let same = c.event_view-v.ensures w.event w.reads in record { equality_viewed = equality_viewed c.type_inv.event w same (fails_equality c.type_inv.event w same c.back_rule-found.ensures (c.in-Some.is ∙ ap Some c.in-EqualRedo.is)); in_bounds = c.requires.in_bounds }

pub same_body-requires : goal.same_body-requires
same_body-requires c = let w = c.requires.both_passed in let same = c.event_view-v.ensures w.event w.reads in record { program_read = program_read c.type_inv.event w same; body_viewed = body_viewed c.type_inv.event w same (calls_body c.type_inv.event w same c.back_rule-found.ensures (c.in-Some.is ∙ ap Some c.in-AtomCall.is)) }

pub emit_event-requires-in-AtomCall : goal.emit_event-requires-in-AtomCall
emit_event-requires-in-AtomCall c =
    let w = c.requires.both_passed in
    let same = c.event_view-v.ensures w.event w.reads in
    let f = calls_body c.type_inv.event w same c.back_rule-found.ensures (c.in-Some.is ∙ ap Some c.in-AtomCall.is) in
    record { plan_inside = rw (c.back_plan-in-AtomCall.ensures, c.in-AtomCall.is) (determined_within (back_called c.type_inv.event w same f (c.same_body.ensures (program_read c.type_inv.event w same) (body_viewed c.type_inv.event w same f))) (ap outcome_number c.in_ok-same_body-in-AtomCall.was)); in_bounds = c.requires.in_bounds }

pub settle_atom-requires : goal.settle_atom-requires
settle_atom-requires c = let w = c.requires.both_passed in let same = c.event_view-v.ensures w.event w.reads in record { program_read = program_read c.type_inv.event w same; atom_viewed = atom_viewed c.type_inv.event w same (fails_atom c.type_inv.event w same c.back_rule-found.ensures (c.in-Some.is ∙ ap Some c.in-AtomFail.is)); in_bounds = c.requires.in_bounds }

pub half_refusal-requires : goal.half_refusal-requires
half_refusal-requires c =
    let w = c.requires.both_passed in view_halves c.type_inv.event w (c.event_view-v.ensures w.event w.reads)

pub emit_event-requires-in_default-rule : goal.emit_event-requires-in_default-rule
emit_event-requires-in_default-rule c =
    let w = c.requires.both_passed in
    record { plan_inside = rw c.back_plan-in_default-rule.ensures (determined_within (back_determined c.type_inv.event w (c.event_view-v.ensures w.event w.reads) c.back_rule-found.ensures c.half_refusal.ensures c.in-Some.is c.in_default-rule.not-EqualCall c.in_default-rule.not-EqualRedo c.in_default-rule.not-AtomCall c.in_default-rule.not-AtomFail) (ap outcome_number c.in_ok-half_refusal-in_default-rule.was)); in_bounds = c.requires.in_bounds }

pub returns-in_default : goal.returns-in_default
returns-in_default c =
    λ w. (back_nothing c.type_inv.event w (c.event_view-v.ensures w.event w.reads) c.back_rule-found.ensures c.in_default.is c.no_source.ensures)

pub returns-in_err-same_unifier-in-EqualCall : goal.returns-in_err-same_unifier-in-EqualCall
returns-in_err-same_unifier-in-EqualCall c =
    λ w. let same = c.event_view-v.ensures w.event w.reads in
    let f = exits_equality c.type_inv.event w same c.back_rule-found.ensures (c.in-Some.is ∙ ap Some c.in-EqualCall.is) in
    let p = err_from_is_err_and c.from_residual.result c.from_residual.ensures.1 in
    rw (p.1, p.2) (determined_no (back_exit c.type_inv.event w same f (c.same_unifier.ensures (unifier_viewed c.type_inv.event w same f))) (ap outcome_number c.in_err-same_unifier-in-EqualCall.was))

pub returns-in_ok-same_unifier-in-EqualCall : goal.returns-in_ok-same_unifier-in-EqualCall
returns-in_ok-same_unifier-in-EqualCall c =
    λ w. let same = c.event_view-v.ensures w.event w.reads in
    let f = exits_equality c.type_inv.event w same c.back_rule-found.ensures (c.in-Some.is ∙ ap Some c.in-EqualCall.is) in
    determined_yes (back_exit c.type_inv.event w same f (c.same_unifier.ensures (unifier_viewed c.type_inv.event w same f))) (ap outcome_number c.in_ok-same_unifier-in-EqualCall.was) (rw (c.back_plan.ensures, c.in-EqualCall.is) at c.emit_event.ensures)

pub returns-in-EqualRedo : goal.returns-in-EqualRedo
returns-in-EqualRedo c =
    λ w. let same = c.event_view-v.ensures w.event w.reads in let f = fails_equality c.type_inv.event w same c.back_rule-found.ensures (c.in-Some.is ∙ ap Some c.in-EqualRedo.is) in back_equality c.type_inv.event w f (c.settle_equality.ensures (equality_viewed c.type_inv.event w same f) call redo refl refl)

pub returns-in_err-same_body-in-AtomCall : goal.returns-in_err-same_body-in-AtomCall
returns-in_err-same_body-in-AtomCall c =
    λ w. let same = c.event_view-v.ensures w.event w.reads in
    let f = calls_body c.type_inv.event w same c.back_rule-found.ensures (c.in-Some.is ∙ ap Some c.in-AtomCall.is) in
    let p = err_from_is_err_and c.from_residual-in_err-same_body-in-AtomCall.result c.from_residual-in_err-same_body-in-AtomCall.ensures.1 in
    rw (p.1, p.2) (determined_no (back_called c.type_inv.event w same f (c.same_body.ensures (program_read c.type_inv.event w same) (body_viewed c.type_inv.event w same f))) (ap outcome_number c.in_err-same_body-in-AtomCall.was))

pub returns-in_ok-same_body-in-AtomCall : goal.returns-in_ok-same_body-in-AtomCall
returns-in_ok-same_body-in-AtomCall c =
    λ w. let same = c.event_view-v.ensures w.event w.reads in
    let f = calls_body c.type_inv.event w same c.back_rule-found.ensures (c.in-Some.is ∙ ap Some c.in-AtomCall.is) in
    determined_yes (back_called c.type_inv.event w same f (c.same_body.ensures (program_read c.type_inv.event w same) (body_viewed c.type_inv.event w same f))) (ap outcome_number c.in_ok-same_body-in-AtomCall.was) (rw (c.back_plan-in-AtomCall.ensures, c.in-AtomCall.is) at c.emit_event-in-AtomCall.ensures)

pub returns-in-AtomFail : goal.returns-in-AtomFail
returns-in-AtomFail c =
    λ w. let same = c.event_view-v.ensures w.event w.reads in let f = fails_atom c.type_inv.event w same c.back_rule-found.ensures (c.in-Some.is ∙ ap Some c.in-AtomFail.is) in back_atom c.type_inv.event w f (c.settle_atom.ensures (program_read c.type_inv.event w same) (atom_viewed c.type_inv.event w same f) call fail refl refl)

pub returns-in_err-half_refusal-in_default-rule : goal.returns-in_err-half_refusal-in_default-rule
returns-in_err-half_refusal-in_default-rule c =
    λ w. let p = err_from_is_err_and c.from_residual-in_err-half_refusal-in_default-rule.result c.from_residual-in_err-half_refusal-in_default-rule.ensures.1 in
    rw (p.1, p.2) (determined_no (back_determined c.type_inv.event w (c.event_view-v.ensures w.event w.reads) c.back_rule-found.ensures c.half_refusal.ensures c.in-Some.is c.in_default-rule.not-EqualCall c.in_default-rule.not-EqualRedo c.in_default-rule.not-AtomCall c.in_default-rule.not-AtomFail) (ap outcome_number c.in_err-half_refusal-in_default-rule.was))

pub returns-in_ok-half_refusal-in_default-rule : goal.returns-in_ok-half_refusal-in_default-rule
returns-in_ok-half_refusal-in_default-rule c =
    λ w. determined_yes (back_determined c.type_inv.event w (c.event_view-v.ensures w.event w.reads) c.back_rule-found.ensures c.half_refusal.ensures c.in-Some.is c.in_default-rule.not-EqualCall c.in_default-rule.not-EqualRedo c.in_default-rule.not-AtomCall c.in_default-rule.not-AtomFail) (ap outcome_number c.in_ok-half_refusal-in_default-rule.was) (rw c.back_plan-in_default-rule.ensures at c.emit_event-in_default-rule.ensures)
