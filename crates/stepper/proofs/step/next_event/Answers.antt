use Rattle.stepper.specs.Step.AtomStepLaws.{forward_atom, program_read, atom_viewed}
use Rattle.stepper.specs.Step.EqualityStepLaws.{forward_equality, equality_viewed}
use Rattle.stepper.specs.Step.StepLaws.{calls_equality, calls_atom, view_halves, forward_nothing, forward_determined}
use Rattle.stepper.specs.Step.SteppedLaws.{determined_within, determined_no, determined_yes}
use Rattle.records.specs.Gate.Reply.{outcome_number}
use Rattle.std.proofs.lemmas.Result.{err_from_is_err_and}
use Rattle.records.specs.Format.Syntax.{call, exit, fail}
use Rattle.std.proofs.Common.{refl, ◌∙◌, ap}
use Rattle.std.specs.Prelude.{Some}
use Rattle.stepper.proofs.step.next_event.Goals as goal

pub event_view-v-requires : goal.event_view-v-requires
event_view-v-requires c = record { accepted = rw c.requires.both_passed.reads tt; ends_of = c.requires.ends_of }

pub settle_equality-requires : goal.settle_equality-requires
settle_equality-requires c = let w = c.requires.both_passed in let same = c.event_view-v.ensures w.event w.reads in record { equality_viewed = equality_viewed c.type_inv.event w same (calls_equality c.type_inv.event w same c.forward_rule-found.ensures (c.in-Some.is ∙ ap Some c.in-EqualCall.is)); in_bounds = c.requires.in_bounds }

pub settle_atom-requires : goal.settle_atom-requires
settle_atom-requires c = let w = c.requires.both_passed in let same = c.event_view-v.ensures w.event w.reads in record { program_read = program_read c.type_inv.event w same; atom_viewed = atom_viewed c.type_inv.event w same (calls_atom c.type_inv.event w same c.forward_rule-found.ensures (c.in-Some.is ∙ ap Some c.in-AtomCall.is)); in_bounds = c.requires.in_bounds }

pub half_refusal-requires : goal.half_refusal-requires
half_refusal-requires c =
    let w = c.requires.both_passed in view_halves c.type_inv.event w (c.event_view-v.ensures w.event w.reads)

pub emit_event-requires : goal.emit_event-requires
emit_event-requires c =
    let w = c.requires.both_passed in
    record { plan_inside = rw c.forward_plan.ensures (determined_within (forward_determined c.type_inv.event w (c.event_view-v.ensures w.event w.reads) c.forward_rule-found.ensures c.half_refusal.ensures c.in-Some.is c.in_default-rule.not-EqualCall c.in_default-rule.not-AtomCall) (ap outcome_number c.in_ok-half_refusal-in_default-rule.was)); in_bounds = c.requires.in_bounds }

pub returns-in_default : goal.returns-in_default
returns-in_default c =
    λ w. (forward_nothing c.type_inv.event w (c.event_view-v.ensures w.event w.reads) c.forward_rule-found.ensures c.in_default.is c.no_rule.ensures)

pub returns-in-EqualCall : goal.returns-in-EqualCall
returns-in-EqualCall c =
    λ w. let same = c.event_view-v.ensures w.event w.reads in let f = calls_equality c.type_inv.event w same c.forward_rule-found.ensures (c.in-Some.is ∙ ap Some c.in-EqualCall.is) in forward_equality c.type_inv.event w f (c.settle_equality.ensures (equality_viewed c.type_inv.event w same f) fail exit refl refl)

pub returns-in-AtomCall : goal.returns-in-AtomCall
returns-in-AtomCall c =
    λ w. let same = c.event_view-v.ensures w.event w.reads in let f = calls_atom c.type_inv.event w same c.forward_rule-found.ensures (c.in-Some.is ∙ ap Some c.in-AtomCall.is) in forward_atom c.type_inv.event w f (c.settle_atom.ensures (program_read c.type_inv.event w same) (atom_viewed c.type_inv.event w same f) fail call refl refl)

pub returns-in_err-half_refusal-in_default-rule : goal.returns-in_err-half_refusal-in_default-rule
returns-in_err-half_refusal-in_default-rule c =
    λ w. let p = err_from_is_err_and c.from_residual.result c.from_residual.ensures.1 in
    rw (p.1, p.2) (determined_no (forward_determined c.type_inv.event w (c.event_view-v.ensures w.event w.reads) c.forward_rule-found.ensures c.half_refusal.ensures c.in-Some.is c.in_default-rule.not-EqualCall c.in_default-rule.not-AtomCall) (ap outcome_number c.in_err-half_refusal-in_default-rule.was))

pub returns-in_ok-half_refusal-in_default-rule : goal.returns-in_ok-half_refusal-in_default-rule
returns-in_ok-half_refusal-in_default-rule c =
    λ w. determined_yes (forward_determined c.type_inv.event w (c.event_view-v.ensures w.event w.reads) c.forward_rule-found.ensures c.half_refusal.ensures c.in-Some.is c.in_default-rule.not-EqualCall c.in_default-rule.not-AtomCall) (ap outcome_number c.in_ok-half_refusal-in_default-rule.was) (rw c.forward_plan.ensures at c.emit_event.ensures)
