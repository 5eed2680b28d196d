use native.Mathlib.Omega.{arith}
use Rattle.std.specs.Prelude.{◌≡◌, Some, None, Ok}
use Rattle.std.proofs.Common.{◌∙◌, ap}
use Rattle.std.proofs.lemmas.Result.{err_from_is_err_and}
use Rattle.terms.specs.Unifier.Equality.{as_refusal}
use Rattle.stepper.specs.Step.CompletedLaws.{lent_kept, handed_room}
use Rattle.stepper.specs.Step.EqualityStepLaws.{equality_bets, equality_left, equality_right, clash_within, equality_order, equality_clash, unifier_room, equality_found, equality_refused, told_as}
use Rattle.stepper.specs.Step.SteppedLaws.{event_short}
use Rattle.stepper.proofs.settle.settle_equality.Goals as goal

pub overflow_add-v : goal.overflow_add-v
overflow_add-v c = let o = equality_order c.type_inv.event c.requires.equality_viewed in omega arith

pub gap-from-requires : goal.gap-from-requires
gap-from-requires c = let o = equality_order c.type_inv.event c.requires.equality_viewed in omega arith

pub unifier_under-requires-clause-equality_under : goal.unifier_under-requires-clause-equality_under
unifier_under-requires-clause-equality_under c =
    let w = c.requires.equality_viewed in
    rw (c.first.ensures, c.second.ensures) (equality_bets c.type_inv.event w, equality_left c.type_inv.event w, equality_right c.type_inv.event w)

pub unifier_under-requires-clause-event_len_bound : goal.unifier_under-requires-clause-event_len_bound
unifier_under-requires-clause-event_len_bound c = event_short _ c.type_inv.event c.requires.equality_viewed.reads

pub returns-in_err-unifier : goal.returns-in_err-unifier
returns-in_err-unifier c =
    λ w p q cp fp.
    let g = c.gap-from.ensures in
    let l = c.requires.in_bounds in
    let h = told_as ((rw (c.first.ensures, c.second.ensures) at c.unifier_under.ensures) (equality_bets c.type_inv.event w) (equality_left c.type_inv.event w) (equality_right c.type_inv.event w)) c.in_err-unifier.was in
    let r = err_from_is_err_and c.from_residual.result c.from_residual.ensures.1 in
    let same : r.0 ≡ as_refusal c.in_err-unifier.field-0.0 = r.2.0 in
    rw (r.1, same) (equality_refused c.type_inv.event w p q cp fp g _ l _ h (λ e. lent_kept g _ l e))

pub emit_event-requires : goal.emit_event-requires
emit_event-requires c =
    let w = c.requires.equality_viewed in
    let l = c.requires.in_bounds in
    let e : c.unifier_under.result ≡ Ok None = c.in_ok-unifier.was ∙ ap Ok c.in-None.is in
    let h = told_as ((rw (c.first.ensures, c.second.ensures) at c.unifier_under.ensures) (equality_bets c.type_inv.event w) (equality_left c.type_inv.event w) (equality_right c.type_inv.event w)) e in
    record { plan_inside = rw c.kept.ensures (clash_within c.type_inv.event w _); in_bounds = rw (lent_kept c.gap-from.ensures _ l h.1) l }

pub with_unifier-requires : goal.with_unifier-requires
with_unifier-requires c =
    let w = c.requires.equality_viewed in
    let l = c.requires.in_bounds in
    let g = c.gap-from.ensures in
    let e : c.unifier_under.result ≡ Ok (Some c.in-Some.n) = c.in_ok-unifier.was ∙ ap Ok c.in-Some.is in
    let h = told_as ((rw (c.first.ensures, c.second.ensures) at c.unifier_under.ensures) (equality_bets c.type_inv.event w) (equality_left c.type_inv.event w) (equality_right c.type_inv.event w)) e in
    record { in_order = equality_order c.type_inv.event w; n_len_bound = unifier_room g _ l h; in_bounds = handed_room g _ l h.put }

pub returns-in-None : goal.returns-in-None
returns-in-None c =
    λ w p q cp fp.
    let l = c.requires.in_bounds in
    let e : c.unifier_under.result ≡ Ok None = c.in_ok-unifier.was ∙ ap Ok c.in-None.is in
    let h = told_as ((rw (c.first.ensures, c.second.ensures) at c.unifier_under.ensures) (equality_bets c.type_inv.event w) (equality_left c.type_inv.event w) (equality_right c.type_inv.event w)) e in
    equality_clash c.type_inv.event w p q cp fp h.0 (lent_kept c.gap-from.ensures _ l h.1) (rw c.kept.ensures at c.emit_event.ensures)

pub returns-in-Some : goal.returns-in-Some
returns-in-Some c =
    λ w p q cp fp.
    let e : c.unifier_under.result ≡ Ok (Some c.in-Some.n) = c.in_ok-unifier.was ∙ ap Ok c.in-Some.is in
    equality_found c.type_inv.event w p q cp fp c.gap-from.ensures _ c.requires.in_bounds (told_as ((rw (c.first.ensures, c.second.ensures) at c.unifier_under.ensures) (equality_bets c.type_inv.event w) (equality_left c.type_inv.event w) (equality_right c.type_inv.event w)) e) c.with_unifier.ensures
