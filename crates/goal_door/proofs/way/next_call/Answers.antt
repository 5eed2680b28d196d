use mathlib.Core.Path.{sym}
use native.Mathlib.Omega.{arith}
use lib.Seq.{length-take-le}
use borrow.Author.Tests.{not-true, not-false}
use Rattle.std.proofs.Common.{ap, not, ⊎_elim}
use Rattle.records.specs.Gate.Reply.{outcome_number}
use Rattle.stepper.specs.Run.RunLoop.{met_case, run_outcome}
use Rattle.stepper.specs.Plans.ViewLaws.{ends_known}
use Rattle.goal_door.specs.Way.GoingLaws.{way_passed, ran_ahead, taken_small, ahead_passed, turned_door, turned_on, turned_refused, turned_spent}
use Rattle.goal_door.proofs.way.next_call.Goals as goal

pub way_at-standing-requires : goal.way_at-standing-requires
way_at-standing-requires c =
    let g = c.requires.way_stands.2 in
    let ran = ran_ahead g c.call_order-order.ensures (c.requires.places_of.1 _ g.sought) (c.run_here-r.ensures (way_passed g)) in
    omega (arith, c.ranges, taken_small g ran)

pub slice_bounds-places_by-end : goal.slice_bounds-places_by-end
slice_bounds-places_by-end c = let g = c.requires.way_stands.2 in (c.run_here-r.ensures (way_passed g)).inside

pub slice_bounds-places_by-end-in-Met : goal.slice_bounds-places_by-end-in-Met
slice_bounds-places_by-end-in-Met c = let g = c.requires.way_stands.2 in sym (length-take-le _ _ (c.run_here-r.ensures (way_passed g)).inside)

pub places_by-found-requires : goal.places_by-found-requires
places_by-found-requires c = let ran = c.run_here-r.ensures (way_passed c.requires.way_stands.2) in
    record { accepted = rw ran.reads tt; ends_of = ends_known _ ran.reads ran.tells.ends_are }

pub slice_bounds-is_door-end : goal.slice_bounds-is_door-end
slice_bounds-is_door-end c = let g = c.requires.way_stands.2 in (c.run_here-r.ensures (way_passed g)).inside

pub slice_bounds-is_door-end-in-Met : goal.slice_bounds-is_door-end-in-Met
slice_bounds-is_door-end-in-Met c = let g = c.requires.way_stands.2 in sym (length-take-le _ _ (c.run_here-r.ensures (way_passed g)).inside)

pub is_door-requires-clause-places_of_2 : goal.is_door-requires-clause-places_of_2
is_door-requires-clause-places_of_2 c =
    let ran = c.run_here-r.ensures (way_passed c.requires.way_stands.2) in
    (rw ran.reads tt, c.places_by-found.ensures)

pub returns-then-not-is_door : goal.returns-then-not-is_door
returns-then-not-is_door c =
    λ ds e g.
    let ran = ran_ahead g c.call_order-order.ensures (c.requires.places_of.1 _ g.sought) (c.run_here-r.ensures (way_passed g)) in
    turned_on g ran (ap met_case c.in-Met.is) (c.is_door.ensures _ _ g.sought ran.reads) (not-true _ (ap not c.if-not-is_door.true)) c.way_at-standing.ensures

pub returns-else-not-is_door : goal.returns-else-not-is_door
returns-else-not-is_door c =
    λ ds e g.
    let ran = ran_ahead g c.call_order-order.ensures (c.requires.places_of.1 _ g.sought) (c.run_here-r.ensures (way_passed g)) in
    turned_door g ran (ap met_case c.in-Met.is) (c.is_door.ensures _ _ g.sought ran.reads) (not-false _ (ap not c.if-not-is_door.false)) c.way_at-standing.ensures

pub returns-in-Refused : goal.returns-in-Refused
returns-in-Refused c =
    λ ds e g.
    let ran = ran_ahead g c.call_order-order.ensures (c.requires.places_of.1 _ g.sought) (c.run_here-r.ensures (way_passed g)) in
    turned_refused g ran (ap met_case c.in-Refused.is) c.in-Refused.is c.way_at-standing.ensures

pub slice_bounds-next_refusal-end : goal.slice_bounds-next_refusal-end
slice_bounds-next_refusal-end c = let g = c.requires.way_stands.2 in (c.run_here-r.ensures (way_passed g)).inside

pub slice_bounds-next_refusal-end-in-Spent : goal.slice_bounds-next_refusal-end-in-Spent
slice_bounds-next_refusal-end-in-Spent c = let g = c.requires.way_stands.2 in sym (length-take-le _ _ (c.run_here-r.ensures (way_passed g)).inside)

pub next_refusal-requires : goal.next_refusal-requires
next_refusal-requires c = let g = c.requires.way_stands.2 in
    let ran = ran_ahead g c.call_order-order.ensures (c.requires.places_of.1 _ g.sought) (c.run_here-r.ensures (way_passed g)) in
    record { both_passed = ahead_passed g ran; ends_of = ends_known _ ran.reads ran.tells.ends_are }

pub returns-in-Spent : goal.returns-in-Spent
returns-in-Spent c =
    λ ds e g.
    let ran = ran_ahead g c.call_order-order.ensures (c.requires.places_of.1 _ g.sought) (c.run_here-r.ensures (way_passed g)) in
    let unmet = ⊎_elim (λ h. ap met_case h) (λ h. ap met_case h) c.in-Spent.is in
    let done = ⊎_elim (λ h. ap (λ s. outcome_number (run_outcome s)) h) (λ h. ap (λ s. outcome_number (run_outcome s)) h) c.in-Spent.is in
    turned_spent g ran unmet done (c.next_refusal.ensures (ahead_passed g ran)) c.way_at-standing.ensures
