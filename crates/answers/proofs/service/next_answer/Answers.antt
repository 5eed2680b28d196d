use mathlib.Core.Path.{sym, ◌∙◌}
use native.Mathlib.Omega.{arith}
use lib.Seq.{length-take-le}
use borrow.Author.Tests.{not-true, not-false}
use borrow.Author.Rules.{rules}
use Rattle.records.specs.Format.HeadLaws.{front_known}
use Rattle.records.specs.Gate.GateLaws.{tree_injective}
use Rattle.terms.specs.Values.ValueLaws.{event_bets}
use Rattle.answers.specs.Writing.ListingLaws.{list_passed, ran_exit, written_inside, taken_small, turned_stop, here_told, answer_inside, turned}
use Rattle.std.proofs.Common.{ap, not}
use Rattle.answers.proofs.service.next_answer.Goals as goal

pub stopped_listing-requires : goal.stopped_listing-requires
stopped_listing-requires c = let g = c.requires.by_index.3 in omega (arith, c.ranges, taken_small g (ran_exit g c.exit_order.ensures (c.run_here-r.ensures (list_passed g))))

pub returns-then-not-is_met : goal.returns-then-not-is_met
returns-then-not-is_met c =
    λ ds q before g.
    turned_stop g (ran_exit g c.exit_order.ensures (c.run_here-r.ensures (list_passed g))) c.stopped_listing.ensures (sym c.is_met.ensures ∙ not-true _ (ap not c.if-not-is_met.true))

pub slice_bounds-places_by-end : goal.slice_bounds-places_by-end
slice_bounds-places_by-end c = (c.run_here-r.ensures (list_passed c.requires.by_index.3)).inside

pub slice_bounds-places_by-end-2 : goal.slice_bounds-places_by-end-2
slice_bounds-places_by-end-2 c = sym (length-take-le _ _ (c.run_here-r.ensures (list_passed c.requires.by_index.3)).inside)

pub places_by-parts-requires : goal.places_by-parts-requires
places_by-parts-requires c = let ran = ran_exit c.requires.by_index.3 c.exit_order.ensures (c.run_here-r.ensures (list_passed c.requires.by_index.3)) in
    record { accepted = rw ran.reads tt; ends_of = λ e h. rw (← (tree_injective (sym ran.reads ∙ h))) ran.tells.ends_are }

pub slice_bounds-put_answer-end : goal.slice_bounds-put_answer-end
slice_bounds-put_answer-end c = (c.run_here-r.ensures (list_passed c.requires.by_index.3)).inside

pub slice_bounds-put_answer-end-2 : goal.slice_bounds-put_answer-end-2
slice_bounds-put_answer-end-2 c = sym (length-take-le _ _ (c.run_here-r.ensures (list_passed c.requires.by_index.3)).inside)

pub slice_bounds-put_answer-count : goal.slice_bounds-put_answer-count
slice_bounds-put_answer-count c = written_inside c.requires.by_index.3

pub slice_bounds-put_answer-start : goal.slice_bounds-put_answer-start
slice_bounds-put_answer-start c = written_inside c.requires.by_index.3

pub put_answer-answer-requires-clause-ruled_bets : goal.put_answer-answer-requires-clause-ruled_bets
put_answer-answer-requires-clause-ruled_bets c =
    let ran = ran_exit c.requires.by_index.3 c.exit_order.ensures (c.run_here-r.ensures (list_passed c.requires.by_index.3)) in
    let known = front_known c.run_here-r.result.length c.run_here-r.new.here (search rules) in
    (event_bets _ known _ ran.reads (c.places_by-parts.ensures _ ran.reads)).bets

pub answered_listing-requires : goal.answered_listing-requires
answered_listing-requires c =
    let g = c.requires.by_index.3 in
    let ran = ran_exit g c.exit_order.ensures (c.run_here-r.ensures (list_passed g)) in
    let known = front_known c.run_here-r.result.length c.run_here-r.new.here (search rules) in
    let b = event_bets _ known _ ran.reads (c.places_by-parts.ensures _ ran.reads) in
    let is = sym c.is_met.ensures ∙ not-false _ (ap not c.if-not-is_met.false) in
    (omega (arith, c.ranges, taken_small g ran), omega (arith, c.well_formed, answer_inside g ran is (here_told g ran is b.are) _ (c.put_answer-answer.ensures b.bets)))

pub returns : goal.returns
returns c =
    λ ds q before g.
    let ran = ran_exit g c.exit_order.ensures (c.run_here-r.ensures (list_passed g)) in
    let known = front_known c.run_here-r.result.length c.run_here-r.new.here (search rules) in
    let b = event_bets _ known _ ran.reads (c.places_by-parts.ensures _ ran.reads) in
    let is = sym c.is_met.ensures ∙ not-false _ (ap not c.if-not-is_met.false) in
    turned g ran is (here_told g ran is b.are) _ (c.put_answer-answer.ensures b.bets) c.answered_listing.ensures
