use Rattle.std.proofs.Math.Path.{refl}
use mathlib.Core.Path.{◌≡◌, sym}
use native.Mathlib.Omega.{arith}
use lib.ListN.{length}
use lib.Seq.{length-take-le}
use borrow.Author.Rules.{rules}
use Rattle.records.specs.Writing.PatchedLaws.{put_length}
use Rattle.walk_text.specs.RestLaws.{log_inside, lines_room, lines_fit, not_full, page_goes, page_ends}
use Rattle.walk_text.proofs.text.walk_page.Goals as goal

pub slice_bounds-log-end : goal.slice_bounds-log-end
slice_bounds-log-end c = let ran = rw c.walk_order.ensures at (c.run_from-end.ensures c.requires.both_passed) in
    log_inside c.requires.both_passed c.args.first c.requires.first_le_step_limit (search rules) ran

pub slice_bounds-put_lines-end-2 : goal.slice_bounds-put_lines-end-2
slice_bounds-put_lines-end-2 c =
    let ran = rw c.walk_order.ensures at (c.run_from-end.ensures c.requires.both_passed) in
    sym (length-take-le _ _ (log_inside c.requires.both_passed c.args.first c.requires.first_le_step_limit (search rules) ran))

pub returns-in-Full : goal.returns-in-Full
returns-in-Full c =
    let n : length c.args.page.now ≡ 65536 = search rules in
    let put = c.put_lines-used.ensures in
    let ran = rw c.walk_order.ensures at (c.run_from-end.ensures c.requires.both_passed) in
    let room = lines_room c.requires.both_passed c.args.first c.requires.first_le_step_limit (search rules) ran c.args.page.now n c.requires.at_bound in
    λ w query.
    page_goes w c.args.first c.requires.first_le_step_limit (search rules) (rw c.walk_order.ensures at (c.run_from-end.ensures w)) (rw c.in-Full.is refl) put.put (omega (arith, room.1, put.within, put_length put.put)) (search rules)

pub returns-in_default : goal.returns-in_default
returns-in_default c =
    let n : length c.args.page.now ≡ 65536 = search rules in
    let put = c.put_lines-used.ensures in
    let stop = rw (c.outcome_number.ensures, c.outcome.ensures) at c.put_stop.ensures in
    let fit = lines_fit c.requires.both_passed c.args.first c.requires.first_le_step_limit (search rules) (rw c.walk_order.ensures at (c.run_from-end.ensures c.requires.both_passed)) n c.requires.at_bound put.put put.within in
    λ w query.
    page_ends w c.args.first c.requires.first_le_step_limit (search rules) (rw c.walk_order.ensures at (c.run_from-end.ensures w)) (not_full _ c.in_default.not-Full) put.put stop.put (omega (arith, fit, put_length stop.put, stop.within))
