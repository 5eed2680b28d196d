use native.Mathlib.Omega.{arith}
use Rattle.records.specs.Ends.Range.{size}
use Rattle.records.specs.Ends.RangeLaws.{length_cut}
use Rattle.records.specs.Writing.PatchedLaws.{put_none}
use Rattle.answers.proofs.used.put_bet.Goals as goal

pub returns-then-is_used : goal.returns-then-is_used
unfolding size
returns-then-is_used c =
    let room = rw (← c.is_used.ensures, c.if-is_used.true) at c.requires.at_bound in
    let put = c.put_range.ensures in
    rw (← c.is_used.ensures, c.if-is_used.true)
    (record { place = omega (arith, length_cut c.requires.inside); output = put.output })

pub returns : goal.returns
returns c = rw (← c.is_used.ensures, c.if-is_used.false) put_none
