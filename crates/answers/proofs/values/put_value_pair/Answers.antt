use native.Mathlib.Omega.{arith}
use Rattle.records.specs.Writing.PatchedLaws.{put_then, put_length}
use Rattle.answers.specs.Writing.ValuesLaws.{value_not_large, value_inside, value_length, value_cut}
use Rattle.answers.proofs.values.put_value_pair.Goals as goal

pub returns-in_default : goal.returns-in_default
returns-in_default c = λ bets l f. value_not_large (c.listed_variable.ensures bets l) f.within c.in_default.is

pub put_range-requires : goal.put_range-requires
put_range-requires c = let pre = c.requires.pairs_of in
    let a = c.listed_variable.ensures pre.0 pre.1 in
    let e = c.in-Some.is in
    let put = c.put_word-term_at.ensures in
    record { inside = value_inside a pre.2.within e; from_in_bounds = omega (arith, value_length a pre.2.within e, pre.2.room_left, put.place, put_length put) }

pub returns : goal.returns
returns c = λ bets l f.
    put_then c.put_word-term_at.ensures (rw (value_cut (c.listed_variable.ensures bets l) f.within c.in-Some.is) at c.put_range.ensures)
