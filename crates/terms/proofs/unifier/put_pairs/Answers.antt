use Rattle.terms.specs.Unifier.GivesLaws.{pairs_writing_start, writing_few, writing_fits, writing_step, writing_end}
use Rattle.std.proofs.Common.{arith}
use Rattle.terms.proofs.unifier.put_pairs.Goals as goal

pub loop-i-init : goal.loop-i-init
loop-i-init c = pairs_writing_start _ _ _ _

pub put_pair-end-requires-clause-pair_fits : goal.put_pair-end-requires-clause-pair_fits
put_pair-end-requires-clause-pair_fits c =
    writing_fits _ _ _ c.requires.class_table _ _ c.requires.pairs_fit _ _ _ _ c.loop-i.invariant _ c.in-Some.ensures

pub overflow_add-count : goal.overflow_add-count
overflow_add-count c =
    let h = writing_few _ _ _ c.requires.class_table _ _ c.requires.pairs_fit _ _ _ _ c.loop-i.invariant in omega arith

pub loop-i-preserved : goal.loop-i-preserved
loop-i-preserved c =
    writing_step _ _ _ c.requires.class_table _ _ c.requires.pairs_fit _ _ _ _ c.loop-i.invariant _ c.in-Some.ensures _ _ c.put_pair-end.ensures c.put_pair-end.auto.out

pub returns : goal.returns
returns c = writing_end _ _ _ c.requires.class_table _ _ c.requires.pairs_fit _ _ _ _ c.loop-i.invariant c.in_default.ensures
