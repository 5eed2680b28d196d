-- `put_pair` writes one pair.
use Rattle.terms.specs.Unifier.LeastLaws.{pair_put}
use Rattle.terms.proofs.unifier.put_pair.Goals as goal

pub returns : goal.returns
returns c =
    pair_put _ _ _ c.requires.class_table _ _ _ c.requires.pair_fits _ _ c.put_word-e.ensures _ c.write_term.ensures
