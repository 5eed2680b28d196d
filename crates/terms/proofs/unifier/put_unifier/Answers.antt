-- `put_unifier` writes the pairs and then their count in front.
use Rattle.terms.specs.Unifier.UnifierAnswerLaws.{unifier_put}
use Rattle.terms.proofs.unifier.put_unifier.Goals as goal

pub returns : goal.returns
returns c = unifier_put _ _ _ _ _ _ c.requires _ _ c.put_pairs-p.ensures _ _ c.put_word.ensures
