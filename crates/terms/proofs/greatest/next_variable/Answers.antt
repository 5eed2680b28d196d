-- `next_variable` is read off the greatest variable.
use mathlib.Core.Path.{◌∙◌, ap}
use Rattle.terms.specs.Body.Greatest.{next_after}
use Rattle.terms.specs.Body.GreatestLaws.{next_read, next_after_formed}
use Rattle.terms.proofs.greatest.next_variable.Goals as goal

pub next_after-requires : goal.next_after-requires
next_after-requires c =
    rw (c.greatest_variable.ensures c.requires) (next_after_formed c.requires.goal.item c.requires.ancestors.items c.requires.bets.items c.requires.goal.formed c.requires.ancestors.formed c.requires.bets.formed)

pub returns : goal.returns
returns c = λ f. c.next_after.ensures ∙ ap next_after (c.greatest_variable.ensures f) ∙ next_read _ _ _
