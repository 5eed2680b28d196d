-- `greatest_variable` takes what is above each part.
use Rattle.terms.specs.Body.TopLaws.{goal_on, goal_top}
use Rattle.std.proofs.Common.{rules}
use Rattle.terms.proofs.greatest.greatest_variable.Goals as goal

pub stack_top-bets-requires : goal.stack_top-bets-requires
stack_top-bets-requires c = search rules

pub variables_top-goal-requires : goal.variables_top-goal-requires
variables_top-goal-requires c = goal_on c.requires.goal

pub returns : goal.returns
returns c =
    λ f. c.first_greatest.ensures _ _ _ (c.stack_top-bets.ensures f.bets)
    (goal_top f.goal c.variables_top-goal.ensures).top (c.stack_top-ancestors.ensures f.ancestors)
