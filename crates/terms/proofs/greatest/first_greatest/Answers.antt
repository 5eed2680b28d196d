-- `first_greatest` finds the greatest of all, and asks bets, goal and ancestors in this order whether it is theirs.
use native.Mathlib.Omega.{arith}
use Rattle.terms.specs.Body.GreatestLaws.{overall, in_bets, in_goal, in_ancestors, nowhere}
use Rattle.terms.proofs.greatest.first_greatest.Goals as goal

pub returns-then-top-eq0 : goal.returns-then-top-eq0
returns-then-top-eq0 c = λ b g u h i j. let t = overall b g u h i j c.max.ensures c.max-top.ensures in nowhere b g u (omega (arith, t))

pub returns-then-bets-top : goal.returns-then-bets-top
returns-then-bets-top c =
    λ b g u h i j. let t = overall b g u h i j c.max.ensures c.max-top.ensures in
    in_bets b g u _ (omega (arith, t)) (omega (arith, h))

pub returns-then-goal-top : goal.returns-then-goal-top
returns-then-goal-top c =
    λ b g u h i j. let t = overall b g u h i j c.max.ensures c.max-top.ensures in
    in_goal b g u _ (omega (arith, t)) (λ e. omega (arith, h)) (omega (arith, i))

pub returns : goal.returns
returns c =
    λ b g u h i j. let t = overall b g u h i j c.max.ensures c.max-top.ensures in
    in_ancestors b g u _ (omega (arith, t)) (λ e. omega (arith, h)) (λ e. omega (arith, i))
