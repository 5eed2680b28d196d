use Rattle.std.proofs.Common.{refl, sym, ◌∙◌, arith}
use Rattle.stepper.specs.Run.RunLoop.{standing_on}
use Rattle.stepper.specs.Run.RunLoopLaws.{keeps_on, keeps_stopped, keeps_all}
use Rattle.stepper.proofs.run.run_on.Goals as goal

pub loop-init : goal.loop-init
loop-init c = (λ g. (g.going, g.held), refl)

pub run_turn-last-requires-clause-run_stands : goal.run_turn-last-requires-clause-run_stands
run_turn-last-requires-clause-run_stands c = standing_on c.requires.run_stands (c.loop.invariant.0 c.requires.run_stands)

pub run_turn-last-requires-clause-taken_bound : goal.run_turn-last-requires-clause-taken_bound
run_turn-last-requires-clause-taken_bound c = omega (arith, c.loop.invariant.1, c.loop-test.true)

pub returns-then-has_stopped : goal.returns-then-has_stopped
returns-then-has_stopped c =
    let inv = c.loop.invariant in
    λ g. keeps_stopped g _ (c.run_turn-last.ensures (standing_on g (inv.0 g))) _ (omega (arith, inv.1, c.loop-test.true)) (sym c.has_stopped.ensures ∙ c.if-has_stopped.true)

pub loop-preserved : goal.loop-preserved
loop-preserved c =
    let inv = c.loop.invariant in
    (λ g. (keeps_on g _ (c.run_turn-last.ensures (standing_on g (inv.0 g))) (sym c.has_stopped.ensures ∙ c.if-has_stopped.false)).1, omega (arith, inv.1, (keeps_on c.requires.run_stands _ (c.run_turn-last.ensures (standing_on c.requires.run_stands (inv.0 c.requires.run_stands))) (sym c.has_stopped.ensures ∙ c.if-has_stopped.false)).0))

pub returns : goal.returns
returns c =
    let inv = c.loop.invariant in
    λ g. keeps_all g _ (inv.0 g) (omega (arith, inv.1, c.loop-test.false))
