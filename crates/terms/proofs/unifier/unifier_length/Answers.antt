use Rattle.terms.specs.Unifier.GivesLaws.{sizing_step, sizing_end}
use Rattle.terms.proofs.unifier.unifier_length.Goals as goal

pub loop-i-preserved : goal.loop-i-preserved
loop-i-preserved c = sizing_step _ _ _ c.requires _ _ c.loop-i.invariant _ c.in-Some.ensures _ _ c.capped.ensures c.capped-w.ensures

pub returns : goal.returns
returns c = sizing_end _ _ _ c.requires _ _ c.loop-i.invariant c.in_default.ensures
