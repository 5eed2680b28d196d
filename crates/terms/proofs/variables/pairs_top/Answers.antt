use Rattle.terms.specs.Body.TopLaws.{gathered_start, gathered_item, gathered_past, gathered_end}
use Rattle.records.proofs.EndSteps.{one_less, no_less}
use native.Mathlib.Omega.{arith}
use Rattle.terms.proofs.variables.pairs_top.Goals as goal

pub loop-init : goal.loop-init
loop-init c = rw (no_less c.args.n) (gathered_start _ _ _ _ _ _)

pub pair_top-pair-requires : goal.pair_top-pair-requires
pair_top-pair-requires c = gathered_item _ _ _ _ _ _ c.loop.invariant (omega arith) c.requires

pub loop-preserved : goal.loop-preserved
loop-preserved c = rw (one_less c.args.n c.loop.counter) (gathered_past _ _ _ _ _ _ c.loop.invariant (omega arith) c.pair_top-pair.ensures c.max-top.ensures)

pub returns : goal.returns
returns c = λ u. gathered_end _ _ _ _ _ _ c.loop.invariant (omega arith) u
