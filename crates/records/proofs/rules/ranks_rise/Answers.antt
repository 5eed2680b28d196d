use Rattle.records.proofs.RuleArms.{no_rank, no_ranked, rank_room, ranks_done, ranks_fall, ranks_go}
use Rattle.records.proofs.EndSteps.{one_less, no_less}
use mathlib.Core.Path.{refl, sym, ◌∙◌}
use native.Mathlib.Omega.{arith}
use Rattle.records.proofs.rules.ranks_rise.Goals as goal

pub loop-init : goal.loop-init
loop-init c = rw no_less (refl, c.requires)

pub rank_at-requires : goal.rank_at-requires
rank_at-requires c = tt

pub returns-in_default : goal.returns-in_default
returns-in_default c = no_rank _ _ _ _ (omega arith) c.loop.invariant.1 c.rank_at.ensures c.in_default.is

pub ranked_end-requires : goal.ranked_end-requires
ranked_end-requires c = tt

pub returns-in_default-ranked_end : goal.returns-in_default-ranked_end
returns-in_default-ranked_end c = no_ranked _ _ _ _ (omega arith) c.loop.invariant.1 c.ranked_end.ensures c.in_default-ranked_end.is

pub returns-then-x-low : goal.returns-then-x-low
returns-then-x-low c = ranks_fall _ _ _ _ _ (omega arith) c.loop.invariant.1 c.rank_at.ensures c.in-Some.is c.ranked_end.ensures c.in-Some-ranked_end.is c.if-x-low.true ∙ sym c.loop.invariant.0

pub overflow_add-low : goal.overflow_add-low
overflow_add-low c = omega (arith, rank_room _ _ _ c.type_inv.s c.rank_at.ensures c.in-Some.is)

pub loop-preserved : goal.loop-preserved
loop-preserved c = rw one_less let p = ranks_go _ _ _ _ c.loop.low (omega arith) c.loop.invariant.1 c.rank_at.ensures c.in-Some.is c.ranked_end.ensures c.in-Some-ranked_end.is (omega arith) in (c.loop.invariant.0 ∙ p.0, p.1)

pub returns : goal.returns
returns c = ranks_done _ _ _ _ _ (omega arith) ∙ sym c.loop.invariant.0
