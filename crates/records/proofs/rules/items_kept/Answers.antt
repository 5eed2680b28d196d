use Rattle.records.proofs.ItemArms.{items_first, items_break, items_rest, items_more, items_broken, items_none}
use borrow.Author.Tests.{not-true, not-false}
use Rattle.records.proofs.EndSteps.{one_less, no_less}
use mathlib.Core.Path.{refl, sym, ◌∙◌}
use native.Mathlib.Omega.{arith}
use Rattle.std.proofs.Common.{ap}
use Rattle.std.proofs.Common.{not}
use Rattle.records.proofs.rules.items_kept.Goals as goal

pub loop-init : goal.loop-init
loop-init c = rw no_less (refl, c.requires)

pub item_kept-requires : goal.item_kept-requires
item_kept-requires c = items_first _ _ _ _ (omega arith) c.loop.invariant.1

pub returns-then-not-item_kept : goal.returns-then-not-item_kept
returns-then-not-item_kept c = items_broken _ _ _ _ (omega arith) c.loop.invariant.1 c.item_kept.ensures (not-true _ (ap not c.if-not-item_kept.true)) ∙ sym c.loop.invariant.0

pub item_end-requires : goal.item_end-requires
item_end-requires c = tt

pub returns-in_default : goal.returns-in_default
returns-in_default c = items_break _ _ _ _ (omega arith) c.loop.invariant.1 c.item_end.ensures c.in_default.is

pub loop-preserved : goal.loop-preserved
loop-preserved c = rw one_less (
  c.loop.invariant.0 ∙ items_more _ _ _ _ (omega arith) c.loop.invariant.1 c.item_end.ensures c.in-Some.is c.item_kept.ensures (not-false _ (ap not c.if-not-item_kept.false)),
  items_rest _ _ _ _ (omega arith) c.loop.invariant.1 c.item_end.ensures c.in-Some.is,
)

pub returns : goal.returns
returns c = items_none _ _ _ _ (omega arith) ∙ sym c.loop.invariant.0
