use mathlib.Core.Path.{sym, ◌∙◌}
use native.Mathlib.Omega.{arith}
use Rattle.records.proofs.EndSteps.{one_less}
use Rattle.records.specs.Ends.ItemEndsLaws.{no_items, more_items, never_items}
use Rattle.records.proofs.ends.items_end.Goals as goal

pub returns-in_err-pos : goal.returns-in_err-pos
returns-in_err-pos c = c.from_residual.ensures ∙ sym (c.loop.invariant ∙ never_items _ _ _ _ c.item_end.ensures c.in_err-pos.was (omega arith))

pub loop-preserved : goal.loop-preserved
loop-preserved c = rw one_less (c.loop.invariant ∙ more_items _ _ _ _ c.item_end.ensures c.in_ok-pos.was (omega arith))

pub returns : goal.returns
returns c = sym (c.loop.invariant ∙ no_items _ _ _ _ (omega arith))
