use mathlib.Core.Path.{sym, ◌∙◌}
use native.Mathlib.Omega.{arith}
use Rattle.records.proofs.EndSteps.{one_less}
use Rattle.records.specs.Ends.ItemEndsLaws.{none_ends, more_ends, never_ends}
use Rattle.records.specs.Format.Items.{read_binding}
use Rattle.records.proofs.ends.bindings_end.Goals as goal

pub returns-in_err-pos : goal.returns-in_err-pos
returns-in_err-pos c = c.from_residual.ensures ∙ sym (c.loop.invariant ∙ never_ends read_binding _ _ _ c.binding_end.ensures c.in_err-pos.was (omega arith))

pub loop-preserved : goal.loop-preserved
loop-preserved c = rw one_less (c.loop.invariant ∙ more_ends read_binding _ _ _ c.binding_end.ensures c.in_ok-pos.was (omega arith))

pub returns : goal.returns
returns c = sym (c.loop.invariant ∙ none_ends read_binding _ _ _ (omega arith))
