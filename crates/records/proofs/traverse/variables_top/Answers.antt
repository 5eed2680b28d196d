use Rattle.std.specs.Prelude.{Some}
use Rattle.records.specs.Ends.Steps.{raised}
use Rattle.records.specs.Ends.StepsLaws.{underway_start, underway_variable, underway_other, underway_done, to_variable, to_other, above_met}
use mathlib.Core.Path.{sym, ap, ◌∙◌}
use native.Mathlib.Omega.{arith}
use Rattle.records.proofs.traverse.variables_top.Goals as goal

pub loop-step-init : goal.loop-step-init
loop-step-init c = underway_start raised _ _ 0 c.requires

pub next_node-requires : goal.next_node-requires
next_node-requires c = c.loop-step.invariant.through

pub raise-top-requires : goal.raise-top-requires
raise-top-requires c = (to_variable _ c.type_inv.s _ c.loop-step.invariant.through c.next_node.ensures (c.in-Some.is ∙ ap Some c.in-Variable.is)).2

pub loop-step-smaller-in-Variable : goal.loop-step-smaller-in-Variable
loop-step-smaller-in-Variable c = omega (arith, (to_variable _ c.type_inv.s _ c.loop-step.invariant.through c.next_node.ensures (c.in-Some.is ∙ ap Some c.in-Variable.is)).0)

pub loop-step-preserved-in-Variable : goal.loop-step-preserved-in-Variable
loop-step-preserved-in-Variable c = rw c.raise-top.ensures (underway_variable _ c.type_inv.s c.loop-step.invariant c.next_node.ensures (c.in-Some.is ∙ ap Some c.in-Variable.is))

pub loop-step-smaller : goal.loop-step-smaller
loop-step-smaller c = omega (arith, (to_other _ c.type_inv.s _ c.loop-step.invariant.through c.next_node.ensures (c.in-Some.is ∙ ap Some c.in-Other.is)).0)

pub loop-step-preserved : goal.loop-step-preserved
loop-step-preserved c = underway_other _ c.type_inv.s c.loop-step.invariant c.next_node.ensures (c.in-Some.is ∙ ap Some c.in-Other.is)

pub returns : goal.returns
returns c = let w = underway_done _ c.type_inv.s c.loop-step.invariant c.next_node.ensures c.in_default.is in record { top = sym w.0 ∙ simp above_met; end = sym w.1 }
