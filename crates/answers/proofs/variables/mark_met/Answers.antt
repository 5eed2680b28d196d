use Rattle.std.specs.Prelude.{Some}
use Rattle.std.proofs.Common.{◌∙◌, sym, ap, arith}
use Rattle.records.specs.Ends.StepsLaws.{underway_start, underway_variable, underway_other, underway_done, to_variable, to_other}
use Rattle.records.specs.Gate.Sets.{marked}
use Rattle.answers.proofs.variables.mark_met.Goals as goal

pub loop-step-init : goal.loop-step-init
loop-step-init c = underway_start marked _ _ _ c.requires

pub mark-requires : goal.mark-requires
mark-requires c = (to_variable _ c.type_inv.s _ c.loop-step.invariant.through c.next_node.ensures (c.in-Some.is ∙ ap Some c.in-Variable.is)).2

pub loop-step-smaller-in-Variable : goal.loop-step-smaller-in-Variable
loop-step-smaller-in-Variable c = omega (arith, (to_variable _ c.type_inv.s _ c.loop-step.invariant.through c.next_node.ensures (c.in-Some.is ∙ ap Some c.in-Variable.is)).0)

pub loop-step-preserved-in-Variable : goal.loop-step-preserved-in-Variable
loop-step-preserved-in-Variable c = rw c.mark.ensures (underway_variable _ c.type_inv.s c.loop-step.invariant c.next_node.ensures (c.in-Some.is ∙ ap Some c.in-Variable.is))

pub loop-step-smaller : goal.loop-step-smaller
loop-step-smaller c = omega (arith, (to_other _ c.type_inv.s _ c.loop-step.invariant.through c.next_node.ensures (c.in-Some.is ∙ ap Some c.in-Other.is)).0)

pub loop-step-preserved : goal.loop-step-preserved
loop-step-preserved c = underway_other _ c.type_inv.s c.loop-step.invariant c.next_node.ensures (c.in-Some.is ∙ ap Some c.in-Other.is)

pub returns : goal.returns
returns c = sym (underway_done _ c.type_inv.s c.loop-step.invariant c.next_node.ensures c.in_default.is).0
