use Rattle.std.specs.Prelude.{Some}
use Rattle.records.proofs.RuleArms.{unmarked, met_marked, met_unmarked}
use Rattle.records.specs.Ends.StepsLaws.{to_variable, to_other, to_end}
use mathlib.Core.Path.{refl, sym, ap, ◌∙◌}
use native.Mathlib.Omega.{arith}
use Rattle.records.proofs.rules.avoids.Goals as goal

pub loop-step-init : goal.loop-step-init
loop-step-init c = rw c.term-c.ensures (c.requires, refl)

pub next_node-requires : goal.next_node-requires
next_node-requires c = c.loop-step.invariant.0

pub is_marked-requires : goal.is_marked-requires
is_marked-requires c = (to_variable _ c.type_inv.s _ c.loop-step.invariant.0 c.next_node.ensures (c.in-Some.is ∙ ap Some c.in-Variable.is)).2

pub returns-then-is_marked : goal.returns-then-is_marked
returns-then-is_marked c = sym (rw c.term-c.ensures at c.loop-step.invariant.1 ∙ met_marked _ (to_variable _ c.type_inv.s _ c.loop-step.invariant.0 c.next_node.ensures (c.in-Some.is ∙ ap Some c.in-Variable.is)).1 c.is_marked.ensures c.if-is_marked.true)

pub loop-step-smaller-in-Variable : goal.loop-step-smaller-in-Variable
loop-step-smaller-in-Variable c = omega (arith, (to_variable _ c.type_inv.s _ c.loop-step.invariant.0 c.next_node.ensures (c.in-Some.is ∙ ap Some c.in-Variable.is)).0)

pub loop-step-preserved-in-Variable : goal.loop-step-preserved-in-Variable
loop-step-preserved-in-Variable c = let y = to_variable _ c.type_inv.s _ c.loop-step.invariant.0 c.next_node.ensures (c.in-Some.is ∙ ap Some c.in-Variable.is) in
    (y.0.through, c.loop-step.invariant.1 ∙ met_unmarked _ y.1 c.is_marked.ensures c.if-is_marked.false)

pub loop-step-smaller : goal.loop-step-smaller
loop-step-smaller c = omega (arith, (to_other _ c.type_inv.s _ c.loop-step.invariant.0 c.next_node.ensures (c.in-Some.is ∙ ap Some c.in-Other.is)).0)

pub loop-step-preserved : goal.loop-step-preserved
loop-step-preserved c = let y = to_other _ c.type_inv.s _ c.loop-step.invariant.0 c.next_node.ensures (c.in-Some.is ∙ ap Some c.in-Other.is) in
    (y.0.through, c.loop-step.invariant.1 ∙ ap (unmarked _) y.1)

pub returns : goal.returns
returns c = sym (rw c.term-c.ensures at c.loop-step.invariant.1 ∙ ap (unmarked _) (to_end _ c.type_inv.s _ c.loop-step.invariant.0 c.next_node.ensures c.in_default.is).0)
