use Rattle.std.specs.Prelude.{Some}
use Rattle.records.specs.Ends.StepsLaws.{to_variable, to_other, to_end}
use Rattle.records.specs.Gate.SetLaws.{exactly_start, exactly_next, exactly_not, exactly_end}
use Rattle.records.specs.Gate.Sets.{exactly_from}
use mathlib.Core.Path.{sym, ap, ◌∙◌}
use native.Mathlib.Omega.{arith}
use Rattle.records.proofs.rules.meets_exactly.Goals as goal

pub loop-step-init : goal.loop-step-init
loop-step-init c = (c.requires.on, sym (exactly_start _ _))

pub next_node-requires : goal.next_node-requires
next_node-requires c = c.loop-step.invariant.0

pub returns-then-v-x : goal.returns-then-v-x
returns-then-v-x c = sym (c.loop-step.invariant.1 ∙ ap (exactly_from _ _) (to_variable _ c.type_inv.s _ c.loop-step.invariant.0 c.next_node.ensures (c.in-Some.is ∙ ap Some c.in-Variable.is)).1 ∙ exactly_not _ _ _ _ c.if-v-x.true)

pub with_variable-set-requires : goal.with_variable-set-requires
with_variable-set-requires c = omega arith

pub loop-step-smaller-in-Variable : goal.loop-step-smaller-in-Variable
loop-step-smaller-in-Variable c = omega (arith, (to_variable _ c.type_inv.s _ c.loop-step.invariant.0 c.next_node.ensures (c.in-Some.is ∙ ap Some c.in-Variable.is)).0)

pub loop-step-preserved-in-Variable : goal.loop-step-preserved-in-Variable
loop-step-preserved-in-Variable c = let y = to_variable _ c.type_inv.s _ c.loop-step.invariant.0 c.next_node.ensures (c.in-Some.is ∙ ap Some c.in-Variable.is) in
    (y.0.through, c.loop-step.invariant.1 ∙ ap (exactly_from _ _) y.1 ∙ exactly_next _ _ _ _ (omega arith) ∙ rw c.with_variable-set.ensures)

pub loop-step-smaller : goal.loop-step-smaller
loop-step-smaller c = omega (arith, (to_other _ c.type_inv.s _ c.loop-step.invariant.0 c.next_node.ensures (c.in-Some.is ∙ ap Some c.in-Other.is)).0)

pub loop-step-preserved : goal.loop-step-preserved
loop-step-preserved c = let y = to_other _ c.type_inv.s _ c.loop-step.invariant.0 c.next_node.ensures (c.in-Some.is ∙ ap Some c.in-Other.is) in
    (y.0.through, c.loop-step.invariant.1 ∙ ap (exactly_from _ _) y.1)

pub is_full-requires : goal.is_full-requires
is_full-requires c = c.requires.v_bound

pub returns : goal.returns
returns c = c.is_full.ensures ∙ sym (c.loop-step.invariant.1 ∙ ap (exactly_from _ _) (to_end _ c.type_inv.s _ c.loop-step.invariant.0 c.next_node.ensures c.in_default.is).0 ∙ exactly_end _ _)
