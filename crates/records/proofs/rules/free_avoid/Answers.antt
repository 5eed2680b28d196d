use Rattle.records.proofs.RuleArms.{no_break, no_pair, pairs_next, avoided, met_some, none_met}
use Rattle.records.specs.Gate.RowsLaws.{row_none}
use Rattle.records.specs.Format.Items.{read_binding}
use Rattle.std.specs.Prelude.{Some}
use Rattle.records.proofs.EndSteps.{one_less, no_less}
use Rattle.records.specs.Ends.HeadRoomLaws.{word_room}
use Rattle.records.specs.Gate.RecordRules.{free}
use borrow.Author.Tests.{not-true, not-false}
use mathlib.Core.Path.{refl, sym, ap, ◌∙◌}
use native.Mathlib.Omega.{arith}
use Rattle.std.proofs.Common.{not}
use Rattle.records.proofs.rules.free_avoid.Goals as goal

pub loop-init : goal.loop-init
loop-init c = rw no_less (refl, c.requires)

pub word_at-requires : goal.word_at-requires
word_at-requires c = tt

pub returns-in_default : goal.returns-in_default
returns-in_default c = no_pair _ _ _ (omega arith) c.loop.invariant.1 c.word_at.ensures c.in_default.is

pub binding_end-requires : goal.binding_end-requires
binding_end-requires c = tt

pub returns-in_default-binding_end : goal.returns-in_default-binding_end
returns-in_default-binding_end c = no_break read_binding _ _ _ (omega arith) c.loop.invariant.1 c.binding_end.ensures c.in_default-binding_end.is

pub overflow_add-pos : goal.overflow_add-pos
overflow_add-pos c = omega (arith, word_room _ _ c.type_inv.s c.word_at.ensures (Some _) c.in-Some.is)

pub avoids-requires : goal.avoids-requires
avoids-requires c = (pairs_next _ _ _ (omega arith) c.loop.invariant.1 c.word_at.ensures c.in-Some.is c.binding_end.ensures c.in-Some-binding_end.is).through

pub returns-then-not-avoids : goal.returns-then-not-avoids
returns-then-not-avoids c = met_some (pairs_next _ _ _ (omega arith) c.loop.invariant.1 c.word_at.ensures c.in-Some.is c.binding_end.ensures c.in-Some-binding_end.is) _ c.avoids.ensures (not-true _ (ap not c.if-not-avoids.true)) ∙ sym c.loop.invariant.0

pub loop-preserved : goal.loop-preserved
loop-preserved c = rw one_less let p = (pairs_next _ _ _ (omega arith) c.loop.invariant.1 c.word_at.ensures c.in-Some.is c.binding_end.ensures c.in-Some-binding_end.is) in (c.loop.invariant.0 ∙ avoided p _ c.avoids.ensures (not-false _ (ap not c.if-not-avoids.false)), p.rest)

pub returns : goal.returns
returns c = none_met _ (ap free (row_none read_binding _ _ _ (omega arith))) ∙ sym c.loop.invariant.0
