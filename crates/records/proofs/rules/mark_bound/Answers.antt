use Rattle.records.proofs.RuleArms.{no_break, no_pair, pairs_next, marks_next, marks_done}
use Rattle.records.specs.Gate.RowsLaws.{row_none}
use Rattle.records.specs.Format.Items.{read_binding}
use Rattle.std.specs.Prelude.{Some}
use Rattle.records.proofs.EndSteps.{one_less, no_less}
use Rattle.records.specs.Ends.HeadRoomLaws.{word_room}
use Rattle.records.specs.Gate.RecordRules.{bound}
use mathlib.Core.Path.{refl, sym, ap, ◌∙◌}
use native.Mathlib.Omega.{arith}
use Rattle.records.proofs.rules.mark_bound.Goals as goal

pub loop-init : goal.loop-init
loop-init c = rw no_less (c.requires, refl)

pub word_at-requires : goal.word_at-requires
word_at-requires c = tt

pub returns-in_default : goal.returns-in_default
returns-in_default c = no_pair _ _ _ (omega arith) c.loop.invariant.0 c.word_at.ensures c.in_default.is

pub binding_end-requires : goal.binding_end-requires
binding_end-requires c = tt

pub returns-in_default-binding_end : goal.returns-in_default-binding_end
returns-in_default-binding_end c = no_break read_binding _ _ _ (omega arith) c.loop.invariant.0 c.binding_end.ensures c.in_default-binding_end.is

pub mark-requires : goal.mark-requires
mark-requires c = (word_room _ _ c.type_inv.s c.word_at.ensures (Some _) c.in-Some.is).1

pub loop-preserved : goal.loop-preserved
loop-preserved c = rw one_less let p = (pairs_next _ _ _ (omega arith) c.loop.invariant.0 c.word_at.ensures c.in-Some.is c.binding_end.ensures c.in-Some-binding_end.is) in (p.rest, c.loop.invariant.1 ∙ marks_next _ p.bound_next c.mark.ensures)

pub returns : goal.returns
returns c = marks_done _ (ap bound (row_none read_binding _ _ _ (omega arith))) ∙ sym c.loop.invariant.1
