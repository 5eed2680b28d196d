use Rattle.records.proofs.RuleArms.{falling_unifier, rising_unifier, pairs_row}
use borrow.Author.Tests.{not-true, not-false}
use Rattle.std.proofs.Common.{ap}
use Rattle.std.proofs.Common.{not}
use Rattle.records.proofs.rules.unifier_kept.Goals as goal

pub ranks_rise-requires : goal.ranks_rise-requires
ranks_rise-requires c = pairs_row _ _ _ c.requires

pub returns-then-not-ranks_rise : goal.returns-then-not-ranks_rise
returns-then-not-ranks_rise c = falling_unifier _ _ _ c.type_inv.s c.requires c.ranks_rise.ensures (not-true _ (ap not c.if-not-ranks_rise.true))

pub returns : goal.returns
returns c = rising_unifier _ _ _ c.type_inv.s c.requires c.ranks_rise.ensures (not-false _ (ap not c.if-not-ranks_rise.false)) c.mark_bound.ensures c.free_avoid.ensures
