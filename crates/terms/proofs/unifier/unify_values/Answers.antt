-- `unify_values` lays two values and decides.
use Rattle.terms.specs.Classes.LayLaws.{part_length}
use Rattle.terms.specs.Unifier.UnifierAnswerLaws.{count_within, laid_decidable, decided_unification}
use Rattle.std.proofs.Common.{sym}
use Rattle.terms.proofs.unifier.unify_values.Goals as goal

pub slice_bounds-decide-end : goal.slice_bounds-decide-end
slice_bounds-decide-end c = (count_within _ _ _ _ _ c.requires _ _ c.lay-middle.ensures c.lay-middle.auto.table).0

pub slice_bounds-decide-end-2 : goal.slice_bounds-decide-end-2
slice_bounds-decide-end-2 c = sym (part_length _ _ (count_within _ _ _ _ _ c.requires _ _ c.lay-middle.ensures c.lay-middle.auto.table).0)

pub slice_bounds-decide-end-3 : goal.slice_bounds-decide-end-3
slice_bounds-decide-end-3 c = (count_within _ _ _ _ _ c.requires _ _ c.lay-middle.ensures c.lay-middle.auto.table).1

pub slice_bounds-decide-end-4 : goal.slice_bounds-decide-end-4
slice_bounds-decide-end-4 c = sym (part_length _ _ (count_within _ _ _ _ _ c.requires _ _ c.lay-middle.ensures c.lay-middle.auto.table).1)

pub slice_bounds-decide-end-5 : goal.slice_bounds-decide-end-5
slice_bounds-decide-end-5 c = (count_within _ _ _ _ _ c.requires _ _ c.lay-middle.ensures c.lay-middle.auto.table).2

pub slice_bounds-decide-end-6 : goal.slice_bounds-decide-end-6
slice_bounds-decide-end-6 c = sym (part_length _ _ (count_within _ _ _ _ _ c.requires _ _ c.lay-middle.ensures c.lay-middle.auto.table).2)

pub decide-requires : goal.decide-requires
decide-requires c = laid_decidable _ _ _ _ _ c.requires _ _ c.lay-middle.ensures c.lay-middle.auto.table

pub returns : goal.returns
returns c = decided_unification _ _ _ _ _ c.requires _ _ c.lay-middle.ensures c.lay-middle.auto.table _ _ _ _ _ c.decide.auto.rep c.decide.auto.size c.decide.ensures
