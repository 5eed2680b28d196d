-- `lay` puts two terms into one table.
use Rattle.terms.specs.Classes.LayLaws.{second_room, count_fits, part_length, pair_linkable, pair_laid}
use Rattle.std.proofs.Common.{sym, ◌∙◌}
use Rattle.terms.proofs.load.lay.Goals as goal

pub slice_bounds-link-end : goal.slice_bounds-link-end
slice_bounds-link-end c = count_fits _ _ _ c.requires _ _ c.load-middle.ensures _ _ c.load-count.ensures (c.load-count.auto.table ∙ c.load-middle.auto.table)

pub slice_bounds-link-end-2 : goal.slice_bounds-link-end-2
slice_bounds-link-end-2 c = sym (part_length _ _ (count_fits _ _ _ c.requires _ _ c.load-middle.ensures _ _ c.load-count.ensures (c.load-count.auto.table ∙ c.load-middle.auto.table)))

pub link-requires : goal.link-requires
link-requires c = pair_linkable _ _ _ c.requires _ _ c.load-middle.ensures _ _ c.load-count.ensures (c.load-count.auto.table ∙ c.load-middle.auto.table)

pub returns : goal.returns
returns c = pair_laid _ _ _ c.requires _ _ c.load-middle.ensures _ _ c.load-count.ensures (c.load-count.auto.table ∙ c.load-middle.auto.table) _ c.link.ensures

pub load-count-requires-clause-b_bound : goal.load-count-requires-clause-b_bound
load-count-requires-clause-b_bound c = second_room _ _ _ c.requires _ _ c.load-middle.ensures c.load-middle.auto.table
