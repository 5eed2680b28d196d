use Rattle.records.specs.Writing.PatchedLaws.{put_then}
use Rattle.records.specs.Ends.Range.{size}
use Rattle.records.specs.Writing.Plan.{piece_bytes}
use borrow.Author.Rules.{rules}
use Rattle.records.proofs.plan.put_piece.Goals as goal

pub put_range-requires : goal.put_range-requires
unfolding size
put_range-requires c = search rules

pub returns : goal.returns
unfolding piece_bytes
returns c = put_then c.put_lead-next.ensures c.put_range.ensures
