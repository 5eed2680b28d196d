use native.Mathlib.Omega.{arith}
use Rattle.records.specs.Writing.PatchedLaws.{put_then}
use Rattle.records.specs.Ends.Range.{size}
use Rattle.records.specs.Writing.Plan.{stack_bytes}
use Rattle.records.specs.Writing.PlanLaws.{length_piece}
use Rattle.records.proofs.plan.put_stack.Goals as goal

pub put_range-requires : goal.put_range-requires
unfolding size
put_range-requires c = record { inside = c.requires.inside_2; from_in_bounds = omega (arith, length_piece c.args.stack.top c.requires.inside) }

pub returns : goal.returns
unfolding stack_bytes
returns c =
    put_then c.put_word-top_at.ensures (put_then c.put_piece-rest_at.ensures c.put_range.ensures)
