-- `body_length`: what is counted is what the walk up to the cursor gives.
use Prim.Native.Nat.{ℕ, ◌-◌}
use lib.ListN.{length}
use Rattle.records.specs.Format.Encode.{goal_bytes}
use Rattle.terms.specs.Body.Arguments.{TermsOf}
use Rattle.terms.specs.Body.Body.{numbered}
use Rattle.terms.specs.Standing.Frames.{GoalAt}
use Rattle.terms.specs.Body.BodyBytes.{numbered_goal}
use Rattle.terms.specs.Body.BodyLengthLaws.{Counting}
use Rattle.terms.proofs.body.body_length.Given as goal

abbrev pub invariant-loop-n : goal.invariant-loop-n
invariant-loop-n l = ((g : GoalAt l.program l.goal) (t : TermsOf l.table) (m : ℕ) → Counting (numbered t.terms m) l.program (goal_bytes (numbered_goal t.terms m g.item)) l.room l.c l.n)

abbrev pub decreases-loop-n : goal.decreases-loop-n
decreases-loop-n l = length l.program - l.c.pos
