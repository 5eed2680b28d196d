use Rattle.std.proofs.Common.{⊎_elim}
use Rattle.records.specs.Gate.GateEndsLaws.{short_frame, long_frame, frame_by}
use mathlib.Core.Path.{◌∙◌}
use native.Mathlib.Omega.{arith}
use Rattle.records.proofs.gate.frames.Goals as goal

pub returns-then-n-lt3 : goal.returns-then-n-lt3
returns-then-n-lt3 c = ⊎_elim (λ h. short_frame _ h) (λ h. long_frame _ h.1) c.then-n-lt3.either

pub returns : goal.returns
returns c = c.eq.ensures ∙ frame_by _ (omega arith) (omega arith) c.word_at.ensures
