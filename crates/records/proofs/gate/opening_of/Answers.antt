use Rattle.records.specs.Gate.GateEndsLaws.{unframed, other_version, opened, framed_length}
use borrow.Author.Tests.{not-true, not-false}
use mathlib.Core.Path.{sym, ◌∙◌}
use Rattle.std.proofs.Common.{ap}
use Rattle.std.proofs.Common.{not}
use Rattle.records.proofs.gate.opening_of.Goals as goal

pub frames-requires : goal.frames-requires
frames-requires c = tt

pub returns-then-not-frames : goal.returns-then-not-frames
returns-then-not-frames c = unframed _ c.frames.ensures (not-true _ (ap not c.if-not-frames.true))

pub is_version_1-requires : goal.is_version_1-requires
is_version_1-requires c = (framed_length _ (sym c.frames.ensures ∙ not-false _ (ap not c.if-not-frames.false))).0

pub returns-then-not-is_version_1 : goal.returns-then-not-is_version_1
returns-then-not-is_version_1 c = other_version _ (sym c.frames.ensures ∙ not-false _ (ap not c.if-not-frames.false)) c.is_version_1.ensures (not-true _ (ap not c.if-not-is_version_1.true))

pub returns : goal.returns
returns c = opened _ (sym c.frames.ensures ∙ not-false _ (ap not c.if-not-frames.false)) c.is_version_1.ensures (not-false _ (ap not c.if-not-is_version_1.false))
