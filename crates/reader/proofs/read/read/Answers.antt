use mathlib.Core.Path.{sym, ◌∙◌}
use native.Mathlib.Omega.{arith}
use Rattle.text.specs.Reading.{reading_exact}
use Rattle.reader.specs.Survey.ServiceLaws.{text_foreign, text_outside, text_long}
use Rattle.reader.specs.Survey.ReplyLaws.{not_true, not_false}
use Rattle.std.proofs.Common.{ap, not}
use Rattle.reader.proofs.read.read.Goals as goal

pub returns-then-not-all_allowed : goal.returns-then-not-all_allowed
returns-then-not-all_allowed c = text_foreign _ _ _ (sym c.all_allowed.ensures ∙ not_true _ (ap not c.if-not-all_allowed.true))

pub returns-then-not-grammatical : goal.returns-then-not-grammatical
returns-then-not-grammatical c = text_outside _ _ _ (sym c.all_allowed.ensures ∙ not_false _ (ap not c.if-not-all_allowed.false)) (sym c.grammatical.ensures ∙ not_true _ (ap not c.if-not-grammatical.true))

pub returns-then-text-gt-TEXT_LIMIT : goal.returns-then-text-gt-TEXT_LIMIT
returns-then-text-gt-TEXT_LIMIT c = let x = (reading_exact _).0 (sym c.grammatical.ensures ∙ not_false _ (ap not c.if-not-grammatical.false)) in text_long _ _ _ x.0 x.1 (omega (arith, c.if-text-gt-TEXT_LIMIT.true))

pub read_clauses-requires : goal.read_clauses-requires
read_clauses-requires c = (sym c.grammatical.ensures ∙ not_false _ (ap not c.if-not-grammatical.false), omega (arith, c.if-text-gt-TEXT_LIMIT.false))
