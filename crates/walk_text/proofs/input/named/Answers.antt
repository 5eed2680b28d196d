use Rattle.std.proofs.Common.{arith}
use Rattle.walk_text.specs.InputLaws.{named_over, named_within, named_short}
use Rattle.walk_text.proofs.input.named.Goals as goal

pub returns-in-Some : goal.returns-in-Some
returns-in-Some c = named_within _ c.word_at.ensures c.in-Some.is (omega (arith, c.if-n-le-LONGEST.true))

pub returns-in_default : goal.returns-in_default
returns-in_default c = named_over _ c.word_at.ensures c.in-Some.is (omega (arith, c.if-n-le-LONGEST.false))

pub returns-in_default-2 : goal.returns-in_default-2
returns-in_default-2 c = named_short _ c.word_at.ensures c.in_default.is
