use Rattle.text.specs.Tokens.WordsLaws.{name_true, name_fail, name_other}
use Rattle.text.proofs.words.name_kind.Goals as goal

pub returns-then-eq : goal.returns-then-eq
returns-then-eq c = name_true _ c.eq.ensures c.if-eq.true

pub returns-then-eq-2 : goal.returns-then-eq-2
returns-then-eq-2 c = name_fail _ c.eq.ensures c.if-eq.false c.eq-2.ensures c.if-eq-2.true

pub returns : goal.returns
returns c = name_other _ c.eq.ensures c.if-eq.false c.eq-2.ensures c.if-eq-2.false
