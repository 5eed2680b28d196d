use Rattle.std.proofs.Common.{rules, ◌∙◌}
use Rattle.std.proofs.lemmas.Iterator.{YieldsList-from_slice}
use Rattle.std.proofs.lemmas.Iterator.Search.{all_from_yields_List}
use borrow.Author.Tests.{tests}
use Rattle.text.specs.Grammar.{text_byte}
use Rattle.text.specs.Tokens.WordsLaws.{every_all}
use Rattle.text.proofs.bytes.all_allowed.Goals as goal

pub returns : goal.returns
returns c = all_from_yields_List text_byte _ _ _ c.all.ensures.ran (YieldsList-from_slice c.args.s.now c.iter.ensures.rest) (λ x b q k. search (rules, tests)) ∙ every_all text_byte c.args.s.now
