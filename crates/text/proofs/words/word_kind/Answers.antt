use Rattle.std.proofs.Common.{rules, sym, ◌∙◌}
use Rattle.std.proofs.lemmas.Iterator.{YieldsList-from_slice}
use Rattle.std.proofs.lemmas.Iterator.Search.{all_from_yields_List}
use borrow.Author.Tests.{tests}
use Rattle.text.specs.Grammar.{digit}
use Rattle.text.specs.Tokens.WordsLaws.{every_all, digit_word}
use Rattle.text.proofs.words.word_kind.Goals as goal

pub returns-then-all : goal.returns-then-all
returns-then-all c =
    let a = all_from_yields_List digit _ _ c.all.result c.all.ensures.ran (YieldsList-from_slice c.args.word.now c.iter.ensures.rest) (λ x b q k. search (rules, tests)) in
    sym (digit_word c.args.word.now c.requires (sym c.if-not-is_ascii_digit.ensures.value) (sym c.if-is_ascii_lowercase.ensures.value) ∙ rw (sym (every_all digit c.args.word.now) ∙ sym a ∙ c.if-all.true))

pub returns : goal.returns
returns c =
    let a = all_from_yields_List digit _ _ c.all.result c.all.ensures.ran (YieldsList-from_slice c.args.word.now c.iter.ensures.rest) (λ x b q k. search (rules, tests)) in
    sym (digit_word c.args.word.now c.requires (sym c.if-not-is_ascii_digit.ensures.value) (sym c.if-is_ascii_lowercase.ensures.value) ∙ rw (sym (every_all digit c.args.word.now) ∙ sym a ∙ c.if-all.false))
