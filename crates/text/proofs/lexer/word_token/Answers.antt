use Rattle.std.proofs.Common.{sym, ◌∙◌}
use Rattle.records.specs.Ends.Range.{size, cut}
use Rattle.text.specs.Tokens.NextLaws.{word_letters, next_functor, next_bare}
use Rattle.text.proofs.lexer.word_token.Goals as goal

pub returns-then-stands_at : goal.returns-then-stands_at
returns-then-stands_at c = next_functor _ _ _ c.word_end-to.ensures c.requires.from_in_bounds c.requires.from_value c.functor_kind-kind.ensures (sym c.stands_at.ensures ∙ c.if-stands_at.true)

pub word_kind-kind-requires : goal.word_kind-kind-requires
unfolding cut size
word_kind-kind-requires c = word_letters _ _ _ c.word_end-to.ensures c.requires.from_in_bounds c.requires.from_value

pub returns : goal.returns
unfolding cut size
returns c = next_bare _ _ _ c.word_end-to.ensures c.requires.from_in_bounds c.requires.from_value c.word_kind-kind.ensures (sym c.stands_at.ensures ∙ c.if-stands_at.false)
