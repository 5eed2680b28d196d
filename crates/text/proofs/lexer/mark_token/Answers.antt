use Rattle.std.proofs.Common.{sym, ◌∙◌, ne_eqb}
use Rattle.text.specs.Tokens.NextLaws.{next_mark, next_neck}
use Rattle.text.proofs.lexer.mark_token.Goals.{else-b-eq58-via-then-b-eq58+else-stands_at, else-b-eq58-via-else-b-eq58}
use Rattle.text.proofs.lexer.mark_token.Goals as goal

pub returns-then-stands_at : goal.returns-then-stands_at
returns-then-stands_at c = next_neck _ _ c.requires.from_in_bounds (rw (c.if-b-eq58.true, sym c.stands_at.ensures ∙ c.if-stands_at.true))

pub returns : goal.returns
returns c = elim c.else-b-eq58.branch [
  | else-b-eq58-via-then-b-eq58+else-stands_at w ↦ next_mark _ _ c.requires.from_in_bounds c.mark_kind.ensures c.requires.from_value c.requires.from_value_2 (rw (w.if-b-eq58.true, sym w.stands_at.ensures ∙ w.if-stands_at.false))
  | else-b-eq58-via-else-b-eq58 w ↦ next_mark _ _ c.requires.from_in_bounds c.mark_kind.ensures c.requires.from_value c.requires.from_value_2 (rw (ne_eqb _ 58 w.if-b-eq58.false))
]
