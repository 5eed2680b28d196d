use Rattle.std.proofs.Common.{arith}
use Rattle.text.specs.Tokens.PlacesLaws.{next_over, next_end}
use Rattle.text.proofs.lexer.next_token.Goals as goal

pub returns-then-from-s : goal.returns-then-from-s
returns-then-from-s c = next_over c.blanks_end-from.ensures.skipped (next_end _ _ (omega arith) (omega arith))
