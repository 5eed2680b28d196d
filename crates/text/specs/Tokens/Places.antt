-- The tokens of a text from a place on, and what the code knows of the first of them.
use Rattle.std.specs.Prelude.{ℕ, ◌≤◌, ◌<◌, ◌≡◌, Bool, false, List, [], ◌∷◌, eqb, length, drop}
use Rattle.records.specs.Ends.Range.{cut}
use Rattle.text.specs.Grammar.{Token}
use Rattle.text.specs.Grammar.Token.{bare, functor, opening, closing, comma, semicolon, equals, neck, stop, wrong}
use Rattle.text.specs.Tokens.Lexer.{lex}
use Rattle.text.specs.Tokens.Lexer.Where.{between}
use Rattle.text.specs.Parsing.Table.{kind, end_kind}
use Rattle.text.specs.declared.tokens.Kind.{Kind}
use Rattle.text.specs.declared.tokens.Kind.TheVariants.{End}
use Rattle.text.specs.declared.tokens.Lexeme.{Lexeme}

abbrev pub starts_with : List ℕ → ℕ → Bool
starts_with [] b = false
starts_with (x ∷ s) b = eqb x b

unfoldable pub tokens_from : List ℕ → ℕ → List Token
tokens_from s i = lex (drop i s) between

-- the bytes of a token's word; a mark has none
abbrev pub token_word : Token → List ℕ
token_word (bare w) = w
token_word (functor w) = w
token_word opening = []
token_word closing = []
token_word comma = []
token_word semicolon = []
token_word equals = []
token_word neck = []
token_word stop = []
token_word wrong = []

abbrev pub first_kind : List Token → Kind
first_kind [] = End
first_kind (t ∷ ts) = kind t

abbrev pub first_word : List Token → List ℕ
first_word [] = []
first_word (t ∷ ts) = token_word t

abbrev pub rest_tokens : List Token → List Token
rest_tokens [] = []
rest_tokens (t ∷ ts) = ts

-- the first token from a place on
pub record NextToken (s : List ℕ) (at : ℕ) (r : Lexeme) : Type 0 where
  pub kind_is : r.kind ≡ first_kind (tokens_from s at)
  pub word_is : cut s r.word ≡ first_word (tokens_from s at)
  pub rest_is : tokens_from s r.next ≡ rest_tokens (tokens_from s at)
  pub begins : at ≤ r.word.from
  pub ends : r.word.from ≤ r.word.to
  pub follows : r.word.to ≤ r.next
  pub within : r.next ≤ length s
  pub advances : end_kind r.kind ≡ false → at < r.next

-- the first token, where there is one: the tokens from the next place on follow it
pub record FirstToken (s : List ℕ) (at : ℕ) (r : Lexeme) : Type 0 where
  pub token : Token
  pub tokens : tokens_from s at ≡ token ∷ tokens_from s r.next
  pub kind_is : r.kind ≡ kind token
  pub word_is : cut s r.word ≡ token_word token
