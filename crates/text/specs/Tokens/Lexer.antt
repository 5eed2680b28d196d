-- The tokens of a text, found in one pass: a byte is read by its class and by what was read before it.
-- Choices: a word is kept until it has ended, and a colon until the next byte says whether it starts `:-`; what is no token is read as `wrong`, so that every
-- text has tokens.
use Rattle.std.specs.Prelude.{ℕ, Bool, true, false, List, [], ◌∷◌, ◌++◌, eqb}
use Rattle.records.specs.Format.Heads.{pick}
use Rattle.text.specs.Grammar.{Token, blank, alphanumeric}
use Rattle.text.specs.Grammar.Token.{bare, functor, opening, closing, comma, semicolon, equals, neck, stop, wrong}

abbrev pub is_token : Token → Bool
is_token (bare w) = true
is_token (functor w) = true
is_token opening = true
is_token closing = true
is_token comma = true
is_token semicolon = true
is_token equals = true
is_token neck = true
is_token stop = true
is_token wrong = false

-- what a byte is to a token; `single` is a token of one byte
pub data Class : Type 0 where
  space letter bracket colon minus foreign : Class
  single : Token → Class

abbrev pub class : ℕ → Class
class b =
    pick (alphanumeric b) letter
    (pick (blank b) space
    (pick (eqb b 40) bracket
    (pick (eqb b 41) (single closing)
    (pick (eqb b 44) (single comma)
    (pick (eqb b 59) (single semicolon)
    (pick (eqb b 61) (single equals)
    (pick (eqb b 46) (single stop)
    (pick (eqb b 58) colon
    (pick (eqb b 45) minus foreign)))))))))

-- the token that a byte is by itself, where no word and no blank stands
abbrev pub mark_token : Class → Token
mark_token space = wrong
mark_token letter = wrong
mark_token bracket = opening
mark_token (single t) = t
mark_token colon = wrong
mark_token minus = wrong
mark_token foreign = wrong

-- between tokens, behind a colon, in a word
pub data Where : Type 0 where
  between after_colon : Where
  inside : List ℕ → Where

-- one byte; k reads on
abbrev pub between_by : Class → ℕ → (Where → List Token) → List Token
between_by space b k = k between
between_by letter b k = k (inside (b ∷ []))
between_by bracket b k = opening ∷ k between
between_by (single t) b k = t ∷ k between
between_by colon b k = k after_colon
between_by minus b k = wrong ∷ k between
between_by foreign b k = wrong ∷ k between

abbrev pub inside_by : List ℕ → Class → ℕ → (Where → List Token) → List Token
inside_by w space b k = bare w ∷ k between
inside_by w letter b k = k (inside (w ++ (b ∷ [])))
inside_by w bracket b k = functor w ∷ k between
inside_by w (single t) b k = bare w ∷ t ∷ k between
inside_by w colon b k = bare w ∷ k after_colon
inside_by w minus b k = bare w ∷ wrong ∷ k between
inside_by w foreign b k = bare w ∷ wrong ∷ k between

abbrev pub colon_by : Class → ℕ → (Where → List Token) → List Token
colon_by space b k = wrong ∷ k between
colon_by letter b k = wrong ∷ k (inside (b ∷ []))
colon_by bracket b k = wrong ∷ opening ∷ k between
colon_by (single t) b k = wrong ∷ t ∷ k between
colon_by colon b k = wrong ∷ k after_colon
colon_by minus b k = neck ∷ k between
colon_by foreign b k = wrong ∷ wrong ∷ k between

abbrev pub lex_by : Where → Class → ℕ → (Where → List Token) → List Token
lex_by between c b k = between_by c b k
lex_by after_colon c b k = colon_by c b k
lex_by (inside w) c b k = inside_by w c b k

-- at the end of the text
abbrev pub lex_end : Where → List Token
lex_end between = []
lex_end after_colon = wrong ∷ []
lex_end (inside w) = bare w ∷ []

unfoldable pub lex : List ℕ → Where → List Token
lex [] z = lex_end z
lex (b ∷ s) z = lex_by z (class b) b (lex s)

unfoldable pub tokens_of : List ℕ → List Token
tokens_of s = lex s between
