-- The bytes of a text spell one list of tokens at most, which `lex` finds.
use Rattle.std.specs.Prelude.{ℕ, ◌≡◌, refl, true, List, [], ◌∷◌, ◌++◌}
use Rattle.std.proofs.Common.{sym, ap, ◌∙◌, append_assoc, append-nil}
use Rattle.std.proofs.lemmas.Bool.{false≢true}
use Rattle.records.specs.Format.Never.{never}
use Rattle.records.specs.Gate.RecordRules.{every}
use Rattle.records.specs.Gate.RecordRulesLaws.{and_both}
use Rattle.text.specs.Grammar.{Token, Spelled, alphanumeric, is_word, word_ends, stands_before, token_bytes}
use Rattle.text.specs.Grammar.Token.{bare, functor, opening, closing, comma, semicolon, equals, neck, stop, wrong}
use Rattle.text.specs.Grammar.Spelled.{ended, blanks, token}
use Rattle.text.specs.Tokens.Lexer.{Class, Where, class, lex, lex_by, between_by, inside_by}
use Rattle.text.specs.Tokens.Lexer.Class.{space, letter}
use Rattle.text.specs.Tokens.Lexer.Where.{between, inside}
use Rattle.text.specs.Tokens.ClassLaws.{ClassOf, classified, blank_class, letter_class}
use Rattle.text.specs.Tokens.ClassLaws.ClassOf.{spaces, letters, brackets, marks, colons, minuses, foreigns}

-- a byte that ends a word is read as between words
inside_end : (w : List ℕ) (b : ℕ) (s : List ℕ) → word_ends (b ∷ s) ≡ true → (c : Class) → ClassOf b c → inside_by w c b (lex s) ≡ bare w ∷ between_by c b (lex s)
inside_end w b s e c (spaces h) = refl
inside_end w b s e c (letters h) = never (sym (rw h at e))
inside_end w b s e c (brackets h) = never (sym (rw h at e))
inside_end w b s e c (marks t h f g) = refl
inside_end w b s e c (colons h) = refl
inside_end w b s e c (minuses h) = refl
inside_end w b s e c foreigns = refl

pub lex_word_end : (s w : List ℕ) → word_ends s ≡ true → lex s (inside w) ≡ bare w ∷ lex s between
unfolding lex
lex_word_end [] w e = refl
lex_word_end (b ∷ s) w e = inside_end w b s e (class b) (classified b)

-- one byte of a known class
pub lexes : (b : ℕ) (s : List ℕ) (z : Where) (c : Class) → class b ≡ c → lex (b ∷ s) z ≡ lex_by z c b (lex s)
unfolding lex
lexes b s z c e = ap (λ (x : Class). lex_by z x b (lex s)) e

lex_word : (w s v : List ℕ) → every alphanumeric w ≡ true → lex (w ++ s) (inside v) ≡ lex s (inside (v ++ w))
lex_word [] s v e = rw append-nil
lex_word (b ∷ w) s v e =
    lexes b (w ++ s) (inside v) letter (letter_class b (and_both (alphanumeric b) _ e).0)
    ∙ (lex_word w s (v ++ (b ∷ [])) (and_both (alphanumeric b) _ e).1 ∙ ap (λ (l : List ℕ). lex s (inside l)) (append_assoc v (b ∷ []) w))

pub lex_is_word : (w s : List ℕ) → is_word w ≡ true → lex (w ++ s) between ≡ lex s (inside w)
lex_is_word [] s e = absurd (false≢true e)
lex_is_word (b ∷ w) s e =
    lexes b (w ++ s) between letter (letter_class b (and_both (alphanumeric b) _ e).0) ∙ lex_word w s (b ∷ []) (and_both (alphanumeric b) _ e).1

lex_token : (t : Token) (s : List ℕ) → stands_before t s ≡ true → lex (token_bytes t ++ s) between ≡ t ∷ lex s between
unfolding lex
lex_token (bare w) s e = lex_is_word w s (and_both (is_word w) (word_ends s) e).0 ∙ lex_word_end s w (and_both (is_word w) (word_ends s) e).1
lex_token (functor w) s e = ap (λ (l : List ℕ). lex l between) (append_assoc w (40 ∷ []) s) ∙ lex_is_word w (40 ∷ s) e
lex_token opening s e = refl
lex_token closing s e = refl
lex_token comma s e = refl
lex_token semicolon s e = refl
lex_token equals s e = refl
lex_token neck s e = refl
lex_token stop s e = refl
lex_token wrong s e = absurd (false≢true e)

-- what the bytes spell is what the lexer finds: one list of tokens at most
pub lexed : {ts : List Token} {s : List ℕ} → Spelled ts s → lex s between ≡ ts
unfolding lex
lexed ended = refl
lexed (blanks {b = b} {s = s} e h) = lexes b s between space (blank_class b e) ∙ lexed h
lexed (token {s = s} t e h) = lex_token t s e ∙ ap (λ (l : List Token). t ∷ l) (lexed h)
