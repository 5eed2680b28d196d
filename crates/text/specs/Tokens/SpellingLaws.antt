-- What the lexer finds in a text is what the text's bytes spell, where none of it is `wrong`: by induction on the text, for each of the three places in which it
-- is read on.
use Rattle.std.specs.Prelude.{ℕ, ◌≡◌, refl, true, List, [], ◌∷◌, ◌++◌}
use Rattle.std.proofs.lemmas.Bool.{false≢true}
use Rattle.std.proofs.Common.{append_assoc}
use Rattle.records.specs.Gate.RecordRules.{every}
use Rattle.records.specs.Gate.RecordRulesLaws.{and_both, every_append}
use Rattle.text.specs.Grammar.{Token, Spelled, alphanumeric, is_word, word_ends}
use Rattle.text.specs.Grammar.Token.{bare, functor, opening, neck}
use Rattle.text.specs.Grammar.Spelled.{ended, blanks, token}
use Rattle.text.specs.Tokens.Lexer.{is_token, Class, Where, class, lex, between_by, inside_by, colon_by}
use Rattle.text.specs.Tokens.Lexer.Class.{space, colon, single}
use Rattle.text.specs.Tokens.Lexer.Where.{between, after_colon, inside}
use Rattle.text.specs.Tokens.ClassLaws.{ClassOf, classified, blank_ends}
use Rattle.text.specs.Tokens.ClassLaws.ClassOf.{spaces, letters, brackets, marks, colons, minuses, foreigns}

word_snoc : (w : List ℕ) (b : ℕ) → is_word w ≡ true → alphanumeric b ≡ true → is_word (w ++ (b ∷ [])) ≡ true
word_snoc [] b e d = absurd (false≢true e)
word_snoc (x ∷ w) b e d =
    let k = and_both (alphanumeric x) (every alphanumeric w) e in
    rw (every_append alphanumeric w (b ∷ []), k.0, k.1, d)

abbrev Spells : List ℕ → Where → Type 0
Spells s between = every is_token (lex s between) ≡ true → Spelled (lex s between) s
Spells s after_colon = every is_token (lex s after_colon) ≡ true → Spelled (lex s after_colon) (58 ∷ s)
Spells s (inside w) = is_word w ≡ true → every is_token (lex s (inside w)) ≡ true → Spelled (lex s (inside w)) (w ++ s)

module _ (b : ℕ) (s : List ℕ) (on : (z : Where) → Spells s z) where
  between_spells : (c : Class) → ClassOf b c → every is_token (between_by c b (lex s)) ≡ true → Spelled (between_by c b (lex s)) (b ∷ s)
  between_spells c (spaces e) h = blanks e (on between h)
  between_spells c (letters e) h = on (inside (b ∷ [])) (rw e) h
  between_spells c (brackets e) h = rw e (token opening refl (on between h))
  between_spells c (marks t e f g) h = rw e at (token t (f s) (on between (and_both (is_token t) (every is_token (lex s between)) h).1))
  between_spells c (colons e) h = rw e (on after_colon h)
  between_spells c (minuses e) h = absurd (false≢true h)
  between_spells c foreigns h = absurd (false≢true h)

  word_spells : (w : List ℕ) → is_word w ≡ true → word_ends (b ∷ s) ≡ true → {ts : List Token} → Spelled ts (b ∷ s) → Spelled (bare w ∷ ts) (w ++ (b ∷ s))
  word_spells w e d h = token {s = b ∷ s} (bare w) (rw (e, d)) h

  inside_spells : (w : List ℕ) → is_word w ≡ true → (c : Class) → ClassOf b c → every is_token (inside_by w c b (lex s)) ≡ true → Spelled (inside_by w c b (lex s)) (w ++ (b ∷ s))
  inside_spells w v c (spaces e) h = word_spells w v (blank_ends s b e) (between_spells space (spaces e) h)
  inside_spells w v c (letters e) h = rw (append_assoc w (b ∷ []) s) at (on (inside (w ++ (b ∷ []))) (word_snoc w b v e) h)
  inside_spells w v c (brackets e) h = rw (e, ← append_assoc w (40 ∷ []) s) (token (functor w) v (on between h))
  inside_spells w v c (marks t e f g) h = word_spells w v (g s) (between_spells (single t) (marks t e f g) h)
  inside_spells w v c (colons e) h = word_spells w v (rw e) (between_spells colon (colons e) h)
  inside_spells w v c (minuses e) h = absurd (false≢true h)
  inside_spells w v c foreigns h = absurd (false≢true h)

  colon_spells : (c : Class) → ClassOf b c → every is_token (colon_by c b (lex s)) ≡ true → Spelled (colon_by c b (lex s)) (58 ∷ b ∷ s)
  colon_spells c (spaces e) h = absurd (false≢true h)
  colon_spells c (letters e) h = absurd (false≢true h)
  colon_spells c (brackets e) h = absurd (false≢true h)
  colon_spells c (marks t e f g) h = absurd (false≢true h)
  colon_spells c (colons e) h = absurd (false≢true h)
  colon_spells c (minuses e) h = rw e (token neck refl (on between h))
  colon_spells c foreigns h = absurd (false≢true h)

  byte_spells : (z : Where) → Spells (b ∷ s) z
  unfolding lex
  byte_spells between = λ h. between_spells (class b) (classified b) h
  byte_spells after_colon = λ h. colon_spells (class b) (classified b) h
  byte_spells (inside w) = λ v h. inside_spells w v (class b) (classified b) h

spells : (s : List ℕ) (z : Where) → Spells s z
unfolding lex
spells [] between = λ h. ended
spells [] after_colon = λ h. absurd (false≢true h)
spells [] (inside w) = λ v h. token {s = []} (bare w) (rw v) ended
spells (b ∷ s) z = byte_spells b s (spells s) z

pub lexer_spells : (s : List ℕ) → every is_token (lex s between) ≡ true → Spelled (lex s between) s
lexer_spells s h = spells s between h
