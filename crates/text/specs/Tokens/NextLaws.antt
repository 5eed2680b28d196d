-- The first token from a place on where a word stands there, a word with its bracket, or a mark.
use Prim.Native.Nat.{ℕ, suc, ◌+◌, ◌<◌}
use native.Mathlib.Omega.{arith}
use Rattle.std.proofs.Math.Decide.{dec_lt}
use Rattle.std.proofs.Math.Numerals.{add-one}
use Rattle.std.specs.Prelude.{◌≡◌, refl, true, false, ◌&&◌, List, [], ◌∷◌, ◌++◌, length, drop, get_or, eqb}
use Rattle.std.proofs.Common.{sym, ◌∙◌, drop_of_length-le, eqb-true, eq-eqb, ne_eqb}
use Rattle.std.proofs.Math.Logic.{dite}
use Rattle.std.proofs.Math.Seq.{drop-cons}
use Rattle.records.specs.Format.Never.{never}
use Rattle.records.specs.Format.Heads.{pick}
use Rattle.records.specs.Gate.RecordRulesLaws.{and_both}
use Rattle.records.specs.Ends.Range.{cut}
use Rattle.records.specs.Ends.StandsLaws.{stands_cut}
use Rattle.text.specs.Grammar.{blank, alphanumeric, lower, is_word, word_ends}
use Rattle.text.specs.Grammar.Token.{bare, functor, neck, wrong}
use Rattle.text.specs.Parsing.KindLaws.{pick_by}
use Rattle.text.specs.Parsing.Table.{word_kind, kind}
use Rattle.text.specs.Tokens.Lexer.{Class, class, mark_token, lex, between_by, colon_by}
use Rattle.text.specs.Tokens.Lexer.Where.{between, inside, after_colon}
use Rattle.text.specs.Tokens.LexerLaws.{lex_is_word, lex_word_end}
use Rattle.text.specs.Tokens.ClassLaws.{ClassOf, classified}
use Rattle.text.specs.Tokens.ClassLaws.ClassOf.{spaces, letters, brackets, marks, colons, minuses, foreigns}
use Rattle.text.specs.Tokens.Places.{starts_with, tokens_from, token_word, NextToken}
use Rattle.text.specs.Tokens.PlacesLaws.{first_token, cut_none, stands_here, starts_within, starts_byte}
use Rattle.text.specs.Tokens.Words.{WordEnd}
use Rattle.text.specs.Tokens.WordsLaws.{Lettered, lettered, lower_name, letters_word}
use Rattle.text.specs.declared.tokens.Kind.{Kind}
use Rattle.text.specs.declared.tokens.Kind.TheVariants.{Functor, Neck, Wrong}

-- a word
module _ (s : List ℕ) (i j : ℕ) (w : WordEnd s i j) (h : i < length s) (a : alphanumeric (get_or s i 0) ≡ true) where
  pub word_some : i < j
  word_some = dite (dec_lt i j) (λ k. k) (λ n. let e : j ≡ i = omega (arith, n, w.word.stands.end) in never (sym a ∙ rw e at (w.ended (rw e h))))

  abbrev here : List ℕ
  here = cut s (record { from = i; to = j })

  first_letter : Lettered s i j
  first_letter = lettered w.word word_some

  pub word_letters : is_word here ≡ true
  word_letters = letters_word s i j first_letter

  lexed_word : lex (drop i s) between ≡ lex (drop j s) (inside here)
  lexed_word =
      let b : drop i s ≡ here ++ drop j s = rw (stands_cut w.word.stands) w.word.stands.bytes in
      rw b (lex_is_word here (drop j s) word_letters)

  functor_here : starts_with (drop j s) 40 ≡ true → tokens_from s i ≡ functor here ∷ tokens_from s (j + 1)
  unfolding tokens_from lex
  functor_here d = lexed_word ∙ rw (add-one, drop-cons s j 0 (starts_within s j 40 d), starts_byte s j 40 d)

  pub next_functor : {k : Kind} → k ≡ pick (lower (get_or s i 0)) Functor Wrong → starts_with (drop j s) 40 ≡ true → NextToken s i (record { kind = k; word = record { from = i; to = j }; next = j + 1 })
  next_functor {k} e d =
      let l = word_some in
      let m = starts_within s j 40 d in
      first_token s i (functor here) (record { kind = k; word = record { from = i; to = j }; next = j + 1 }) (functor_here d) (rw (lower_name s i j first_letter) e) refl
      (omega arith) (omega arith) (omega arith) (omega arith) (omega arith)

  word_stops : starts_with (drop j s) 40 ≡ false → word_ends (drop j s) ≡ true
  word_stops d = dite (dec_lt j (length s))
      (λ k. let f : eqb (get_or s j 0) 40 ≡ false = stands_here s j 40 k ∙ d in rw (drop-cons s j 0 k, w.ended k, f))
      (λ n. rw (drop_of_length-le s {i = j} (omega (arith, n))))

  bare_here : starts_with (drop j s) 40 ≡ false → tokens_from s i ≡ bare here ∷ tokens_from s j
  unfolding tokens_from
  bare_here d = lexed_word ∙ lex_word_end (drop j s) here (word_stops d)

  pub next_bare : {k : Kind} → k ≡ word_kind here → starts_with (drop j s) 40 ≡ false → NextToken s i (record { kind = k; word = record { from = i; to = j }; next = j })
  next_bare {k} e d =
      let l = word_some in
      first_token s i (bare here) (record { kind = k; word = record { from = i; to = j }; next = j }) (bare_here d) e refl (omega arith) (omega arith) (omega arith) w.word.within l

-- a mark
colon_alone : (s : List ℕ) → starts_with s 45 ≡ false → lex s after_colon ≡ wrong ∷ lex s between
unfolding lex
colon_alone [] e = refl
colon_alone (b ∷ s) e = go (class b) (classified b)
  where
    go : (c : Class) → ClassOf b c → colon_by c b (lex s) ≡ wrong ∷ between_by c b (lex s)
    go c (spaces h) = refl
    go c (letters h) = refl
    go c (brackets h) = refl
    go c (marks t h f g) = refl
    go c (colons h) = refl
    go c (minuses h) = never (sym (eq-eqb b 45 h) ∙ e)
    go c foreigns = refl

between_mark : (b : ℕ) (s : List ℕ) (c : Class) → ClassOf b c → alphanumeric b ≡ false → blank b ≡ false → (eqb b 58 && starts_with s 45) ≡ false → between_by c b (lex s) ≡ mark_token c ∷ lex s between
between_mark b s c (spaces h) a l e = never (sym h ∙ l)
between_mark b s c (letters h) a l e = never (sym h ∙ a)
between_mark b s c (brackets h) a l e = refl
between_mark b s c (marks t h f g) a l e = refl
between_mark b s c (colons h) a l e = colon_alone s (rw (eq-eqb b 58 h) at e)
between_mark b s c (minuses h) a l e = refl
between_mark b s c foreigns a l e = refl

-- a mark's word is empty
abbrev NoWord : Class → Type 0
NoWord c = token_word (mark_token c) ≡ []

mark_word : (b : ℕ) → NoWord (class b)
mark_word b =
    pick_by NoWord (alphanumeric b) refl
    (pick_by NoWord (blank b) refl
    (pick_by NoWord (eqb b 40) refl
    (pick_by NoWord (eqb b 41) refl
    (pick_by NoWord (eqb b 44) refl
    (pick_by NoWord (eqb b 59) refl
    (pick_by NoWord (eqb b 61) refl
    (pick_by NoWord (eqb b 46) refl
    (pick_by NoWord (eqb b 58) refl
    (pick_by NoWord (eqb b 45) refl refl)))))))))

-- a byte that is none of the marks of one byte
pub no_mark : (b : ℕ) → (b ≡ 40 → ⊥) → (b ≡ 41 → ⊥) → (b ≡ 44 → ⊥) → (b ≡ 59 → ⊥) → (b ≡ 61 → ⊥) → (b ≡ 46 → ⊥) → Wrong ≡ kind (mark_token (class b))
no_mark b o c m d q p =
    rw (ne_eqb b 40 o, ne_eqb b 41 c, ne_eqb b 44 m, ne_eqb b 59 d, ne_eqb b 61 q, ne_eqb b 46 p)
    (pick_by IsWrong (alphanumeric b) refl (pick_by IsWrong (blank b) refl (pick_by IsWrong (eqb b 58) refl (pick_by IsWrong (eqb b 45) refl refl))))
  where
    IsWrong : Class → Type 0
    IsWrong c = Wrong ≡ kind (mark_token c)

module _ (s : List ℕ) (i : ℕ) (h : i < length s) where
  abbrev byte : ℕ
  byte = get_or s i 0

  mark_here : alphanumeric byte ≡ false → blank byte ≡ false → (eqb byte 58 && starts_with (drop (i + 1) s) 45) ≡ false → tokens_from s i ≡ mark_token (class byte) ∷ tokens_from s (i + 1)
  unfolding tokens_from lex
  mark_here a l e = rw (add-one, drop-cons s i 0 h) (between_mark byte (drop (suc i) s) (class byte) (classified byte) a l (rw add-one at e))

  pub next_mark : {k : Kind} → k ≡ kind (mark_token (class byte)) → alphanumeric byte ≡ false → blank byte ≡ false → (eqb byte 58 && starts_with (drop (i + 1) s) 45) ≡ false
      → NextToken s i (record { kind = k; word = record { from = i; to = i }; next = i + 1 })
  next_mark {k} q a l e =
      first_token s i (mark_token (class byte)) (record { kind = k; word = record { from = i; to = i }; next = i + 1 }) (mark_here a l e) q (cut_none s i ∙ sym (mark_word byte))
      (omega arith) (omega arith) (omega arith) (omega arith) (omega arith)

  neck_here : byte ≡ 58 → starts_with (drop (i + 1) s) 45 ≡ true → tokens_from s i ≡ neck ∷ tokens_from s (i + 2)
  unfolding tokens_from lex
  neck_here e d =
      let n : i + 2 ≡ suc (suc i) = omega arith in
      let m = rw add-one at (starts_within s (i + 1) 45 d) in
      rw (n, drop-cons s i 0 h, e, drop-cons s (suc i) 0 m, rw add-one at (starts_byte s (i + 1) 45 d))

  pub next_neck : (eqb byte 58 && starts_with (drop (i + 1) s) 45) ≡ true → NextToken s i (record { kind = Neck; word = record { from = i; to = i }; next = i + 2 })
  next_neck e =
      let w = and_both (eqb byte 58) (starts_with (drop (i + 1) s) 45) e in
      let m = starts_within s (i + 1) 45 w.1 in
      first_token s i neck (record { kind = Neck; word = record { from = i; to = i }; next = i + 2 }) (neck_here (eqb-true byte 58 w.0) w.1) refl (cut_none s i)
      (omega arith) (omega arith) (omega arith) (omega arith) (omega arith)
