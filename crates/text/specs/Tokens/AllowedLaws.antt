-- A text that spells tokens has no other bytes than a text may have: question 20 asks nothing of a text of the grammar.
use Rattle.std.specs.Prelude.{ℕ, ◌≡◌, refl, Bool, true, false, ◌||◌, List, [], ◌∷◌}
use Rattle.records.specs.Format.Never.{never}
use Rattle.records.specs.Gate.RecordRules.{every}
use Rattle.records.specs.Gate.RecordRulesLaws.{and_both, every_append}
use Rattle.text.specs.Grammar.{Token, Spelled, text_byte, blank, mark, alphanumeric, is_word, word_ends, stands_before, token_bytes}
use Rattle.text.specs.Grammar.Token.{bare, functor, opening, closing, comma, semicolon, equals, neck, stop, wrong}
use Rattle.text.specs.Grammar.Spelled.{ended, blanks, token}

blank_allowed : (b : ℕ) → blank b ≡ true → text_byte b ≡ true
blank_allowed b e = go (alphanumeric b) (blank b) (mark b) e
  where
    go : (a l m : Bool) → l ≡ true → (a || (l || m)) ≡ true
    go true l m h = refl
    go false true m h = refl
    go false false m h = never cc

letters_allowed : (w : List ℕ) → every alphanumeric w ≡ true → every text_byte w ≡ true
letters_allowed [] e = refl
letters_allowed (b ∷ w) e =
    let k = and_both (alphanumeric b) (every alphanumeric w) e in
    rw (k.0, letters_allowed w k.1)

word_allowed : (w : List ℕ) → is_word w ≡ true → every text_byte w ≡ true
word_allowed [] e = refl
word_allowed (b ∷ w) e = letters_allowed (b ∷ w) e

token_allowed : (t : Token) (s : List ℕ) → stands_before t s ≡ true → every text_byte (token_bytes t) ≡ true
token_allowed (bare w) s e = word_allowed w (and_both (is_word w) (word_ends s) e).0
token_allowed (functor w) s e = rw (every_append text_byte w (40 ∷ []), word_allowed w e)
token_allowed opening s e = refl
token_allowed closing s e = refl
token_allowed comma s e = refl
token_allowed semicolon s e = refl
token_allowed equals s e = refl
token_allowed neck s e = refl
token_allowed stop s e = refl
token_allowed wrong s e = refl

pub spelled_allowed : {ts : List Token} {s : List ℕ} → Spelled ts s → every text_byte s ≡ true
spelled_allowed ended = refl
spelled_allowed (blanks {b = b} {s = s} e h) = rw (blank_allowed b e, spelled_allowed h)
spelled_allowed (token {s = s} t e h) = rw (every_append text_byte (token_bytes t) s, token_allowed t s e, spelled_allowed h)
