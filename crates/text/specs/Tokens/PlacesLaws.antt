-- Laws of the first token from a place on: how it is made known, what blanks before it and the end of the text change, and what is then known of the tokens.
use Rattle.std.specs.Prelude.{ℕ, ◌-◌, ◌≤◌, ◌<◌, ◌≡◌, refl, true, false, List, [], ◌∷◌, length, drop, get_or, eqb}
use Rattle.std.proofs.Common.{arith, sym, ap, ◌∙◌, drop_of_length-le, drop-cons, eqb-true}
use Rattle.std.proofs.Math.Decide.{dec_lt}
use Rattle.std.proofs.Math.Logic.{dite}
use Rattle.records.specs.Format.Never.{never}
use Rattle.records.specs.Ends.Range.{size, cut}
use Rattle.text.specs.Grammar.{Token}
use Rattle.text.specs.Parsing.KindLaws.{token_not_end}
use Rattle.text.specs.Parsing.Table.{kind, end_kind}
use Rattle.text.specs.Tokens.Lexer.{lex}
use Rattle.text.specs.Tokens.Places.{starts_with, tokens_from, token_word, first_kind, first_word, rest_tokens, NextToken, FirstToken}
use Rattle.text.specs.Tokens.Words.{Skipped}
use Rattle.text.specs.declared.tokens.Kind.TheVariants.{End}
use Rattle.text.specs.declared.tokens.Lexeme.{Lexeme}

-- a token of a known shape
pub first_token : (s : List ℕ) (at : ℕ) (t : Token) (r : Lexeme) → tokens_from s at ≡ t ∷ tokens_from s r.next → r.kind ≡ kind t
    → cut s r.word ≡ token_word t → at ≤ r.word.from → r.word.from ≤ r.word.to → r.word.to ≤ r.next → r.next ≤ length s → at < r.next → NextToken s at r
first_token s at t r e k w a b c d f = record {
  kind_is = rw e k;
  word_is = rw e w;
  rest_is = rw e;
  begins = a;
  ends = b;
  follows = c;
  within = d;
  advances = λ h. f;
}

-- blanks before it
pub next_over : {s : List ℕ} {i j : ℕ} {r : Lexeme} → Skipped s i j → NextToken s j r → NextToken s i r
next_over k n = record {
  kind_is = rw k.same n.kind_is;
  word_is = rw k.same n.word_is;
  rest_is = rw k.same n.rest_is;
  begins = omega (arith, k.forth, n.begins);
  ends = n.ends;
  follows = n.follows;
  within = n.within;
  advances = λ h. let a = n.advances h in omega (arith, k.forth);
}

-- nothing more
pub cut_none : (s : List ℕ) (i : ℕ) → cut s (record { from = i; to = i }) ≡ []
unfolding cut size
cut_none s i = let z : i - i ≡ 0 = omega arith in rw z

pub next_end : (s : List ℕ) (i : ℕ) → i ≤ length s → length s ≤ i → NextToken s i (record { kind = End; word = record { from = i; to = i }; next = i })
unfolding tokens_from lex
next_end s i a b = record {
  kind_is = rw (drop_of_length-le s b);
  word_is = rw (drop_of_length-le s b) (cut_none s i);
  rest_is = rw (drop_of_length-le s b);
  begins = omega arith;
  ends = omega arith;
  follows = omega arith;
  within = a;
  advances = λ h. never h;
}

-- what stands at a place
pub stands_here : (s : List ℕ) (i b : ℕ) → i < length s → eqb (get_or s i 0) b ≡ starts_with (drop i s) b
stands_here s i b h = rw (drop-cons s i 0 h)

pub stands_past : (s : List ℕ) (i b : ℕ) → length s ≤ i → false ≡ starts_with (drop i s) b
stands_past s i b h = rw (drop_of_length-le s h)

pub starts_within : (s : List ℕ) (i b : ℕ) → starts_with (drop i s) b ≡ true → i < length s
starts_within s i b e = dite (dec_lt i (length s)) (λ h. h) (λ n. never (sym (stands_past s i b (omega (arith, n)) ∙ e)))

pub starts_byte : (s : List ℕ) (i b : ℕ) → starts_with (drop i s) b ≡ true → get_or s i 0 ≡ b
starts_byte s i b e = eqb-true (get_or s i 0) b (stands_here s i b (starts_within s i b e) ∙ e)

-- there is none, or those from the next place on follow it
pub there_is_none : {s : List ℕ} {at : ℕ} {r : Lexeme} → NextToken s at r → end_kind r.kind ≡ true → tokens_from s at ≡ []
there_is_none {s} {at} {r} n e = go (tokens_from s at) n.kind_is
  where
    go : (ts : List Token) → r.kind ≡ first_kind ts → ts ≡ []
    go [] k = refl
    go (t ∷ ts) k = never (sym e ∙ (ap end_kind k ∙ token_not_end t))

pub there_is_one : {s : List ℕ} {at : ℕ} {r : Lexeme} → NextToken s at r → end_kind r.kind ≡ false → FirstToken s at r
there_is_one {s} {at} {r} n e = go (tokens_from s at) refl n.kind_is n.word_is n.rest_is
  where
    go : (ts : List Token) → tokens_from s at ≡ ts → r.kind ≡ first_kind ts → cut s r.word ≡ first_word ts → tokens_from s r.next ≡ rest_tokens ts → FirstToken s at r
    go [] q k w d = never (sym (ap end_kind k) ∙ e)
    go (t ∷ ts) q k w d = record { token = t; tokens = q ∙ ap (λ (l : List Token). t ∷ l) (sym d); kind_is = k; word_is = w }
