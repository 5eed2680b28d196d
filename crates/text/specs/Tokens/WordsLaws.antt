-- Laws of blanks and words by their places: a byte more, and the kind of a word by its first byte.
use Rattle.std.specs.Prelude.{ℕ, zero, suc, ◌+◌, ◌-◌, ◌≤◌, ◌<◌, ◌≡◌, refl, Bool, true, false, ◌||◌, ◌&&◌, List, [], ◌∷◌, ◌++◌, length, take, drop, get_or, eqb, leb}
use Rattle.std.specs.List.{list_all, AllWithin, HoldsAt}
use Rattle.std.specs.Cmp.Lexicographic.{pointwise}
use Rattle.std.proofs.Common.{arith, add-one, add-zero, sym, ap, ◌∙◌, drop_of_length-le, drop-cons, leb-true, ne_eqb}
use Rattle.std.proofs.Math.Bool.{and-true}
use Rattle.std.proofs.Math.Seq.{take-length}
use Rattle.std.proofs.lemmas.Bool.{lt-leb}
use Rattle.std.proofs.lemmas.List.{get_or-drop, length-drop}
use Rattle.records.specs.Format.Heads.{pick}
use Rattle.records.specs.Format.Never.{never}
use Rattle.records.specs.Gate.RecordRules.{every}
use Rattle.records.specs.Gate.RecordRulesLaws.{and_both, every_append}
use Rattle.records.specs.Ends.Stands.{Stands}
use Rattle.records.specs.Ends.StandsLaws.{stands_join, stands_cut}
use Rattle.records.specs.Ends.Range.{cut}
use Rattle.records.specs.Ends.Same.{same_bytes}
use Rattle.records.specs.declared.put.Range.{Range}
use Rattle.text.specs.Parsing.Table.{name_kind, word_kind}
use Rattle.text.specs.declared.tokens.Kind.TheVariants.{Name, True, Fail, Variable, Number, Wrong}
use Rattle.text.specs.Grammar.{blank, alphanumeric, lower, upper, digit, underscore, is_word, is_name, is_variable, is_number}
use Rattle.text.specs.Tokens.Lexer.Class.{space}
use Rattle.text.specs.Tokens.Lexer.Where.{between}
use Rattle.text.specs.Tokens.LexerLaws.{lexes}
use Rattle.text.specs.Tokens.ClassLaws.{blank_class}
use Rattle.text.specs.Tokens.Places.{tokens_from}
use Rattle.text.specs.Tokens.Words.{Passed, Run, Skipped, BlanksEnd, Word, WordEnd}

-- a test of each element, and the comparison of two lists of bytes, as the library has them
pub every_all : {A : Type 0} (p : A → Bool) (l : List A) → list_all p l ≡ every p l
every_all p [] = refl
every_all p (x ∷ l) = ap (λ t. p x && t) (every_all p l)

pub same_pointwise : (l k : List ℕ) → same_bytes l k ≡ pointwise eqb l k
unfolding same_bytes
same_pointwise [] [] = refl
same_pointwise [] (y ∷ k) = refl
same_pointwise (x ∷ l) [] = refl
same_pointwise (x ∷ l) (y ∷ k) = ap (λ t. eqb x y && t) (same_pointwise l k)

-- one byte more that passes a test, one that does not, and the end
pub passed_none : (p : ℕ → Bool) (s : List ℕ) → Passed p s 0
passed_none p s = record { within = omega arith; same = refl }

module _ {p : ℕ → Bool} {s : List ℕ} {i : ℕ} (w : Passed p s i) where
  pub passed_on : i < length s → p (get_or s i 0) ≡ true → Passed p s (i + 1)
  passed_on h e = record { within = omega arith; same = w.same ∙ rw (add-one, drop-cons s i 0 h, e) }

  pub passed_not : i < length s → p (get_or s i 0) ≡ false → false ≡ every p s
  passed_not h e = sym (w.same ∙ rw (drop-cons s i 0 h, e))

  pub passed_all : length s ≤ i → true ≡ every p s
  passed_all h = sym (w.same ∙ ap (every p) (drop_of_length-le s h))

-- one blank more
pub skipped_none : (s : List ℕ) (i : ℕ) → i ≤ length s → Skipped s i i
skipped_none s i h = record { forth = omega arith; within = h; same = refl }

over_blank : (s : List ℕ) (i : ℕ) → i < length s → blank (get_or s i 0) ≡ true → tokens_from s i ≡ tokens_from s (i + 1)
unfolding tokens_from
over_blank s i h e = rw (add-one, drop-cons s i 0 h) (lexes (get_or s i 0) (drop (suc i) s) between space (blank_class (get_or s i 0) e))

pub skipped_on : (s : List ℕ) (i j : ℕ) → Skipped s i j → j < length s → blank (get_or s j 0) ≡ true → Skipped s i (j + 1)
skipped_on s i j k h e = record { forth = omega (arith, k.forth); within = omega arith; same = k.same ∙ over_blank s j h e }

-- n blanks more
pub skipped_run : (s : List ℕ) (i n : ℕ) → i + n ≤ length s → ((k : ℕ) → k < n → blank (get_or s (i + k) 0) ≡ true) → Skipped s i (i + n)
skipped_run s i zero h f = rw add-zero (skipped_none s i (omega arith))
skipped_run s i (suc n) h f = let e : i + suc n ≡ i + n + 1 = omega arith in rw e (skipped_on s i (i + n) (skipped_run s i n (omega arith) (λ k l. f k (omega arith))) (omega arith) (f n (omega arith)))

-- one letter more
byte_stands : (s : List ℕ) (i : ℕ) → i < length s → Stands s i (get_or s i 0 ∷ []) (i + 1)
byte_stands s i h = record { end = refl; bytes = rw add-one (drop-cons s i 0 h) }

pub word_none : (s : List ℕ) (i : ℕ) → i ≤ length s → Word s i i
word_none s i h = record { letters = []; stands = record { end = omega arith; bytes = refl }; every_letter = refl; within = h }

pub word_on : (s : List ℕ) (i j : ℕ) → Word s i j → j < length s → alphanumeric (get_or s j 0) ≡ true → Word s i (j + 1)
word_on s i j w h e = record {
  letters = w.letters ++ (get_or s j 0 ∷ []);
  stands = stands_join w.letters (get_or s j 0 ∷ []) w.stands (byte_stands s j h);
  every_letter = rw (every_append alphanumeric w.letters (get_or s j 0 ∷ []), w.every_letter, e);
  within = omega arith;
}

-- n letters more
pub word_run : (s : List ℕ) (i n : ℕ) → i + n ≤ length s → ((k : ℕ) → k < n → alphanumeric (get_or s (i + k) 0) ≡ true) → Word s i (i + n)
word_run s i zero h f = rw add-zero (word_none s i (omega arith))
word_run s i (suc n) h f = let e : i + suc n ≡ i + n + 1 = omega arith in rw e (word_on s i (i + n) (word_run s i n (omega arith) (λ k l. f k (omega arith))) (omega arith) (f n (omega arith)))

-- the first place from i on whose byte fails a test, as the library finds it
pub rest_whole : (s : List ℕ) (i : ℕ) → take (length s - i) (drop i s) ≡ drop i s
rest_whole s i = rw (← length-drop i s) (take-length (drop i s))

pub run_found : (p : ℕ → Bool) (s : List ℕ) (i n : ℕ) → i ≤ length s → (n < length (drop i s)) × HoldsAt (λ b. p b ≡ false) (drop i s) n × AllWithin (λ b. p b ≡ true) (drop i s) 0 n → Run p s i n
run_found p s i n h f = record {
  within = omega (arith, length-drop i s, f.0);
  each = λ k l. rw (← get_or-drop i s k 0) (f.2 k 0 (omega arith) l);
  ended = λ l. rw (← get_or-drop i s n 0) (f.1 0);
}

pub run_all : (p : ℕ → Bool) (s : List ℕ) (i : ℕ) → i ≤ length s → AllWithin (λ b. p b ≡ true) (drop i s) 0 (length (drop i s)) → Run p s i (length s - i)
run_all p s i h f = record {
  within = omega arith;
  each = λ k l. rw (← get_or-drop i s k 0) (f k 0 (omega arith) (omega (arith, length-drop i s)));
  ended = λ l. absurd (omega arith);
}

pub run_blanks : {s : List ℕ} {i n j : ℕ} → Run blank s i n → j ≡ i + n → BlanksEnd s i j
run_blanks {s} {i} {n} r e = rw e (record { skipped = skipped_run s i n r.within r.each; ended = r.ended })

pub run_word : {s : List ℕ} {i n j : ℕ} → Run alphanumeric s i n → j ≡ i + n → WordEnd s i j
run_word {s} {i} {n} r e = rw e (record { word = word_run s i n r.within r.each; ended = r.ended })

-- the kind of a name, by two comparisons with true and with fail
pub name_true : (w : List ℕ) {b : Bool} → b ≡ pointwise eqb w (116 ∷ 114 ∷ 117 ∷ 101 ∷ []) → b ≡ true → True ≡ name_kind w
name_true w e d = rw (same_pointwise w (116 ∷ 114 ∷ 117 ∷ 101 ∷ []), sym e ∙ d)

pub name_fail : (w : List ℕ) {b c : Bool} → b ≡ pointwise eqb w (116 ∷ 114 ∷ 117 ∷ 101 ∷ []) → b ≡ false → c ≡ pointwise eqb w (102 ∷ 97 ∷ 105 ∷ 108 ∷ []) → c ≡ true → Fail ≡ name_kind w
name_fail w e d f g = rw (same_pointwise w (116 ∷ 114 ∷ 117 ∷ 101 ∷ []), sym e ∙ d, same_pointwise w (102 ∷ 97 ∷ 105 ∷ 108 ∷ []), sym f ∙ g)

pub name_other : (w : List ℕ) {b c : Bool} → b ≡ pointwise eqb w (116 ∷ 114 ∷ 117 ∷ 101 ∷ []) → b ≡ false → c ≡ pointwise eqb w (102 ∷ 97 ∷ 105 ∷ 108 ∷ []) → c ≡ false → Name ≡ name_kind w
name_other w e d f g = rw (same_pointwise w (116 ∷ 114 ∷ 117 ∷ 101 ∷ []), sym e ∙ d, same_pointwise w (102 ∷ 97 ∷ 105 ∷ 108 ∷ []), sym f ∙ g)

-- a word that is not empty, by its first byte
pub record Lettered (s : List ℕ) (i j : ℕ) : Type 0 where
  pub more : List ℕ
  pub all : cut s (record { from = i; to = j }) ≡ get_or s i 0 ∷ more
  pub letters : every alphanumeric (get_or s i 0 ∷ more) ≡ true

pub lettered : {s : List ℕ} {i j : ℕ} → Word s i j → i < j → Lettered s i j
lettered {s} {i} {j} w h = go w.letters w.stands w.every_letter
  where
    go : (x : List ℕ) → Stands s i x j → every alphanumeric x ≡ true → Lettered s i j
    go [] t e = absurd (omega (arith, t.end))
    go (b ∷ l) t e =
        let d : b ≡ get_or s i 0 = cc (t.bytes, drop-cons s i 0 (omega (arith, w.within))) in
        record { more = l; all = rw (← d) (stands_cut t); letters = rw (← d) e }

module _ (s : List ℕ) (i j : ℕ) (w : Lettered s i j) where
  abbrev here : Range
  here = record { from = i; to = j }

  tail : every alphanumeric w.more ≡ true
  tail = (and_both (alphanumeric (get_or s i 0)) (every alphanumeric w.more) w.letters).1

  pub lower_name : is_name (cut s here) ≡ lower (get_or s i 0)
  lower_name = rw (w.all, tail) (and-true (lower (get_or s i 0)))

  pub letters_word : is_word (cut s here) ≡ true
  letters_word = rw w.all w.letters

-- the kind of a word, by its first byte
name_by : (w : List ℕ) → is_word w ≡ true → is_name w ≡ lower (get_or w 0 0)
name_by [] e = never (sym e)
name_by (b ∷ l) e = rw (and_both (alphanumeric b) (every alphanumeric l) e).1 (and-true (lower b))

pub name_word : (w : List ℕ) → is_word w ≡ true → lower (get_or w 0 0) ≡ true → name_kind w ≡ word_kind w
name_word w e d = rw (name_by w e, d)

digit_variable : (w : List ℕ) → is_word w ≡ true → digit (get_or w 0 0) ≡ true → is_variable w ≡ false
digit_variable [] e d = never (sym e)
digit_variable (b ∷ l) e d =
    let k = and_both (leb 48 b) (leb b 57) d in
    let m : b ≤ 57 = leb-true b 57 k.1 in
    rw (lt-leb 65 b (omega arith), ne_eqb b 95 (λ q. omega arith))

number_by : (w : List ℕ) → is_word w ≡ true → is_number w ≡ every digit w
number_by [] e = never (sym e)
number_by (b ∷ l) e = refl

pub digit_word : (w : List ℕ) → is_word w ≡ true → digit (get_or w 0 0) ≡ true → lower (get_or w 0 0) ≡ false → word_kind w ≡ pick (every digit w) Number Wrong
digit_word w e n d = rw (name_by w e, d, digit_variable w e n, number_by w e)

-- the same of a word by its places
module _ (s : List ℕ) (i j : ℕ) (w : Lettered s i j) where
  by_digit : digit (get_or s i 0) ≡ true → lower (get_or s i 0) ≡ false → word_kind (cut s (record { from = i; to = j })) ≡ pick (every digit (cut s (record { from = i; to = j }))) Number Wrong
  by_digit e d = digit_word (cut s (record { from = i; to = j })) (letters_word s i j w) (rw w.all e) (rw w.all d)

  pub number_word : digit (get_or s i 0) ≡ true → lower (get_or s i 0) ≡ false → every digit (cut s (record { from = i; to = j })) ≡ true → Number ≡ word_kind (cut s (record { from = i; to = j }))
  number_word e d n = sym (by_digit e d ∙ rw n)

  pub wrong_word : digit (get_or s i 0) ≡ true → lower (get_or s i 0) ≡ false → every digit (cut s (record { from = i; to = j })) ≡ false → Wrong ≡ word_kind (cut s (record { from = i; to = j }))
  wrong_word e d n = sym (by_digit e d ∙ rw n)

variable_by : (w : List ℕ) → is_word w ≡ true → digit (get_or w 0 0) ≡ false → lower (get_or w 0 0) ≡ false → is_variable w ≡ true
variable_by [] e n d = never (sym e)
variable_by (b ∷ l) e n d =
    let k = and_both (alphanumeric b) (every alphanumeric l) e in
    let u : (upper b || underscore b) ≡ true = rw (d, n) at k.0 in
    rw (u, k.1)

pub variable_word : (w : List ℕ) → is_word w ≡ true → digit (get_or w 0 0) ≡ false → lower (get_or w 0 0) ≡ false → Variable ≡ word_kind w
variable_word w e n d = rw (name_by w e, d, variable_by w e n d)
