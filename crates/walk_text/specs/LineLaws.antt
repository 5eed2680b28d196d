-- What a writer of lines puts is what the definitions of lines say: the digits that the kit's `decimal` writes, of which a number of 64 bits has 20 at
-- most, the fields of a line, and the lines of a log.
use Rattle.std.specs.Prelude.{◌≡◌, refl, Bool, true, false, List, [], ◌∷◌, ◌++◌, ltb, length}
use Rattle.std.proofs.Math.Path.{ap}
use Rattle.std.proofs.Common.{◌∙◌, append-nil, append_assoc, pow-suc, ne_eqb, lt-ltb, ltb-true, ltb-false, length-drop}
use Prim.Native.Nat.{ℕ, zero, suc, ◌+◌, ◌-◌, ◌/◌, ◌*◌, ◌^◌, ◌≤◌, ◌<◌, ◌%◌}
use Rattle.std.proofs.Math.Nat.{pow-le-pow_right, add-zero}
use Rattle.std.proofs.Math.Numerals.{add-one}
use Rattle.std.proofs.Math.Decide.{dec_le}
use native.Mathlib.Omega.{arith}
use Rattle.std.specs.Simd.{first_chunks}
use Rattle.std.proofs.Math.ListN.{take, drop, get_or}
use Rattle.std.proofs.lemmas.List.{get_or-take, get_or-drop, drop-drop}
use Rattle.std.proofs.Math.Seq.{drop-cons}
use Rattle.io.specs.Digits.{last_digits, hex_digit_ascii, IsDigitCount}
use Rattle.records.specs.Format.Syntax.{Port, call, exit, fail, redo}
use Rattle.records.specs.Format.Encode.{port_byte}
use Rattle.records.specs.Writing.Patched.{Put}
use Rattle.records.specs.Writing.PatchedLaws.{put_none, put_then}
use Rattle.stepper.specs.Run.Run.{Mark}
use Rattle.stepper.specs.Run.RunLoop.{log_numbers}
use Rattle.walk_text.specs.Line.{digit, spelled, decimal, blank, field, line_feed, port_word, mark_line, mark_lines, byte_word, number_line, log_lines}

glyph_digit : (d : ℕ) → d < 10 → hex_digit_ascii d ≡ digit d
glyph_digit d h = simp (lt-ltb _ _ h)

-- a number of more digits than one is at least the power that its first digit stands for
first_power : (k n : ℕ) → IsDigitCount 10 1 n (suc (suc k)) → 10 ^ suc k ≤ n
first_power k n f = let e : suc (suc k) - 1 ≡ suc k = omega arith in rw e at (f.2 (omega arith))

-- the fewest digits of a number below 10 are one, and of any other those of its tenth and one more
one_digit : (k n : ℕ) → n < 10 → IsDigitCount 10 1 n (suc k) → k ≡ zero
one_digit zero n h f = refl
one_digit (suc k) n h f = absurd (omega (arith, first_power k n f, pow-le-pow_right {n = 10} (omega arith) {i = 1} {j = suc k} (omega arith)))

tenth : (k n : ℕ) → 10 ≤ n → IsDigitCount 10 1 n (suc k) → IsDigitCount 10 1 (n / 10) k
tenth zero n h f = absurd (omega (arith, f.1))
tenth (suc k) n h f = (omega arith, omega (arith, f.1, pow-suc 10 (suc k)), λ l. let e : suc k - 1 ≡ k = omega arith in rw e (omega (arith, first_power k n f, pow-suc 10 k)))

digits_spelled : (k b n : ℕ) → n ≤ b → IsDigitCount 10 1 n k → last_digits 10 k n ≡ spelled b n
unfolding spelled
digits_spelled zero b n h f = absurd (omega (arith, f.0))
digits_spelled (suc k) b n h f = go b h (digits_spelled k) (ltb n 10) refl
  where
    short : n < 10 → last_digits 10 (suc k) n ≡ digit n ∷ []
    short l = let z : k ≡ zero = one_digit k n l f in let m : n % 10 ≡ n = omega arith in rw (z, m, glyph_digit n l)

    go : (b : ℕ) → n ≤ b → ((b m : ℕ) → m ≤ b → IsDigitCount 10 1 m k → last_digits 10 k m ≡ spelled b m) → (t : Bool) → ltb n 10 ≡ t → last_digits 10 (suc k) n ≡ spelled b n
    go zero h less t e = short (omega arith)
    go (suc b) h less true e = rw e (short (ltb-true _ _ e))
    go (suc b) h less false e = let l : 10 ≤ n = ltb-false _ _ e in rw (e, less b (n / 10) (omega arith) (tenth k n l f), glyph_digit (n % 10) (omega arith))

pub digits_decimal : {k n : ℕ} → IsDigitCount 10 1 n k → last_digits 10 k n ≡ decimal n
unfolding decimal
digits_decimal {k} {n} f = digits_spelled k n n (omega arith) f

-- a number of 64 bits
pub few_digits : {k n : ℕ} → n < 2 ^ 64 → IsDigitCount 10 1 n k → k ≤ 20
few_digits {k} {n} h f = go (dec_le k 20)
  where
    go : Dec (k ≤ 20) → k ≤ 20
    go (yes l) = l
    go (no l) = absurd (omega (arith, f.2 (omega arith), pow-le-pow_right {n = 10} (omega arith) {i = 20} {j = k - 1} (omega arith)))

-- the fewest digits are the decimal number
pub put_decimal : {before after text : List ℕ} {at r k n : ℕ} → IsDigitCount 10 1 n k → text ≡ last_digits 10 k n → Put before at text after r → Put before at (decimal n) after r
put_decimal f e p = rw (← digits_decimal f, ← e) p

-- the word of a byte that is none of the first three
pub other_word : (n : ℕ) → (n ≡ 1 → ⊥) → (n ≡ 2 → ⊥) → (n ≡ 3 → ⊥) → byte_word n ≡ port_word redo
unfolding byte_word
other_word n x y z = rw (ne_eqb n 1 x, ne_eqb n 2 y, ne_eqb n 3 z)

-- the fields of a line, one after the other
pub put_fields : {out a b c after : List ℕ} {at i j k r : ℕ} (step port ancestors bets : ℕ)
    → Put out at (decimal step) a i → Put a i (blank ∷ []) b j → Put b j (byte_word port) c k
    → Put c k (field (decimal ancestors) ++ (field (decimal bets) ++ (line_feed ∷ []))) after r
    → Put out at (number_line step port ancestors bets) after r
unfolding number_line
put_fields step port ancestors bets number space word counts = put_then number (put_then space (put_then word counts))

-- the numbers of a mark give its line
byte_told : (p : Port) → byte_word (port_byte p) ≡ port_word p
unfolding byte_word
byte_told call = refl
byte_told exit = refl
byte_told fail = refl
byte_told redo = refl

pub lines_told : (step : ℕ) (l : List Mark) → log_lines step (log_numbers l) ≡ mark_lines step l
unfolding log_lines log_numbers mark_lines number_line mark_line
lines_told step [] = refl
lines_told step (m ∷ l) = rw (byte_told m.port, lines_told (suc step) l)

-- fewer than three numbers are no mark
few_numbers : (step : ℕ) (l : List ℕ) → length l < 3 → log_lines step l ≡ []
unfolding log_lines
few_numbers step [] h = refl
few_numbers step (p ∷ []) h = refl
few_numbers step (p ∷ (a ∷ [])) h = refl
few_numbers step (p ∷ (a ∷ (b ∷ l))) h = absurd (omega arith)

-- Lines on their way to a page: so many numbers of the log are printed, and the step of the next line is known.
pub record LinesPut (first : ℕ) (log before : List ℕ) (at : ℕ) (page : List ℕ) (used j step : ℕ) : Type 0 where
  pub lines : List ℕ
  pub put : Put before at lines page used
  pub left : log_lines first log ≡ lines ++ log_lines step (drop j log)

pub lines_none : {log before : List ℕ} (first at : ℕ) → LinesPut first log before at before at 0 first
lines_none first at = record { lines = []; put = put_none; left = refl }

module _ {first : ℕ} {log before : List ℕ} {at : ℕ} {page : List ℕ} {used j step : ℕ} (w : LinesPut first log before at page used j step) where
  pub lines_more : {page' : List ℕ} {used' : ℕ} → j + 3 ≤ length log → Put page used (number_line step (get_or log j 0) (get_or log (j + 1) 0) (get_or log (j + 2) 0)) page' used'
      → LinesPut first log before at page' used' (j + 3) (step + 1)
  unfolding log_lines
  lines_more h p =
      let b : suc j ≡ j + 1 = omega arith in
      let c : suc (j + 1) ≡ j + 2 = omega arith in
      let d : suc (j + 2) ≡ j + 3 = omega arith in
      let next : drop j log ≡ get_or log j 0 ∷ (get_or log (j + 1) 0 ∷ (get_or log (j + 2) 0 ∷ drop (j + 3) log)) =
      drop-cons log j 0 (omega arith) ∙ ap (λ l. get_or log j 0 ∷ l) (ap (λ n. drop n log) b ∙ drop-cons log (j + 1) 0 (omega arith)
      ∙ ap (λ l. get_or log (j + 1) 0 ∷ l) (ap (λ n. drop n log) c ∙ drop-cons log (j + 2) 0 (omega arith) ∙ ap (λ n. get_or log (j + 2) 0 ∷ drop n log) d)) in
      record {
        lines = w.lines ++ number_line step (get_or log j 0) (get_or log (j + 1) 0) (get_or log (j + 2) 0);
        put = put_then w.put p;
        left = w.left ∙ rw (next, add-one step, append_assoc) refl;
      }

  pub lines_all : length log < j + 3 → Put before at (log_lines first log) page used
  lines_all h = rw (w.left, few_numbers step (drop j log) (omega (arith, length-drop j log)), append-nil) w.put

-- the numbers of a log's marks, of three each, are those of the log
mark_at : (k i : ℕ) (l : List ℕ) → i < k → get_or (first_chunks 3 k l) i [] ≡ take 3 (drop (3 * i) l)
mark_at zero i l h = absurd (omega arith)
mark_at (suc k) zero l h = refl
mark_at (suc k) (suc i) l h = let e : 3 * suc i ≡ 3 + 3 * i = omega arith in mark_at k i (drop 3 l) (omega arith) ∙ rw (e, drop-drop (3 * i) 3 l) refl

mark_number : (k i j : ℕ) (l : List ℕ) → i < k → j < 3 → get_or (get_or (first_chunks 3 k l) i []) j 0 ≡ get_or l (3 * i + j) 0
mark_number k i j l h g = rw (mark_at k i l h, get_or-take 3 (drop (3 * i) l) j 0 g, get_or-drop (3 * i) l j 0) refl

-- one mark more
pub lines_mark : {first i at used used' : ℕ} {log before page page' : List ℕ} {marks : List (List ℕ)} → LinesPut first log before at page used (3 * i) (first + i)
    → marks ≡ first_chunks 3 (length log / 3) log → i < length log / 3
    → Put page used (number_line (first + i) (get_or (get_or marks i []) 0 0) (get_or (get_or marks i []) 1 0) (get_or (get_or marks i []) 2 0)) page' used'
    → LinesPut first log before at page' used' (3 * (i + 1)) (first + (i + 1))
lines_mark {first} {i} {log = log} w is h p =
    let number = λ (j : ℕ) (g : j < 3). mark_number (length log / 3) i j log h g in
    let numbers = rw (is, number 0 (omega arith), number 1 (omega arith), number 2 (omega arith), add-zero (3 * i)) at p in
    let next : 3 * (i + 1) ≡ 3 * i + 3 = omega arith in
    let step : first + (i + 1) ≡ first + i + 1 = omega arith in
    rw (next, step) (lines_more w (omega arith) numbers)
