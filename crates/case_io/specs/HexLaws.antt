-- Laws of hexadecimal digits: one digit by its size, of bytes one after the other, and along a loop over bytes.
use Rattle.std.specs.Prelude.{◌≡◌, ℕ, suc, ◌+◌, ◌*◌, ◌/◌, ◌%◌, ◌<◌, ◌≤◌, List, [], ◌∷◌, ◌++◌, length, take, slice_index, slice_set}
use Rattle.std.proofs.Math.Path.{refl}
use Rattle.std.proofs.Common.{ap, append_assoc, arith, lt-ltb, le-ltb, length-set, take-suc-set, take_all}
use Rattle.std.proofs.Math.Numerals.{add-one}
use Rattle.std.proofs.Math.Seq.{take-suc}
use Rattle.io.specs.Digits.{hex_digit_ascii}
use Rattle.case_io.specs.Hex.{hex_digits}

pub digit_low : (n : ℕ) → n < 10 → 48 + n ≡ hex_digit_ascii n
digit_low n h = rw (lt-ltb n 10 h)

pub digit_high : (n : ℕ) → 10 ≤ n → 87 + n ≡ hex_digit_ascii n
digit_high n h = rw (le-ltb n 10 h)

hex_append : (a b : List ℕ) → hex_digits (a ++ b) ≡ hex_digits a ++ hex_digits b
hex_append [] b = refl
hex_append (x ∷ a) b = ap (λ (l : List ℕ). hex_digit_ascii (x / 16) ∷ hex_digit_ascii (x % 16) ∷ l) (hex_append a b)

-- two elements more at the end of a front
two_more : (l : List ℕ) (k x y : ℕ) → k + 1 < length l → take (k + 2) (slice_set (slice_set l k x) (k + 1) y) ≡ take k l ++ (x ∷ y ∷ [])
two_more l k x y h =
    let p : take (suc (k + 1)) (slice_set (slice_set l k x) (k + 1) y) ≡ take (k + 1) (slice_set l k x) ++ (y ∷ []) = take-suc-set (slice_set l k x) (k + 1) y (simp length-set (omega arith)) in
    let q : take (suc k) (slice_set l k x) ≡ take k l ++ (x ∷ []) = take-suc-set l k x (omega arith) in
    let e : k + 2 ≡ suc (k + 1) = omega arith in
    rw (e, p, add-one k, q, append_assoc)

-- along a loop over bytes: none, one byte more, and all
pub hex_start : (text bytes : List ℕ) → take 0 text ≡ hex_digits (take 0 bytes)
hex_start text bytes = refl

module _ (bytes text : List ℕ) (i k : ℕ) where
  pub hex_more : {b high low : ℕ} → i < length bytes → k + 1 < length text → b ≡ slice_index bytes i → high ≡ hex_digit_ascii (b / 16) → low ≡ hex_digit_ascii (b % 16)
      → take k text ≡ hex_digits (take i bytes) → take (k + 2) (slice_set (slice_set text k high) (k + 1) low) ≡ hex_digits (take (i + 1) bytes)
  hex_more {high = high} {low = low} h g e u v inv = rw (two_more text k high low g, inv, add-one i, take-suc bytes i 0, hex_append, ← e, ← u, ← v) refl

  pub hex_done : length bytes ≤ i → take k text ≡ hex_digits (take i bytes) → take k text ≡ hex_digits bytes
  hex_done h inv = rw (take_all i bytes h) at inv

-- the same where two digits stand for each byte before
pub hex_turn : (bytes text : List ℕ) (i : ℕ) {high low : ℕ} → i < length bytes → 2 * length bytes ≤ length text
    → high ≡ hex_digit_ascii (slice_index bytes i / 16) → low ≡ hex_digit_ascii (slice_index bytes i % 16) → take (2 * i) text ≡ hex_digits (take i bytes)
    → take (2 * (i + 1)) (slice_set (slice_set text (2 * i) high) (2 * i + 1) low) ≡ hex_digits (take (i + 1) bytes)
hex_turn bytes text i h room u v inv =
    let e : 2 * (i + 1) ≡ 2 * i + 2 = omega arith in
    rw e (hex_more bytes text i (2 * i) h (omega arith) refl u v inv)
