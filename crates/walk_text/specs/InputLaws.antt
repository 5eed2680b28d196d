-- What code knows of an input: how many bytes its length field names, and how many are taken of it.
use Rattle.std.specs.Prelude.{◌≡◌, Bool, true, false, cond, ltb, length, Option, Some, None}
use Rattle.std.proofs.Math.Path.{refl, ap}
use Rattle.std.proofs.Common.{sym, ◌∙◌, arith, lt-ltb, le-ltb, ltb-false}
use mathlib.Core.List.{List, [], ◌∷◌}
use Prim.Native.Nat.{ℕ, zero, suc, ◌+◌, ◌≤◌, ◌<◌, min}
use Rattle.std.proofs.Math.ListN.{take, length-take}
use Rattle.records.specs.Format.Heads.{joined, word_at}
use Rattle.walk_text.specs.Input.{bytes_named, taken}

abbrev word_named : Option ℕ → ℕ
word_named (Some n) = cond (ltb 32766 n) 0 n
word_named None = 0

named_word : (s : List ℕ) → word_named (word_at s 0) ≡ bytes_named s
unfolding bytes_named word_at
named_word [] = refl
named_word (x ∷ []) = refl
named_word (x ∷ y ∷ l) = refl

module _ (s : List ℕ) {w : Option ℕ} (is : w ≡ word_at s 0) where
  named_told : {v : Option ℕ} → w ≡ v → word_named v ≡ bytes_named s
  named_told e = ap word_named (sym e ∙ is) ∙ named_word s

  pub named_over : {n : ℕ} → w ≡ Some n → 32766 < n → 0 ≡ bytes_named s
  named_over {n} e h = rw (lt-ltb 32766 n h) at (named_told e)

  pub named_within : {n : ℕ} → w ≡ Some n → n ≤ 32766 → n ≡ bytes_named s
  named_within {n} e h = rw (le-ltb 32766 n h) at (named_told e)

  pub named_short : w ≡ None → 0 ≡ bytes_named s
  named_short e = named_told e

-- a length field that is not over 32,766
pub named_most : (s : List ℕ) → bytes_named s ≤ 32766
unfolding bytes_named
named_most [] = omega arith
named_most (x ∷ []) = omega arith
named_most (x ∷ y ∷ l) = go (ltb 32766 (joined x y)) refl
  where
    go : (b : Bool) → ltb 32766 (joined x y) ≡ b → cond b 0 (joined x y) ≤ 32766
    go true e = omega arith
    go false e = ltb-false 32766 (joined x y) e

-- two bytes tell as much as the whole input
pub named_field : (s : List ℕ) → bytes_named (take 2 s) ≡ bytes_named s
unfolding bytes_named
named_field [] = refl
named_field (x ∷ []) = refl
named_field (x ∷ y ∷ l) = refl

pub named_bound : (s : List ℕ) {n : ℕ} → n ≡ bytes_named s → n ≤ 32766
named_bound s e = omega (arith, e, named_most s)

-- what is taken of an input is its front of that length
module _ (s : List ℕ) where
  pub taken_length : length (taken s) ≡ min (2 + bytes_named s) (length s)
  unfolding taken
  taken_length = length-take (2 + bytes_named s) s

  pub taken_front : {n : ℕ} → n ≡ length (taken s) → take n s ≡ taken s
  unfolding taken
  taken_front {n} is = rw is (again (2 + bytes_named s) s)
    where
      again : (m : ℕ) (l : List ℕ) → take (length (take m l)) l ≡ take m l
      again zero l = refl
      again (suc m) [] = refl
      again (suc m) (x ∷ l) = ap (λ k. x ∷ k) (again m l)
