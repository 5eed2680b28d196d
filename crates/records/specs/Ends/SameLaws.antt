-- Laws of the comparison of bytes: it is true of equal lists alone, is the library's, and answers for two ranges.
use Prim.Native.Nat.{ℕ, suc, ◌-◌}
use Rattle.std.specs.Prelude.{◌≡◌, Bool, true, false, ◌&&◌, List, [], ◌∷◌, eqb, length, drop, take}
use Rattle.std.proofs.Math.Path.{refl}
use Rattle.std.proofs.Common.{sym, ap, ap₂, ◌∙◌}
use borrow.Author.Tests.{eq-eqb, eqb-true}
use Rattle.records.specs.Format.Never.{never}
use Rattle.records.specs.Gate.RecordRulesLaws.{and_both}
use Rattle.records.specs.Ends.Range.{size, cut, Inside}
use Rattle.records.specs.Ends.RangeLaws.{length_cut}
use Rattle.records.specs.Ends.Same.{same_bytes}
use Rattle.records.specs.declared.put.Range.{Range}
use lib.Pointwise.{pointwise}

pub same_true : (l k : List ℕ) → same_bytes l k ≡ true → l ≡ k
unfolding same_bytes
same_true [] [] e = refl
same_true [] (y ∷ k) e = never cc
same_true (x ∷ l) [] e = never cc
same_true (x ∷ l) (y ∷ k) e = let w = and_both (eqb x y) (same_bytes l k) e in ap₂ ◌∷◌ (eqb-true x y w.0) (same_true l k w.1)

pub same_refl : (l : List ℕ) → same_bytes l l ≡ true
unfolding same_bytes
same_refl [] = refl
same_refl (x ∷ l) = rw (eq-eqb x x refl, same_refl l)

pub same_length : (l k : List ℕ) → (length l ≡ length k → ⊥) → same_bytes l k ≡ false
unfolding same_bytes
same_length [] [] h = absurd (h refl)
same_length [] (y ∷ k) h = refl
same_length (x ∷ l) [] h = refl
same_length (x ∷ l) (y ∷ k) h = rw (same_length l k (λ e. h (ap suc e))) (no_matter (eqb x y))
  where
    no_matter : (b : Bool) → (b && false) ≡ false
    no_matter true = refl
    no_matter false = refl

-- the library's comparison of two slices of bytes is this one
pub pointwise_same : (l k : List ℕ) → pointwise eqb l k ≡ same_bytes l k
unfolding same_bytes
pointwise_same [] [] = refl
pointwise_same [] (y ∷ k) = refl
pointwise_same (x ∷ l) [] = refl
pointwise_same (x ∷ l) (y ∷ k) = ap (λ (b : Bool). eqb x y && b) (pointwise_same l k)

-- two ranges
pub differ_size : (s u : List ℕ) (x y : Range) → Inside x s → Inside y u → (x.to - x.from ≡ y.to - y.from → ⊥) → false ≡ same_bytes (cut s x) (cut u y)
unfolding size
differ_size s u x y p q h = sym (same_length (cut s x) (cut u y) (λ e. h (sym (length_cut p) ∙ e ∙ length_cut q)))

pub same_size : (s u : List ℕ) (x y : Range) {r : Bool} → x.to - x.from ≡ y.to - y.from → r ≡ same_bytes (take (x.to - x.from) (drop x.from s)) (take (x.to - x.from) (drop y.from u))
    → r ≡ same_bytes (cut s x) (cut u y)
unfolding cut size
same_size s u x y h q = q ∙ ap (λ (n : ℕ). same_bytes (take (x.to - x.from) (drop x.from s)) (take n (drop y.from u))) h
