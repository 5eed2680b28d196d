-- All numbers of a list are below a number just where the least number above them is at most that.
use Rattle.std.specs.Prelude.{◌≡◌, Bool, true, ◌&&◌, List, [], ◌∷◌, ℕ, suc, ◌≤◌, max, leb, ltb}
use Rattle.std.proofs.Common.{sym, ap, ◌∙◌, arith, leb-true, le-leb}
use Rattle.std.proofs.Math.Dec.{leb-zero}
use Rattle.records.specs.Gate.RecordRules.{every}
use Rattle.records.specs.Gate.RecordRulesLaws.{same_truth, and_both}
use Rattle.records.specs.Ends.Above.{above}

leb_max : (a b n : ℕ) → (leb a n && leb b n) ≡ leb (max a b) n
leb_max a b n = same_truth (leb a n && leb b n) (leb (max a b) n) forth back
  where
    forth : (leb a n && leb b n) ≡ true → leb (max a b) n ≡ true
    forth e = let w = and_both (leb a n) (leb b n) e in le-leb (max a b) n (omega (arith, leb-true a n w.0, leb-true b n w.1))

    back : leb (max a b) n ≡ true → (leb a n && leb b n) ≡ true
    back e = let h : max a b ≤ n = leb-true (max a b) n e in rw (le-leb a n (omega arith), le-leb b n (omega arith))

-- all numbers of the list are below n just where `above` is at most n
pub every_below : (n : ℕ) (l : List ℕ) → every (λ x. ltb x n) l ≡ leb (above l) n
every_below n [] = sym (leb-zero n)
every_below n (x ∷ l) = ap (λ (b : Bool). ltb x n && b) (every_below n l) ∙ leb_max (suc x) (above l) n
