-- Laws of ranges: how long what is cut out is, and which range cuts a part out of a list.
use Rattle.std.specs.Prelude.{◌≡◌, List, ◌++◌, ℕ, ◌+◌, length}
use Rattle.std.proofs.Common.{sym, arith, length-take, length-drop, length-append, take_at, drop_at}
use Rattle.records.specs.Ends.Range.{size, cut, Inside}
use Rattle.records.specs.declared.put.Range.{Range}

pub length_cut : {r : Range} {l : List ℕ} → Inside r l → length (cut l r) ≡ size r
unfolding cut size
length_cut {r} {l} h = simp (length-take, length-drop) (omega arith)

-- a range that starts after p and is as long as s lies in p ++ (s ++ q) ..
pub inside_at : (p s q : List ℕ) {l : List ℕ} {r : Range} → l ≡ p ++ (s ++ q) → r.from ≡ length p → r.to ≡ length p + length s → Inside r l
inside_at p s q e f t = record { order = omega arith; stop = rw (e, length-append, length-append) (omega arith) }

-- .. and cuts s out of it
pub cut_at : (p s q : List ℕ) {l : List ℕ} {r : Range} → l ≡ p ++ (s ++ q) → r.from ≡ length p → r.to ≡ length p + length s → cut l r ≡ s
unfolding cut size
cut_at p s q {l} {r} e f t =
    let n : length s ≡ size r = omega arith in
    rw (e, drop_at p (s ++ q) r.from (sym f)) (take_at s q (size r) n)
