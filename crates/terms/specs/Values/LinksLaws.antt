-- Laws of links: none link every table, they link fewer entries too, one entry more, and a look that begins by them misses no entry.
use Rattle.std.specs.Prelude.{◌≡◌, refl, List, [], ℕ, zero, suc, ◌+◌, ◌-◌, ◌≤◌, ◌<◌, min, length, get_or, set, take, Option, Some, None}
use Rattle.std.proofs.Common.{sym, ap, ◌∙◌, arith, length-set, length-take-le, get_or-take, get_or-set_same, get_or-set_other}
use Rattle.std.proofs.Math.Decide.{ℕ_discrete}
use Rattle.records.specs.Format.Heads.{word_at}
use Rattle.records.specs.Format.Never.{never}
use Rattle.terms.specs.declared.pairs.ListedPair.{ListedPair}
use Rattle.terms.specs.Values.Entries.{PairTable, entry, pair_entries}
use Rattle.terms.specs.Values.EntryLaws.{Searching, searched, searching_next, find_start, entry_entered}
use Rattle.terms.specs.Values.Links.{PairsLinked, PairLinked, LookFrom}

pub linked_none : {s : List ℕ} {listed : List ListedPair} {i : ℕ} {links : List ℕ} → length links ≡ 0 → PairsLinked s listed i links
linked_none e = record { below = λ j v h l w. absurd (omega arith) }

pub linked_fewer : {s : List ℕ} {listed : List ListedPair} {i n : ℕ} {links : List ℕ} → PairsLinked s listed i links → n ≤ i → PairsLinked s listed n links
linked_fewer u m = record { below = λ j v h l w. u.below j v (omega arith) l w }

pub linked_taken : {s : List ℕ} {listed : List ListedPair} {i n : ℕ} {links : List ℕ} → PairsLinked s listed i links → n ≤ i → n ≤ length listed
    → PairsLinked s (take n listed) (length (take n listed)) links
linked_taken {listed = listed} {n = n} u m h = record {
  below = λ j v b l w. let q : j < n = omega (arith, length-take-le n listed h) in
      u.below j v (omega arith) l (rw (get_or-take n listed j (record { place = 0; first = 0 }) q) at w);
}

pub linked_start : {s links : List ℕ} {listed : List ListedPair} → PairsLinked s listed 0 links
linked_start = record { below = λ j v h l w. absurd (omega arith) }

pub linked_next : {s : List ℕ} {listed : List ListedPair} {k : ℕ} {links₀ links : List ℕ} → PairsLinked s listed k links₀ → PairLinked s (entry listed k).place (k + 1) links₀ links → PairsLinked s listed (k + 1) links
linked_next {s} {listed} {k} {links₀} {links} u q = record { below = λ j v h l w. go j v h l w (ℕ_discrete j k) }
  where
    go : (j v : ℕ) → j < k + 1 → v < length links → word_at s (entry listed j).place ≡ Some v → Dec (j ≡ k) → j < get_or links v 0
    go j v h l w (yes e) = omega (arith, q.own v l (ap (λ (n : ℕ). word_at s (entry listed n).place) (sym e) ∙ w), e)
    go j v h l w (no n) = q.kept j v (omega arith) (u.below j v (omega (arith, n)) (omega (arith, q.long)) w)

-- one entry more, by what stands there
pub no_pair_linked : {s : List ℕ} {at n : ℕ} {links : List ℕ} {w : Option ℕ} → w ≡ word_at s at → w ≡ None → PairLinked s at n links links
no_pair_linked is e = record { own = λ v l i. never cc; kept = λ j v h l. l; long = refl }

same_variable : {w z : Option ℕ} {x v : ℕ} → w ≡ z → w ≡ Some x → z ≡ Some v → x ≡ v
same_variable is e i = cc

module _ {s : List ℕ} {at n x : ℕ} {links : List ℕ} {w : Option ℕ} (is : w ≡ word_at s at) (e : w ≡ Some x) where
  pub beyond_linked : length links ≤ x → PairLinked s at n links links
  beyond_linked h = record { own = λ v l i. absurd (omega (arith, same_variable is e i)); kept = λ j v h l. l; long = refl }

  pub pair_linked : x < length links → PairLinked s at n links (set links x n)
  pair_linked h = record { own = λ v l i. rw (← (same_variable is e i)) (get_or-set_same links x n 0 h); kept = λ j v l b. go j v l b (ℕ_discrete v x); long = length-set links x n }
    where
      go : (j v : ℕ) → j < n → j < get_or links v 0 → Dec (v ≡ x) → j < get_or (set links x n) v 0
      go j v l b (yes q) = rw (q, get_or-set_same links x n 0 h) l
      go j v l b (no q) = rw (get_or-set_other links x v n 0 q) b

-- where a look begins: behind all entries, or at the link
pub look_all : {links : List ℕ} {i v : ℕ} → LookFrom links i v i
look_all = record { within = omega arith; beyond = λ j h l. absurd (omega arith) }

pub look_linked : {links : List ℕ} {i v r : ℕ} → v < length links → r ≡ min (get_or links v 0) i → LookFrom links i v r
look_linked h e = record { within = omega arith; beyond = λ j m n. (h, omega arith) }

-- a look that begins by the links
pub searching_from : {s : List ℕ} {listed : List ListedPair} {i : ℕ} (p : PairTable s listed i) {links : List ℕ} → PairsLinked s listed i links → {v r : ℕ} → LookFrom links i v r
    → Searching (pair_entries [] p.bets) v r
searching_from {s} {listed} {i} p {links} u {v} {r} f = down (i - r) i (omega (arith, f.within)) (omega arith) (find_start p v)
  where
    down : (d k : ℕ) → k ≡ r + d → k ≤ i → Searching (pair_entries [] p.bets) v k → Searching (pair_entries [] p.bets) v r
    down zero k e h z = let q : k ≡ r = omega arith in rw q at z
    down (suc d) k e h z =
        let some_left : 0 < k = omega arith in
        let b = f.beyond (k - 1) (omega arith) (omega arith) in
        let x = searched z some_left in
        let is = (entry_entered p {k = k - 1} x.1 (omega arith)).number in
        down d (k - 1) (omega arith) (omega arith) (searching_next z some_left (λ y. omega (arith, u.below (k - 1) v (omega arith) b.0 (is ∙ ap Some y), b.1)))
