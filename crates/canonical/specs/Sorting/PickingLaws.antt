-- Laws of picking: picking sorts, whatever order the numbers have; numbers that rise are picked from in one pass; and numbers that differ, in their
-- order, are what is picked of them.
use Rattle.std.specs.Prelude.{◌≡◌, refl, ◌⊎◌, Bool, true, false, cond, List, [], ◌∷◌, ◌++◌, ℕ, zero, suc, ◌+◌, ◌-◌, ◌≤◌, ◌<◌, ltb, eqb, length, take, drop, get_or, set}
use Rattle.std.specs.List.{All, IsDistinct}
use Rattle.std.specs.List.Sorted.{IsPermutation, IsNonDecreasing, IsStrictlyIncreasing}
use Rattle.std.proofs.Common.{sym, ap, ◌∙◌, inl, inr, append_assoc, append-nil, le_refl, add-one, arith, length-set, drop_of_length-le, drop-cons, take-suc-set}
use Rattle.std.proofs.Math.ListN.{replicate}
use Rattle.std.proofs.lemmas.List.{drop-set-lt}
use Rattle.std.proofs.lemmas.Bool.Decides.{nat_tests}
use Rattle.std.proofs.lemmas.List.Sorted.{All-permutation, IsPermutation-sym, length_permutation}
use Rattle.std.proofs.lemmas.Map.Keys.{IsDistinct-IsPermutation, IsStrictlyIncreasing-from_distinct}
use borrow.Rule.Slice.PartMut.{mid_of, post_of, put_mid, mid_len, Post-is}
use borrow.Author.Tests.{lt-ltb, le-ltb, ltb-true, ltb-false}
use Rattle.terms.specs.Theory.Variables.{Among}
use Rattle.canonical.specs.Sorting.Picking.{entry_limit, better, least, picked}

module _ (low best x : ℕ) where
  pub better_low : x < low → best ≡ better low best x
  unfolding better
  better_low h = rw (lt-ltb x low h)

  pub better_lower : low ≤ x → x < best → x ≡ better low best x
  unfolding better
  better_lower h k = rw (le-ltb x low h, lt-ltb x best k)

  pub better_higher : low ≤ x → best ≤ x → best ≡ better low best x
  unfolding better
  better_higher h k = rw (le-ltb x low h, le-ltb x best k)

-- the better of two, by cases
better_cases : (low best x : ℕ)
    → ((better low best x ≡ best) × (low ≤ x → best ≤ x)) ⊎ ((better low best x ≡ x) × (low ≤ x) × (x < best))
unfolding better
better_cases low best x = go (ltb x low) (ltb x best) refl refl
  where
    go : (a b : Bool) → ltb x low ≡ a → ltb x best ≡ b
        → ((cond a best (cond b x best) ≡ best) × (low ≤ x → best ≤ x)) ⊎ ((cond a best (cond b x best) ≡ x) × (low ≤ x) × (x < best))
    go true b ea eb = inl (refl, λ h. absurd (omega (arith, ltb-true x low ea)))
    go false true ea eb = inr (refl, ltb-false x low ea, ltb-true x best eb)
    go false false ea eb = inl (refl, λ h. ltb-false x best eb)

-- r is the least of `best` and those of the list that are at least `low`
record LeastOf (low best : ℕ) (l : List ℕ) (r : ℕ) : Type 0 where
  pub bound : r ≤ best
  pub below : (x : ℕ) → Among x l → low ≤ x → r ≤ x
  pub found : (r ≡ best) ⊎ (Among r l × (low ≤ r))

least_is : (low best : ℕ) (l : List ℕ) → LeastOf low best l (least low best l)
unfolding least
least_is low best [] = record { bound = le_refl best; below = λ x m h. absurd m; found = inl refl }
least_is low best (y ∷ l) = go (better low best y) (better_cases low best y) (least low (better low best y) l) (least_is low (better low best y) l)
  where
    go : (b : ℕ) → ((b ≡ best) × (low ≤ y → best ≤ y)) ⊎ ((b ≡ y) × (low ≤ y) × (y < best)) → (r : ℕ) → LeastOf low b l r → LeastOf low best (y ∷ l) r
    go b (inl c) r i = record {
      bound = omega (arith, i.bound, c.0);
      below = λ x m h. elim m [ inl e ↦ omega (arith, i.bound, c.0, c.1 (omega arith)) | inr k ↦ i.below x k h ];
      found = elim i.found [ inl e ↦ inl (e ∙ c.0) | inr k ↦ inr (inr k.0, k.1) ];
    }
    go b (inr c) r i = record {
      bound = omega (arith, i.bound, c.0, c.2);
      below = λ x m h. elim m [ inl e ↦ omega (arith, i.bound, c.0) | inr k ↦ i.below x k h ];
      found = elim i.found [ inl e ↦ inr (inl (e ∙ c.0), omega (arith, c.0, c.1)) | inr k ↦ inr (inr k.0, k.1) ];
    }

-- an entry picked is at most `entry_limit`
pub pick_bound : (low : ℕ) (t : List ℕ) {e : ℕ} → e ≡ least low entry_limit t → e ≤ entry_limit
pick_bound low t q = rw q (least_is low entry_limit t).bound

-- strictly rising numbers from `low` on and below `entry_limit`
abbrev pub Ascending : ℕ → List ℕ → Type 0
Ascending low [] = Unit {0}
Ascending low (x ∷ l) = (low ≤ x) × (x < entry_limit) × Ascending (suc x) l

ascending_from : (low : ℕ) (l : List ℕ) → Ascending low l → (x : ℕ) → Among x l → low ≤ x
ascending_from low [] h x m = absurd m
ascending_from low (y ∷ l) h x (inl e) = omega (arith, h.0)
ascending_from low (y ∷ l) h x (inr m) = omega (arith, h.0, ascending_from (suc y) l h.2 x m)

-- picking from a list gives its numbers from `low` on, rising
pub picked_ascending : (l m : List ℕ) (low : ℕ) → Ascending low m → ((x : ℕ) → Among x m → Among x l) → ((x : ℕ) → Among x l → low ≤ x → Among x m)
    → picked (length m) low l ≡ m
unfolding picked
picked_ascending l [] low h f g = refl
picked_ascending l (y ∷ m) low h f g =
    let below : least low entry_limit l ≤ y = (least_is low entry_limit l).below y (f y (inl refl)) h.0 in
    let first : least low entry_limit l ≡ y = elim (least_is low entry_limit l).found [
      | inl e ↦ absurd (omega (arith, h.1))
      | inr q ↦ elim (g (least low entry_limit l) q.0 q.1) [
        | inl e ↦ e
        | inr k ↦ absurd (omega (arith, ascending_from (suc y) m h.2 (least low entry_limit l) k))
      ]
    ] in
    let rest = picked_ascending l m (suc y) h.2 (λ x k. f x (inr k)) (λ x k b. elim (g x k (omega (arith, h.0))) [
      | inl e ↦ absurd (omega arith)
      | inr j ↦ j
    ]) in
    rw first (ap (λ (k : List ℕ). y ∷ k) rest)

-- numbers that rise strictly, below `entry_limit`
ascending_strictly : (low : ℕ) (l : List ℕ) → (0 < length l → low ≤ get_or l 0 0) → IsStrictlyIncreasing l → All (λ e. e < entry_limit) l → Ascending low l
ascending_strictly low [] h r b = tt
ascending_strictly low (x ∷ l) h r b = (
  h (omega arith),
  b 0 x (omega arith),
  ascending_strictly (suc x) l (λ n. r 0 (omega arith)) (λ k n. rw (add-one k) (rw (add-one (suc k)) at (r (suc k) (omega arith)))) (λ k d n. b (suc k) d (omega arith)),
)

among_at : (l : List ℕ) (k d : ℕ) → k < length l → Among (get_or l k d) l
among_at [] k d h = absurd (omega arith)
among_at (x ∷ l) zero d h = inl refl
among_at (x ∷ l) (suc k) d h = inr (among_at l k d (omega arith))

of_all : (Φ : ℕ → Type 0) (l : List ℕ) → All Φ l → (x : ℕ) → Among x l → Φ x
of_all Φ [] a x m = absurd m
of_all Φ (y ∷ l) a x (inl e) = rw e (a 0 y (omega arith))
of_all Φ (y ∷ l) a x (inr m) = of_all Φ l (λ k d n. a (suc k) d (omega arith)) x m

moved : (t u : List ℕ) → IsPermutation t u → (x : ℕ) → Among x u → Among x t
moved t u p = of_all (λ x. Among x t) u (All-permutation (λ x. Among x t) t u p (among_at t))

-- so the order of a list does not matter to picking
least_within : (low : ℕ) (t u : List ℕ) → ((x : ℕ) → Among x t → Among x u) → least low entry_limit u ≤ least low entry_limit t
least_within low t u f = elim (least_is low entry_limit t).found [
  | inl e ↦ omega (arith, e, (least_is low entry_limit u).bound)
  | inr q ↦ (least_is low entry_limit u).below (least low entry_limit t) (f (least low entry_limit t) q.0) q.1
]

picked_alike : (n low : ℕ) (t u : List ℕ) → ((x : ℕ) → Among x t → Among x u) → ((x : ℕ) → Among x u → Among x t) → picked n low t ≡ picked n low u
unfolding picked
picked_alike zero low t u f g = refl
picked_alike (suc n) low t u f g =
    let first : least low entry_limit t ≡ least low entry_limit u = omega (arith, least_within low t u f, least_within low u t g) in
    rw first (ap (λ (l : List ℕ). least low entry_limit u ∷ l) (picked_alike n (suc (least low entry_limit u)) t u f g))

pub picked_permuted : (t u : List ℕ) → IsPermutation t u → picked (length u) 0 u ≡ picked (length t) 0 t
picked_permuted t u p =
    ap (λ (n : ℕ). picked n 0 u) (length_permutation t u p)
    ∙ picked_alike (length t) 0 u t (moved t u p) (moved u t (IsPermutation-sym t u p))

-- a number below `low`, or from the limit on, is passed over
better_past : (low x : ℕ) → (low ≤ x → entry_limit ≤ x) → better low entry_limit x ≡ entry_limit
better_past low x h = elim (better_cases low entry_limit x) [
  | inl c ↦ c.0
  | inr c ↦ absurd (omega (arith, h c.1, c.2))
]

picked_past : (n low x : ℕ) (l : List ℕ) → (low ≤ x → entry_limit ≤ x) → picked n low (x ∷ l) ≡ picked n low l
unfolding picked least
picked_past zero low x l h = refl
picked_past (suc n) low x l h =
    let later : suc (least low entry_limit l) ≤ x → entry_limit ≤ x = λ k. elim (least_is low entry_limit l).found [
      | inl e ↦ omega (arith, e, k)
      | inr q ↦ h (omega (arith, q.1, k))
    ] in
    rw (better_past low x h) (ap (λ (m : List ℕ). least low entry_limit l ∷ m) (picked_past n (suc (least low entry_limit l)) x l later))

-- another one that none is below is picked
picked_first : (n low x : ℕ) (l : List ℕ) → low ≤ x → x < entry_limit → ((y : ℕ) → Among y l → x ≤ y) → picked (suc n) low (x ∷ l) ≡ x ∷ picked n (suc x) l
unfolding picked least
picked_first n low x l h k f =
    let i = least_is low x l in
    let first : least low x l ≡ x = elim i.found [
      | inl e ↦ e
      | inr q ↦ omega (arith, i.bound, f (least low x l) q.0)
    ] in
    rw (← better_lower low entry_limit x h k, first) (ap (λ (m : List ℕ). x ∷ m) (picked_past n (suc x) x l (λ j. absurd (omega arith))))

-- where none is left, the limit is picked
picked_none : (n low : ℕ) → picked n low [] ≡ replicate n entry_limit
unfolding picked least
picked_none zero low = refl
picked_none (suc n) low = ap (λ (l : List ℕ). entry_limit ∷ l) (picked_none n (suc entry_limit))

-- of numbers that rise, those after the first rise, and are not below it
rest_rises : (x : ℕ) (l : List ℕ) → IsNonDecreasing (x ∷ l) → IsNonDecreasing l
rest_rises x l h i j d b n = h (suc i) (suc j) d (omega arith) (omega arith)

rest_above : (x : ℕ) (l : List ℕ) → IsNonDecreasing (x ∷ l) → (y : ℕ) → Among y l → x ≤ y
rest_above x l h = of_all (λ y. x ≤ y) l (λ k d n. h 0 (suc k) d (omega arith) (omega arith))

-- the pass at i over numbers that rise, whose outcome is to be `whole`: what was kept stands in front, and what is left is to be picked from
pub record Keeping (whole sorted : List ℕ) (low kept i : ℕ) : Type 0 where
  pub within : kept ≤ i
  pub left : ℕ
  pub room : kept + left ≡ length sorted
  pub rises : IsNonDecreasing (drop i sorted)
  pub stored : whole ≡ take kept sorted ++ picked left low (drop i sorted)

pub keeping_start : (sorted : List ℕ) → IsNonDecreasing sorted → Keeping (picked (length sorted) 0 sorted) sorted 0 0 0
keeping_start sorted h = record { within = omega arith; left = length sorted; room = omega arith; rises = h; stored = refl }

module _ {whole sorted : List ℕ} {low kept i : ℕ} (r : Keeping whole sorted low kept i) (h : i < length sorted) where
  next_rises : IsNonDecreasing (get_or sorted i 0 ∷ drop (suc i) sorted)
  next_rises = rw (drop-cons sorted i 0 h) at r.rises

  -- the next number is passed over
  pub keeping_past : (low ≤ get_or sorted i 0 → entry_limit ≤ get_or sorted i 0) → Keeping whole sorted low kept (i + 1)
  keeping_past p = rw (add-one i) (record {
    within = omega (arith, r.within);
    left = r.left;
    room = r.room;
    rises = rest_rises (get_or sorted i 0) (drop (suc i) sorted) next_rises;
    stored =
        r.stored
        ∙ ap (λ (l : List ℕ). take kept sorted ++ l) (ap (picked r.left low) (drop-cons sorted i 0 h) ∙ picked_past r.left low (get_or sorted i 0) (drop (suc i) sorted) p);
  })

  -- it is kept
  pub keeping_next : low ≤ get_or sorted i 0 → get_or sorted i 0 < entry_limit
      → Keeping whole (set sorted kept (get_or sorted i 0)) (get_or sorted i 0 + 1) (kept + 1) (i + 1)
  keeping_next p q = go r.left r.room r.stored
    where
      x : ℕ
      x = get_or sorted i 0

      later : drop (suc i) (set sorted kept x) ≡ drop (suc i) sorted
      later = drop-set-lt (suc i) sorted kept x (omega (arith, r.within))

      go : (left : ℕ) → kept + left ≡ length sorted → whole ≡ take kept sorted ++ picked left low (drop i sorted) → Keeping whole (set sorted kept x) (x + 1) (kept + 1) (i + 1)
      go zero n e = absurd (omega (arith, r.within))
      go (suc left) n e = rw (add-one x, add-one kept, add-one i) (record {
        within = omega (arith, r.within);
        left = left;
        room = omega (arith, length-set sorted kept x);
        rises = rw later (rest_rises x (drop (suc i) sorted) next_rises);
        stored =
            rw (later, take-suc-set sorted kept x (omega (arith, r.within)))
            (e
            ∙ ap (λ (l : List ℕ). take kept sorted ++ l)
            (ap (picked (suc left) low) (drop-cons sorted i 0 h) ∙ picked_first left low x (drop (suc i) sorted) p q (rest_above x (drop (suc i) sorted) next_rises))
            ∙ sym (append_assoc (take kept sorted) (x ∷ []) (picked left (suc x) (drop (suc i) sorted))));
      })

-- at the end the limit fills what is left
pub keeping_end : {whole sorted filled : List ℕ} {low kept i : ℕ} → Keeping whole sorted low kept i → length sorted ≤ i
    → filled ≡ replicate (length (mid_of kept (length sorted - kept) sorted)) entry_limit → put_mid kept (length sorted - kept) sorted filled ≡ whole
keeping_end {sorted = sorted} {filled} {low} {kept} {i} r h e =
    let same : length sorted - kept ≡ r.left = omega (arith, r.room) in
    let size = mid_len kept (length sorted) sorted (le_refl (length sorted)) in
    let rest : post_of kept (length sorted - kept) sorted ≡ [] = Post-is kept (length sorted) sorted (omega (arith, r.room)) ∙ drop_of_length-le sorted (le_refl (length sorted)) in
    let tail : filled ++ post_of kept (length sorted - kept) sorted ≡ replicate r.left entry_limit =
    ap (λ (l : List ℕ). filled ++ l) rest ∙ append-nil filled ∙ e ∙ ap (λ (n : ℕ). replicate n entry_limit) (size ∙ same) in
    sym (r.stored ∙ ap (λ (l : List ℕ). take kept sorted ++ l) (ap (picked r.left low) (drop_of_length-le sorted h) ∙ picked_none r.left low ∙ sym tail))

eqb_flips : (x y : ℕ) → eqb x y ≡ eqb y x
eqb_flips x y = grind (arith, nat_tests)

-- the numbers of a list that differ, in their order, are what is picked of it
pub sorted_picked : (t u : List ℕ) → IsPermutation t u → IsNonDecreasing u → IsDistinct eqb t → All (λ e. e < entry_limit) t → u ≡ picked (length t) 0 t
sorted_picked t u p o d b =
    let rises = IsStrictlyIncreasing-from_distinct u o (IsDistinct-IsPermutation eqb eqb_flips t u p d) in
    let low = ascending_strictly 0 u (λ n. omega arith) rises (All-permutation (λ e. e < entry_limit) t u p b) in
    sym (ap (λ (n : ℕ). picked n 0 t) (sym (length_permutation t u p)) ∙ picked_ascending t u 0 low (moved t u p) (λ x m h. moved u t (IsPermutation-sym t u p) x m))
