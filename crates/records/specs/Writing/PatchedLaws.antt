-- Laws of writing: one write after another, into a part that was lent, and with what was there before.
use Rattle.std.specs.Prelude.{◌≡◌, refl, List, [], ◌∷◌, ◌++◌, ℕ, zero, suc, ◌+◌, ◌-◌, ◌≤◌, ◌<◌, length, take, drop, set, get_or}
use Rattle.std.proofs.Common.{sym, ap, ◌∙◌, append-nil, append_assoc, add-zero, add-suc, zero-add, suc-add, le_of_suc-le-suc, not-suc-le-zero, le_refl, add_assoc, add-one, arith, length-append, length-drop, drop_of_length-le, take-append-drop, take-suc, take_all}
use Rattle.records.specs.Writing.Patched.{patched, Put, Around}

pub patched_nil : (before : List ℕ) (at : ℕ) → patched before at [] ≡ before
unfolding patched
patched_nil [] at = refl
patched_nil (x ∷ d) zero = refl
patched_nil (x ∷ d) (suc at) = ap (λ (l : List ℕ). x ∷ l) (patched_nil d at)

pub length_patched : (before : List ℕ) (at : ℕ) (bytes : List ℕ) → length (patched before at bytes) ≡ length before
unfolding patched
length_patched [] at s = refl
length_patched (x ∷ d) zero [] = refl
length_patched (x ∷ d) zero (y ∷ s) = ap suc (length_patched d zero s)
length_patched (x ∷ d) (suc at) s = ap suc (length_patched d at s)

-- a store is a write of one byte
pub set_patched : (before : List ℕ) (at x : ℕ) → set before at x ≡ patched before at (x ∷ [])
unfolding patched
set_patched [] at v = refl
set_patched (x ∷ d) zero v = ap (λ (l : List ℕ). v ∷ l) (sym (patched_nil d zero))
set_patched (x ∷ d) (suc at) v = ap (λ (l : List ℕ). x ∷ l) (set_patched d at v)

-- a second write that starts where the first one ends
pub patched_append : (before : List ℕ) (at : ℕ) (a b : List ℕ) → patched (patched before at a) (at + length a) b ≡ patched before at (a ++ b)
unfolding patched
patched_append [] at a b = refl
patched_append (x ∷ d) zero [] b = refl
patched_append (x ∷ d) zero (y ∷ a) b = rw add-suc (ap (λ (l : List ℕ). y ∷ l) (patched_append d zero a b))
patched_append (x ∷ d) (suc at) a b = rw suc-add (ap (λ (l : List ℕ). x ∷ l) (patched_append d at a b))

-- a second write that ends where the first one starts
pub patched_prepend : (before : List ℕ) (at : ℕ) (a b : List ℕ) → patched (patched before (at + length a) b) at a ≡ patched before at (a ++ b)
unfolding patched
patched_prepend [] at a b = refl
patched_prepend (x ∷ d) zero [] b = patched_nil (patched (x ∷ d) 0 b) 0
patched_prepend (x ∷ d) zero (y ∷ a) b = rw add-suc (ap (λ (l : List ℕ). y ∷ l) (patched_prepend d zero a b))
patched_prepend (x ∷ d) (suc at) a b = rw suc-add (ap (λ (l : List ℕ). x ∷ l) (patched_prepend d at a b))

-- a write from the start of a tail is a write into the list
pub patched_tail : (before : List ℕ) (a : ℕ) (bytes : List ℕ) → take a before ++ patched (drop a before) 0 bytes ≡ patched before a bytes
unfolding patched
patched_tail [] zero s = refl
patched_tail [] (suc a) s = refl
patched_tail (x ∷ d) zero s = refl
patched_tail (x ∷ d) (suc a) s = ap (λ (l : List ℕ). x ∷ l) (patched_tail d a s)

-- a write into a front that is long enough is a write into the list
patched_short : (before : List ℕ) (k : ℕ) (bytes : List ℕ) → length bytes ≤ k → patched (take k before) 0 bytes ++ drop k before ≡ patched before 0 bytes
unfolding patched
patched_short [] zero s h = refl
patched_short [] (suc k) s h = refl
patched_short (x ∷ d) zero [] h = refl
patched_short (x ∷ d) zero (y ∷ s) h = absurd (not-suc-le-zero h)
patched_short (x ∷ d) (suc k) [] h = ap (λ (l : List ℕ). x ∷ l) (take-append-drop k d)
patched_short (x ∷ d) (suc k) (y ∷ s) h = ap (λ (l : List ℕ). y ∷ l) (patched_short d k s (le_of_suc-le-suc h))

-- a write from the start, where there is room: what was written, and then what was there past it
pub patched_front : (before bytes : List ℕ) → length bytes ≤ length before → patched before 0 bytes ≡ bytes ++ drop (length bytes) before
unfolding patched
patched_front [] [] h = refl
patched_front [] (y ∷ s) h = absurd (not-suc-le-zero h)
patched_front (x ∷ d) [] h = refl
patched_front (x ∷ d) (y ∷ s) h = ap (λ (l : List ℕ). y ∷ l) (patched_front d s (le_of_suc-le-suc h))

-- where there is room, the bytes are read back at their place
pub part_patched : (before : List ℕ) (at : ℕ) (bytes : List ℕ) → at + length bytes ≤ length before
    → take (length bytes) (drop at (patched before at bytes)) ≡ bytes
unfolding patched
part_patched d at [] h = refl
part_patched [] at (y ∷ s) h = absurd (not-suc-le-zero (rw add-suc at h))
part_patched (x ∷ d) zero (y ∷ s) h = ap (λ (l : List ℕ). y ∷ l) (part_patched d zero s (le_of_suc-le-suc (rw add-suc at h)))
part_patched (x ∷ d) (suc at) (y ∷ s) h = part_patched d at (y ∷ s) (le_of_suc-le-suc (rw suc-add at h))

-- nothing written
pub put_none : {before : List ℕ} {at : ℕ} → Put before at [] before at
put_none {before} {at} = record { place = sym (add-zero at); output = sym (patched_nil before at) }

-- one store
pub put_set : {before : List ℕ} {at x : ℕ} → Put before at (x ∷ []) (set before at x) (at + 1)
put_set {before} {at} {x} = record { place = refl; output = set_patched before at x }

-- two writes, the second at the place after the first
pub put_then : {before : List ℕ} {at : ℕ} {a between : List ℕ} {next : ℕ} {b after : List ℕ} {end : ℕ}
    → Put before at a between next → Put between next b after end → Put before at (a ++ b) after end
put_then {before} {at} {a} {b = b} p q = record {
  place = q.place ∙ rw (p.place, length-append, add_assoc) refl;
  output = q.output ∙ rw (p.output, p.place) (patched_append before at a b);
}

-- two writes, the second one up to the place of the first: a length that is written once its body is there
pub put_ahead : {before : List ℕ} {at : ℕ} {a between : List ℕ} {next : ℕ} {b after : List ℕ} {end : ℕ}
    → Put before next b between end → Put between at a after next → Put before at (a ++ b) after end
put_ahead {before} {at} {a} {b = b} p q = record {
  place = p.place ∙ rw (q.place, length-append, add_assoc) refl;
  output = q.output ∙ rw (p.output, q.place) (patched_prepend before at a b);
}

-- a tail that was lent, written from its own start and handed back
pub put_tail : {before : List ℕ} {at : ℕ} {bytes tail : List ℕ} {n : ℕ} → Put (take (length before - at) (drop at before)) 0 bytes tail n
    → Put before at bytes (take at before ++ (tail ++ drop (length before - at) (drop at before))) (at + n)
put_tail {before} {at} {bytes} p = record {
  place = ap (λ (k : ℕ). at + k) (p.place ∙ zero-add (length bytes));
  output =
      let e : length (drop at before) ≤ length before - at = rw length-drop (le_refl _) in
      rw (p.output, take_all (length before - at) (drop at before), drop_of_length-le (drop at before) e, append-nil) (patched_tail before at bytes);
}

-- a part of k elements that was lent, with room for what was written into it, and handed back
pub put_part : {before : List ℕ} {at k : ℕ} {bytes part : List ℕ} {n : ℕ} → length bytes ≤ k → Put (take k (drop at before)) 0 bytes part n
    → Put before at bytes (take at before ++ (part ++ drop k (drop at before))) (at + n)
put_part {before} {at} {k} {bytes} h p = record {
  place = ap (λ (j : ℕ). at + j) (p.place ∙ zero-add (length bytes));
  output = rw (p.output, patched_short (drop at before) k bytes h) (patched_tail before at bytes);
}

-- around what was put in their midst before
pub put_around : {before : List ℕ} {at : ℕ} {front middle within : List ℕ} {next : ℕ} {back after : List ℕ} {n end : ℕ} → at ≡ length front → n ≡ length middle
    → Put before at middle within next → Around within front n back after end → Put before 0 (front ++ (middle ++ back)) after end
put_around {at = at} {front} {middle} {next = next} {back} {n = n} e l p a =
    let f : at ≡ a.place = omega (arith, a.ahead.place) in
    let g : a.place + n ≡ next = omega (arith, p.place) in
    rw (← append_assoc front middle back) (put_then (put_ahead (rw f at p) a.ahead) (rw g at a.behind))

-- one turn of a loop that copies: its store takes the copy of j bytes to the copy of j + 1
pub put_turn : {before after : List ℕ} {at : ℕ} (bytes : List ℕ) (j : ℕ) → j < length bytes
    → Put before at (take j bytes) after (at + j) → Put before at (take (j + 1) bytes) (set after (at + j) (get_or bytes j 0)) (at + (j + 1))
put_turn bytes j h p = rw (add-one, take-suc bytes j 0, ← add-one, ← add_assoc) (put_then p put_set)

-- writing keeps the length
pub put_length : {before : List ℕ} {at : ℕ} {bytes after : List ℕ} {next : ℕ} → Put before at bytes after next → length after ≡ length before
put_length {before} {at} {bytes} p = ap length p.output ∙ length_patched before at bytes

-- room for `more` bytes after those written
pub put_room : {before : List ℕ} {at : ℕ} {bytes after : List ℕ} {next : ℕ} (more : ℕ)
    → Put before at bytes after next → at + length bytes + more ≤ length before → next + more ≤ length after
put_room {before} {at} {bytes} {after} {next} more p h = omega (arith, p.place, put_length p)

-- written from the start, where there is room
pub put_front : {before bytes after : List ℕ} {next : ℕ} → Put before 0 bytes after next → length bytes ≤ length before
    → after ≡ bytes ++ drop (length bytes) before
put_front {before} {bytes} p h = p.output ∙ patched_front before bytes h

-- what then stands there
pub front_put : {before bytes after : List ℕ} {n : ℕ} → Put before 0 bytes after n → length bytes ≤ length before → take n after ≡ bytes
front_put {before} {bytes} p h = rw (p.place, zero-add, p.output) (part_patched before 0 bytes (omega arith))
