-- Laws of seeking a word: what it says of the word's place and of the list with it, and what it then gives for this word and for others.
use Rattle.std.specs.Prelude.{◌≡◌, refl, Bool, true, false, cond, ◌||◌, List, [], ◌∷◌, ◌++◌, ℕ, zero, suc, length}
use Rattle.std.proofs.Common.{sym, ap, ◌∙◌, arith, length-append}
use Rattle.records.specs.Format.Heads.{pick}
use Rattle.records.specs.Format.Never.{never}
use Rattle.records.specs.Ends.Same.{same_bytes}
use Rattle.records.specs.Ends.SameLaws.{same_refl}
use Rattle.reader.specs.Form.Meaning.{place, listed, with_name}
use Rattle.reader.specs.Names.PlaceLaws.{with_listed, with_new}
use Rattle.reader.specs.Names.Seek.{moved, seek}

-- words that differ are not the same
pub differ : {w v : List ℕ} → same_bytes w v ≡ false → w ≡ v → ⊥
differ {w} {v} h e = never (sym (same_refl w) ∙ ap (same_bytes w) e ∙ h)

-- a word that stands in the list
found : (w : List ℕ) (names : List (List ℕ)) (k : ℕ) → seek w names ≡ suc k → (place w names ≡ k) × (listed w names ≡ true)
unfolding seek
found w [] k e = absurd (omega arith)
found w (v ∷ names) k e = go (same_bytes w v) (seek w names) refl (found w names) e
  where
    go : (b : Bool) (j : ℕ) → seek w names ≡ j → ((i : ℕ) → seek w names ≡ suc i → (place w names ≡ i) × (listed w names ≡ true)) → pick b 1 (moved j) ≡ suc k
        → (cond b 0 (suc (place w names)) ≡ k) × ((b || listed w names) ≡ true)
    go true j x ih q = (omega arith, refl)
    go false zero x ih q = absurd (omega arith)
    go false (suc j) x ih q = let h = ih j x in (omega arith, h.1)

pub seek_some : (w : List ℕ) (names : List (List ℕ)) (k : ℕ) → seek w names ≡ suc k → (place w names ≡ k) × (with_name names w ≡ names)
seek_some w names k e = let f = found w names k e in (f.0, with_listed names w f.1)

-- a word that stands nowhere in it
missed : (w : List ℕ) (names : List (List ℕ)) → seek w names ≡ 0 → (place w names ≡ length names) × (listed w names ≡ false) × (seek w (names ++ (w ∷ [])) ≡ suc (length names))
unfolding seek
missed w [] e = (refl, refl, rw (same_refl w))
missed w (v ∷ names) e = go (same_bytes w v) refl (seek w names) refl (missed w names) e
  where
    go : (b : Bool) → same_bytes w v ≡ b → (j : ℕ) → seek w names ≡ j → (seek w names ≡ 0 → (place w names ≡ length names) × (listed w names ≡ false) × (seek w (names ++ (w ∷ [])) ≡ suc (length names)))
        → pick b 1 (moved j) ≡ 0
        → (cond b 0 (suc (place w names)) ≡ suc (length names)) × ((b || listed w names) ≡ false) × (pick b 1 (moved (seek w (names ++ (w ∷ [])))) ≡ suc (suc (length names)))
    go true s j x ih q = absurd (omega arith)
    go false s zero x ih q = let h = ih x in (ap suc h.0, h.1, rw h.2)
    go false s (suc j) x ih q = absurd (omega arith)

pub seek_none : (w : List ℕ) (names : List (List ℕ)) → seek w names ≡ 0 → (place w names ≡ length names) × (length (with_name names w) ≡ suc (length names)) × (seek w (with_name names w) ≡ suc (length names))
seek_none w names e =
    let m = missed w names e in
    let n = with_new names w m.1 in
    (m.0, ap length n ∙ omega (arith, length-append names (w ∷ [])), ap (seek w) n ∙ m.2)

-- another word is found where it was
seek_front : (v w : List ℕ) (names : List (List ℕ)) → same_bytes v w ≡ false → seek v (names ++ (w ∷ [])) ≡ seek v names
unfolding seek
seek_front v w [] e = rw e
seek_front v w (x ∷ names) e = rw (seek_front v w names e)

pub seek_other : (v w : List ℕ) (names : List (List ℕ)) → same_bytes v w ≡ false → seek v (with_name names w) ≡ seek v names
seek_other v w names e = go (listed w names)
  where
    go : (b : Bool) → seek v (cond b names (names ++ (w ∷ []))) ≡ seek v names
    go true = refl
    go false = seek_front v w names e
