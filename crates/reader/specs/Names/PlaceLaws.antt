-- Laws of the list of names: a name's place never changes once it has one, and the list grows by new names at its end.
use Rattle.std.specs.Prelude.{◌≡◌, refl, Bool, true, false, cond, ◌||◌, List, [], ◌∷◌, ◌++◌, ℕ, zero, suc, ◌≤◌, ◌<◌, length}
use Rattle.std.proofs.Common.{sym, ap, ◌∙◌, append-nil, append_assoc, arith, length-append}
use Rattle.std.proofs.lemmas.Bool.{false≢true}
use Rattle.records.specs.Ends.Same.{same_bytes}
use Rattle.records.specs.Ends.SameLaws.{same_refl}
use Rattle.records.specs.Format.Encode.{word}
use Rattle.reader.specs.Form.Meaning.{place, listed, with_name, with_names, name_list}

-- the list with a word that it has, and with one that it has not
pub with_listed : (l : List (List ℕ)) (w : List ℕ) → listed w l ≡ true → with_name l w ≡ l
with_listed l w e = rw e

pub with_new : (l : List (List ℕ)) (w : List ℕ) → listed w l ≡ false → with_name l w ≡ l ++ (w ∷ [])
with_new l w e = rw e

-- which of both it is, is told by the length
pub with_same : (l : List (List ℕ)) (w : List ℕ) → length (with_name l w) ≡ length l → with_name l w ≡ l
with_same l w = go (listed w l)
  where
    go : (b : Bool) → length (cond b l (l ++ (w ∷ []))) ≡ length l → cond b l (l ++ (w ∷ [])) ≡ l
    go true e = refl
    go false e = absurd (omega (arith, length-append l (w ∷ [])))

pub with_more : (l : List (List ℕ)) (w : List ℕ) → (length (with_name l w) ≡ length l → ⊥) → with_name l w ≡ l ++ (w ∷ [])
with_more l w = go (listed w l)
  where
    go : (b : Bool) → (length (cond b l (l ++ (w ∷ []))) ≡ length l → ⊥) → cond b l (l ++ (w ∷ [])) ≡ l ++ (w ∷ [])
    go true e = absurd (e refl)
    go false e = refl

-- a word's place is below the end of the list where the list has it, and the end where it has not
pub place_within : (w : List ℕ) (l : List (List ℕ)) → place w l ≤ length l
place_within w [] = omega arith
place_within w (v ∷ l) = go (same_bytes w v) (place_within w l)
  where
    go : (b : Bool) → place w l ≤ length l → cond b zero (suc (place w l)) ≤ suc (length l)
    go true h = omega arith
    go false h = omega arith

pub place_listed : (w : List ℕ) (l : List (List ℕ)) → listed w l ≡ true → place w l < length l
place_listed w [] h = absurd (false≢true h)
place_listed w (v ∷ l) h = go (same_bytes w v) (place_listed w l) h
  where
    go : (b : Bool) → (listed w l ≡ true → place w l < length l) → (b || listed w l) ≡ true → cond b zero (suc (place w l)) < suc (length l)
    go true ih e = omega arith
    go false ih e = omega (arith, ih e)

pub place_unlisted : (w : List ℕ) (l : List (List ℕ)) → listed w l ≡ false → place w l ≡ length l
place_unlisted w [] h = refl
place_unlisted w (v ∷ l) h = go (same_bytes w v) (place_unlisted w l) h
  where
    go : (b : Bool) → (listed w l ≡ false → place w l ≡ length l) → (b || listed w l) ≡ false → cond b zero (suc (place w l)) ≡ suc (length l)
    go true ih e = absurd (false≢true (sym e))
    go false ih e = ap suc (ih e)

-- what stands behind a list is nothing to a word that it has ..
place_front : (w : List ℕ) (l more : List (List ℕ)) → listed w l ≡ true → place w (l ++ more) ≡ place w l
place_front w [] more h = absurd (false≢true h)
place_front w (v ∷ l) more h = go (same_bytes w v) (place_front w l more) h
  where
    go : (b : Bool) → (listed w l ≡ true → place w (l ++ more) ≡ place w l) → (b || listed w l) ≡ true → cond b zero (suc (place w (l ++ more))) ≡ cond b zero (suc (place w l))
    go true ih e = refl
    go false ih e = ap suc (ih e)

listed_front : (w : List ℕ) (l more : List (List ℕ)) → listed w l ≡ true → listed w (l ++ more) ≡ true
listed_front w [] more h = absurd (false≢true h)
listed_front w (v ∷ l) more h = go (same_bytes w v) (listed_front w l more) h
  where
    go : (b : Bool) → (listed w l ≡ true → listed w (l ++ more) ≡ true) → (b || listed w l) ≡ true → (b || listed w (l ++ more)) ≡ true
    go true ih e = refl
    go false ih e = ih e

-- .. and a new word stands right behind the list
place_end : (w : List ℕ) (l : List (List ℕ)) → place w (l ++ (w ∷ [])) ≡ place w l
place_end w [] = rw (same_refl w)
place_end w (v ∷ l) = rw (place_end w l)

listed_end : (w : List ℕ) (l : List (List ℕ)) → listed w (l ++ (w ∷ [])) ≡ true
listed_end w [] = rw (same_refl w)
listed_end w (v ∷ l) = go (same_bytes w v) (listed_end w l)
  where
    go : (b : Bool) → listed w (l ++ (w ∷ [])) ≡ true → (b || listed w (l ++ (w ∷ []))) ≡ true
    go true ih = refl
    go false ih = ih

-- so a word has its place before it is entered ..
place_with : (w : List ℕ) (l : List (List ℕ)) → (place w (with_name l w) ≡ place w l) × (listed w (with_name l w) ≡ true)
place_with w l = go (listed w l) refl
  where
    go : (b : Bool) → listed w l ≡ b → (place w (cond b l (l ++ (w ∷ []))) ≡ place w l) × (listed w (cond b l (l ++ (w ∷ []))) ≡ true)
    go true e = (refl, e)
    go false e = (place_end w l, listed_end w l)

-- .. and keeps it behind every further one
pub place_behind : (w : List ℕ) (l ws : List (List ℕ)) → listed w l ≡ true → place w (with_names l ws) ≡ place w l
place_behind w l [] h = refl
place_behind w l (v ∷ ws) h = let f = go (listed v l) in place_behind w (with_name l v) ws f.1 ∙ f.0
  where
    go : (b : Bool) → (place w (cond b l (l ++ (v ∷ []))) ≡ place w l) × (listed w (cond b l (l ++ (v ∷ []))) ≡ true)
    go true = (refl, h)
    go false = (place_front w l (v ∷ []) h, listed_front w l (v ∷ []) h)

pub place_kept : (w : List ℕ) (l ws : List (List ℕ)) → place w (with_names (with_name l w) ws) ≡ place w l
place_kept w l ws = let f = place_with w l in place_behind w (with_name l w) ws f.1 ∙ f.0

-- the bytes of a list with further names, and with one
pub name_list_append : (l k : List (List ℕ)) → name_list (l ++ k) ≡ name_list l ++ name_list k
unfolding name_list
name_list_append [] k = refl
name_list_append (v ∷ l) k = ap (λ (x : List ℕ). (word (length v) ++ v) ++ x) (name_list_append l k) ∙ sym (append_assoc (word (length v) ++ v) (name_list l) (name_list k))

pub name_list_more : (l : List (List ℕ)) (w : List ℕ) → name_list (l ++ (w ∷ [])) ≡ name_list l ++ (word (length w) ++ w)
unfolding name_list
name_list_more l w = name_list_append l (w ∷ []) ∙ ap (λ (x : List ℕ). name_list l ++ x) (append-nil (word (length w) ++ w))
