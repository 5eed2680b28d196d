-- Laws of rules at positions: of a row by its items, of one thing after another, and of a row behind its count.
use Prim.Native.Nat.{ℕ, zero, suc, ◌+◌, ◌-◌, ◌<◌}
use native.Mathlib.Omega.{arith}
use Rattle.std.specs.Prelude.{◌≡◌, Bool, true, ◌&&◌, drop, Option, Some, None}
use Rattle.std.proofs.Math.Path.{refl, sym, ap}
use Rattle.std.proofs.Common.{◌∙◌, drop-drop}
use mathlib.Core.List.{List, [], ◌∷◌}
use Rattle.records.specs.Format.Never.{never}
use Rattle.records.specs.Format.Heads.{word_head, word_at}
use Rattle.records.specs.Format.Reader.{Read, also}
use Rattle.records.specs.Format.Reader.Read.{unread, found}
use Rattle.records.specs.Format.Items.{Reader, then_read, many, read_counted}
use Rattle.records.specs.Ends.Traversal.{place_of, end_of}
use Rattle.records.specs.Gate.Rows.{Ends, holds, kept_at, row_of, row_at, RowFirst}

-- where there are no rules, they are kept
pub no_rules : {A : Type 0} (r : Reader A) (s : List ℕ) (at : ℕ) → true ≡ kept_at (λ a. true) r s at
unfolding kept_at
no_rules {A} r s at = go (r (drop at s))
  where
    go : (o : Read A) → true ≡ holds (λ a. true) o
    go unread = refl
    go (found a n) = refl

pub ends_at : {f : Option ℕ} {e : ℕ} → f ≡ Some e → Ends f
ends_at q = rw q tt

-- rules on a row, by the row
pub kept_row : {A : Type 0} (kept : List A → Bool) (r : Reader A) (n : ℕ) (s : List ℕ) (at : ℕ) → kept [] ≡ true → kept_at kept (many r n) s at ≡ kept (row_at r n s at)
unfolding kept_at row_at
kept_row kept r n s at e = go (many r n (drop at s))
  where
    go : (o : Read (List _)) → holds kept o ≡ kept (row_of o)
    go unread = sym e
    go (found l m) = refl

-- two rules at once
pub kept_both : {A : Type 0} (f g : A → Bool) (r : Reader A) (s : List ℕ) (at : ℕ) → kept_at (λ a. f a && g a) r s at ≡ (kept_at f r s at && kept_at g r s at)
unfolding kept_at
kept_both f g r s at = go (r (drop at s))
  where
    go : (o : Read _) → holds (λ a. f a && g a) o ≡ (holds f o && holds g o)
    go unread = refl
    go (found a n) = refl

module _ {A : Type 0} (r : Reader A) (s : List ℕ) where
  pub row_none : (n at : ℕ) → n ≡ 0 → row_at r n s at ≡ []
  unfolding row_at many
  row_none n at e = rw e refl

  first_by : (k at e m : ℕ) (a : A) → at + m ≡ e → r (drop at s) ≡ found a m → (o : Read (List A)) → many r k (drop m (drop at s)) ≡ o → Ends (place_of at (also (λ l. a ∷ l) m o)) → RowFirst r s (suc k) at e
  unfolding row_at many end_of
  first_by k at e m a q h unread z w = absurd w
  first_by k at e m a q h (found l j) z w =
      let y : suc k - 1 ≡ k = omega arith in
      let x : m ≡ e - at = omega arith in
      let d : many r k (drop e s) ≡ found l j = rw (← q) (ap (many r k) (sym (drop-drop m at s)) ∙ z) in
      record {
        item = a;
        is = h ∙ ap (found a) x;
        row = rw (h, z, y, d);
        rest = rw (y, d) tt;
      }

  pub row_more : {f : Option ℕ} {e : ℕ} (n at : ℕ) → 0 < n → Ends (end_of (many r n) s at) → f ≡ end_of r s at → f ≡ Some e → RowFirst r s n at e
  unfolding end_of many
  row_more {f} {e} n at z w is q = go n z w (r (drop at s)) refl (sym is ∙ q)
    where
      go : (n : ℕ) → 0 < n → Ends (place_of at (many r n (drop at s))) → (o : Read A) → r (drop at s) ≡ o → place_of at o ≡ Some e → RowFirst r s n at e
      go zero z w o h x = absurd (omega arith)
      go (suc k) z w unread h x = never cc
      go (suc k) z w (found a m) h x =
          let y : at + m ≡ e = cc in
          first_by k at e m a y h (many r k (drop m (drop at s))) refl (rw h at w)

  -- where a row was found, each of it was
  pub row_first : (n at : ℕ) → 0 < n → Ends (end_of (many r n) s at) → Ends (end_of r s at)
  unfolding end_of many
  row_first n at z w = go n z w (r (drop at s)) refl
    where
      go : (n : ℕ) → 0 < n → Ends (place_of at (many r n (drop at s))) → (o : Read A) → r (drop at s) ≡ o → Ends (place_of at o)
      go zero z w o h = absurd (omega arith)
      go (suc k) z w unread h = rw h at w
      go (suc k) z w (found a m) h = tt

-- one thing and then another one, of which only the second has rules
pub kept_after : {A B C : Type 0} (f : A → B → C) (ra : Reader A) (rb : Reader B) (kept : C → Bool) (kept_second : B → Bool) (s : List ℕ) (at e : ℕ)
    → ((a : A) (b : B) → kept (f a b) ≡ kept_second b) → end_of ra s at ≡ Some e → kept_at kept (λ l. then_read f (ra l) rb l) s at ≡ kept_at kept_second rb s e
unfolding kept_at end_of
kept_after f ra rb kept second s at e q h = go (ra (drop at s)) h
  where
    step : (a : _) (n : ℕ) (o : Read _) → holds kept (also (f a) n o) ≡ holds second o
    step a n unread = refl
    step a n (found b m) = q a b

    go : (o : Read _) → place_of at o ≡ Some e → holds kept (then_read f o rb (drop at s)) ≡ holds second (rb (drop e s))
    go unread x = never cc
    go (found a n) x =
        let y : at + n ≡ e = cc in
        step a n (rb (drop n (drop at s))) ∙ ap (λ (l : List ℕ). holds second (rb l)) (drop-drop n at s ∙ ap (λ (k : ℕ). drop k s) y)

-- a count, and a row of so many
module _ {A : Type 0} (r : Reader A) (s : List ℕ) (at : ℕ) where
  also_same : (k : ℕ) (o : Read (List A)) → place_of at (also (λ x. x) k o) ≡ place_of (at + k) o
  also_same k unread = refl
  also_same k (found l n) = ap Some (omega arith)

  holds_same : (kept : List A → Bool) (k : ℕ) (o : Read (List A)) → holds kept (also (λ x. x) k o) ≡ holds kept o
  holds_same kept k unread = refl
  holds_same kept k (found l n) = refl

  pub counted_ends : {w : Option ℕ} {n : ℕ} → w ≡ word_at s at → w ≡ Some n → end_of (read_counted r) s at ≡ end_of (many r n) s (at + 2)
  unfolding end_of read_counted word_at
  counted_ends {w} {n} is q =
      let x : word_head (drop at s) ≡ Some n = sym is ∙ q in
      rw x (also_same 2 (many r n (drop 2 (drop at s))) ∙ ap (λ (l : List ℕ). place_of (at + 2) (many r n l)) (drop-drop 2 at s))

  pub counted_never : {w : Option ℕ} → w ≡ word_at s at → w ≡ None → end_of (read_counted r) s at ≡ None
  unfolding end_of read_counted word_at
  counted_never {w} is q = let x : word_head (drop at s) ≡ None = sym is ∙ q in rw x

  pub counted_kept : (kept : List A → Bool) {w : Option ℕ} {n : ℕ} → w ≡ word_at s at → w ≡ Some n → kept_at kept (read_counted r) s at ≡ kept_at kept (many r n) s (at + 2)
  unfolding kept_at read_counted word_at
  counted_kept kept {w} {n} is q =
      let x : word_head (drop at s) ≡ Some n = sym is ∙ q in
      rw x (holds_same kept 2 (many r n (drop 2 (drop at s))) ∙ ap (λ (l : List ℕ). holds kept (many r n l)) (drop-drop 2 at s))
