-- Laws of bytes that are put in front of others: one thing behind another, what no longer fits, and what is due.
use Rattle.std.specs.Prelude.{◌≡◌, refl, Bool, true, false, List, [], ◌∷◌, ◌++◌, ℕ, zero, suc, ◌-◌, ◌≤◌, ◌<◌, length, drop, set}
use Rattle.std.proofs.Common.{sym, ap, ◌∙◌, append_assoc, arith, length-set}
use Rattle.reader.specs.Emit.Cells.{due}
use Rattle.reader.specs.Emit.Emits.{Held, Pushes}

-- nothing, and one thing behind another
pub pushes_none : {out : List ℕ} {at : ℕ} → Pushes out at [] out at
pushes_none = record { keeps = refl; lower = omega arith; pushed = λ o l h. h }

pub pushes_then : {before between after : List ℕ} {at next end : ℕ} {a b : List ℕ} → Pushes before at b between next → Pushes between next a after end → Pushes before at (a ++ b) after end
pushes_then {a = a} {b} p q = record {
  keeps = q.keeps ∙ p.keeps;
  lower = omega (arith, p.lower, q.lower);
  pushed = λ o l h. rw (append_assoc a b l) (q.pushed o (b ++ l) (p.pushed o l h));
}

-- a byte that no longer fits, and one that does
pub pushes_full : {out : List ℕ} {at b : ℕ} → at ≡ 0 → Pushes out at (b ∷ []) out 0
pushes_full {out} e = record { keeps = refl; lower = omega arith; pushed = λ o l h. record { place = omega (arith, h.place); same = λ f k. absurd (omega arith) } }

pub drop_all : (l : List ℕ) → drop (length l) l ≡ []
drop_all [] = refl
drop_all (x ∷ l) = drop_all l

drop_set : (l : List ℕ) (n x : ℕ) → n < length l → drop n (set l n x) ≡ x ∷ drop (suc n) l
drop_set [] n x h = absurd (omega arith)
drop_set (y ∷ l) zero x h = refl
drop_set (y ∷ l) (suc n) x h = drop_set l n x (omega arith)

pub pushes_one : {out : List ℕ} {at b : ℕ} → 0 < at → at ≤ length out → Pushes out at (b ∷ []) (set out (at - 1) b) (at - 1)
pushes_one {out} {at} {b} h k = record {
  keeps = length-set out (at - 1) b;
  lower = omega arith;
  pushed = λ o l d. record {
    place = omega (arith, d.place, length-set out (at - 1) b);
    same = λ f z. let up : suc (at - 1) ≡ at = omega arith in drop_set out (at - 1) b (omega arith) ∙ ap (λ (x : List ℕ). b ∷ x) (ap (λ (n : ℕ). drop n out) up ∙ d.same f h);
  };
}

-- a byte where it is due
pub due_append : (b : Bool) (x : ℕ) (l : List ℕ) → due b x l ≡ due b x [] ++ l
due_append true x l = refl
due_append false x l = refl

-- other bytes and another `over` that say the same where it is false
pub held_as : {over : Bool} {out : List ℕ} {at : ℕ} {l : List ℕ} (now : Bool) (m : List ℕ) → length m ≡ length l → (now ≡ false → over ≡ false) → (now ≡ false → l ≡ m) → Held over out at l → Held now out at m
held_as {out = out} now m e f g h = record { place = h.place ∙ ap (λ (n : ℕ). length out - n) (sym e); same = λ i k. h.same (f i) k ∙ g i }
