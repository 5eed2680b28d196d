-- Laws of the tests that the record rules are made of: of every element, of membership, and of rising numbers.
use Rattle.std.specs.Prelude.{◌≡◌, refl, Bool, true, false, ◌&&◌, ◌||◌, List, [], ◌∷◌, ◌++◌, ℕ, zero, suc, ◌+◌, ◌≤◌, ◌<◌, eqb}
use Rattle.std.proofs.Common.{sym, ap, ◌∙◌, le_refl, arith, lt-ltb, le-ltb}
use Rattle.std.proofs.Math.Bool.{and_assoc, or_assoc}
use Rattle.std.proofs.Math.Logic.{dite}
use Rattle.std.proofs.Math.Decide.{dec_lt}
use Rattle.records.specs.Format.Never.{never}
use Rattle.records.specs.Gate.RecordRules.{every, member, rising_from, numbers}

-- two tests that are true together are the same
pub same_truth : (a b : Bool) → (a ≡ true → b ≡ true) → (b ≡ true → a ≡ true) → a ≡ b
same_truth true b f g = sym (f refl)
same_truth false true f g = g refl
same_truth false false f g = refl

-- both halves of a test that is true
pub and_both : (a b : Bool) → (a && b) ≡ true → (a ≡ true) × (b ≡ true)
and_both true b e = (refl, e)
and_both false b e = never cc

-- every part of two lists, one after the other
pub every_append : {A : Type 0} (f : A → Bool) (l k : List A) → every f (l ++ k) ≡ (every f l && every f k)
every_append f [] k = refl
every_append f (x ∷ l) k = ap (λ (b : Bool). f x && b) (every_append f l k) ∙ sym (and_assoc (f x) (every f l) (every f k))

-- tests that agree wherever p holds agree on a list in which p holds of each
pub every_same : {A : Type 0} {p f g : A → Bool} → ((x : A) → p x ≡ true → f x ≡ g x) → (l : List A) → every p l ≡ true → every f l ≡ every g l
every_same e [] h = refl
every_same {A} {p} {f} {g} e (x ∷ l) h =
    let w = and_both (p x) (every p l) h in
    rw (e x w.0, every_same e l w.1)

-- a test of the numbers from `from` on, n of them, is true exactly where it is true of each
pub every_number : (f : ℕ → Bool) (from n : ℕ) → every f (numbers from n) ≡ true → (i : ℕ) → from ≤ i → i < from + n → f i ≡ true
every_number f from zero h i low high = absurd (omega arith)
every_number f from (suc n) h i low high =
    let w = and_both (f from) (every f (numbers (suc from) n)) h in
    dite (dec_lt from i)
    (λ later. every_number f (suc from) n w.1 i (omega arith) (omega arith))
    (λ now. let e : i ≡ from = omega arith in ap f e ∙ w.0)

pub each_number : (f : ℕ → Bool) (from n : ℕ) → ((i : ℕ) → from ≤ i → i < from + n → f i ≡ true) → every f (numbers from n) ≡ true
each_number f from zero h = refl
each_number f from (suc n) h = rw (h from (le_refl from) (omega arith)) (each_number f (suc from) n (λ i low high. h i (omega arith) (omega arith)))

-- membership in two lists, one after the other
pub member_append : (x : ℕ) (l k : List ℕ) → member x (l ++ k) ≡ (member x l || member x k)
member_append x [] k = refl
member_append x (y ∷ l) k = ap (λ (b : Bool). eqb x y || b) (member_append x l k) ∙ sym (or_assoc (eqb x y) (member x l) (member x k))

-- one number more of a rising row
pub rising_next : (low x : ℕ) (l : List ℕ) → low ≤ x → rising_from low (x ∷ l) ≡ rising_from (suc x) l
rising_next low x l h = rw (le-ltb x low h)

pub rising_not : (low x : ℕ) (l : List ℕ) → x < low → rising_from low (x ∷ l) ≡ false
rising_not low x l h = rw (lt-ltb x low h)
