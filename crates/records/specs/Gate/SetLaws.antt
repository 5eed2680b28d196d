-- Laws of sets of variables. A set that is one number: what is in it, and that it is the full set of v bits just where exactly the variables 0 to
-- v - 1 went in. Marks: what is marked after one variable more, and that a row of words marks exactly the variables of a list; the variables of what
-- is well formed are below 65,536, so that each can be marked, and the rules of a unifier can be asked of the marks.
use Rattle.std.specs.Prelude.{◌≡◌, refl, Bool, true, false, ◌&&◌, ◌||◌, not, List, [], ◌∷◌, ◌++◌, ℕ, zero, suc, ◌-◌, ◌*◌, ◌≤◌, ◌<◌, ◌^◌, ◌/◌, max, ◌%◌, eqb, ltb, length, get_or, set, replicate}
use Rattle.std.proofs.Common.{sym, ap, ◌∙◌, append-nil, div-one, pow-suc, one-mul, arith, pow_pos, shl_exact, eq-eqb, ne_eqb, eqb-true, lt-ltb, le-ltb, ltb-true, length-set, get_or-set_same, get_or-set_other}
use Rattle.std.proofs.Math.Bool.{or_assoc, or_comm, or-false}
use Rattle.std.proofs.Math.Nat.{div-eq_of_lt, div-div-eq-div-mul, pow-succ'}
use Rattle.std.specs.Int.Bits.{bit_or, or_step}
use Rattle.std.proofs.lemmas.Nat.{or_shr, or_lt}
use Rattle.std.proofs.Math.Dec.{eqb-zero-suc, eqb-suc-zero, eqb-suc-suc, leb-suc-zero, leb-suc-suc}
use Rattle.std.proofs.Math.Pow.{pow-lt, ones_lt}
use Rattle.std.proofs.Math.Logic.{dite}
use Rattle.std.proofs.Math.Decide.{ℕ_discrete}
use Rattle.std.proofs.lemmas.List.{length-replicate, get_or-replicate}
use Rattle.records.specs.Gate.RecordRules.{every, member, numbers, exactly, term_variables, terms_variables, bound, free, rising, unifier_rules}
use Rattle.records.specs.Format.Never.{never}
use Rattle.records.specs.Gate.RecordRulesLaws.{same_truth, and_both, every_number, each_number, every_same, member_append, every_append}
use Rattle.records.specs.Gate.Sets.{has_variable, with_variable, gathered, exactly_from, is_marked, marked, all_marked, Marks}
use Rattle.records.specs.Format.Syntax.{Term, Terms, Binding}
use Rattle.records.specs.Format.Syntax.Term.{var, app}
use Rattle.records.specs.Format.Syntax.Terms.{nil, cons}
use Rattle.records.specs.Format.Syntax.Binding.{bind}
use Rattle.records.specs.Format.Formed.{TermFormed, TermsFormed, BindingFormed, All}

-- the shift that makes a set of one variable loses nothing
pub one_shl : (x : ℕ) → x < 64 → (1 * 2 ^ x) % 2 ^ 64 ≡ 2 ^ x
one_shl x h = shl_exact {a = 1} 1 x 64 (omega arith) (omega arith) ∙ one-mul (2 ^ x)

-- the variable 0 of a set, and its variable x + 1, which is the variable x of its half
has_first : (s : ℕ) → has_variable s 0 ≡ eqb (s % 2) 1
unfolding has_variable
has_first s = rw div-one

has_half : (s x : ℕ) → has_variable s (suc x) ≡ has_variable (s / 2) x
unfolding has_variable
has_half s x = rw (div-div-eq-div-mul, ← pow-succ' 2 x)

-- the empty set
has_none : (x : ℕ) → has_variable 0 x ≡ false
unfolding has_variable
has_none x = ne_eqb (0 / 2 ^ x % 2) 1 (λ e. omega (arith, div-eq_of_lt {n = 0} {m = 2 ^ x} (pow_pos x)))

-- the set of one variable
has_one : (y x : ℕ) → has_variable (2 ^ y) x ≡ eqb x y
has_one zero zero = has_first 1
has_one zero (suc x) = has_half 1 x ∙ has_none x ∙ sym (eqb-suc-zero x)
has_one (suc y) zero = has_first (2 ^ suc y) ∙ ne_eqb (2 ^ suc y % 2) 1 (λ e. omega (arith, pow-suc 2 y)) ∙ sym (eqb-zero-suc y)
has_one (suc y) (suc x) =
    let half : 2 ^ suc y / 2 ≡ 2 ^ y = omega (arith, pow-suc 2 y) in
    has_half (2 ^ suc y) x ∙ ap (λ (n : ℕ). has_variable n x) half ∙ has_one y x ∙ sym (eqb-suc-suc x y)

-- the full set of v variables
pub has_full : (v x : ℕ) → has_variable (2 ^ v - 1) x ≡ ltb x v
has_full zero x = has_none x ∙ sym (leb-suc-zero x)
has_full (suc v) zero =
    has_first (2 ^ suc v - 1) ∙ eq-eqb ((2 ^ suc v - 1) % 2) 1 (omega (arith, pow-suc 2 v, pow_pos v)) ∙ sym (lt-ltb 0 (suc v) (omega arith))
has_full (suc v) (suc x) =
    let half : (2 ^ suc v - 1) / 2 ≡ 2 ^ v - 1 = omega (arith, pow-suc 2 v, pow_pos v) in
    has_half (2 ^ suc v - 1) x ∙ ap (λ (n : ℕ). has_variable n x) half ∙ has_full v x ∙ sym (leb-suc-suc (suc x) v)

-- bits, as numbers and as tests
either_bit : (p q : ℕ) → p < 2 → q < 2 → eqb (max p q) 1 ≡ (eqb p 1 || eqb q 1)
either_bit zero zero h k = refl
either_bit zero (suc zero) h k = refl
either_bit (suc zero) zero h k = refl
either_bit (suc zero) (suc zero) h k = refl
either_bit zero (suc (suc q)) h k = absurd (omega arith)
either_bit (suc zero) (suc (suc q)) h k = absurd (omega arith)
either_bit (suc (suc p)) q h k = absurd (omega arith)

same_bit : (p q : ℕ) → p < 2 → q < 2 → eqb p 1 ≡ eqb q 1 → p ≡ q
same_bit zero zero h k e = refl
same_bit (suc zero) (suc zero) h k e = refl
same_bit zero (suc zero) h k e = never cc
same_bit (suc zero) zero h k e = never cc
same_bit zero (suc (suc q)) h k e = absurd (omega arith)
same_bit (suc zero) (suc (suc q)) h k e = absurd (omega arith)
same_bit (suc (suc p)) q h k e = absurd (omega arith)

-- the union of two sets
has_either : (s t x : ℕ) → has_variable (bit_or s t) x ≡ (has_variable s x || has_variable t x)
unfolding has_variable
has_either s t x =
    let e : bit_or s t / 2 ^ x % 2 ≡ max (s / 2 ^ x % 2) (t / 2 ^ x % 2) = rw (or_shr s t x) (omega (arith, or_step (s / 2 ^ x) (t / 2 ^ x))) in
    ap (λ (n : ℕ). eqb n 1) e ∙ either_bit (s / 2 ^ x % 2) (t / 2 ^ x % 2) (omega arith) (omega arith)

-- one variable more
has_with : (s y x : ℕ) → has_variable (with_variable s y) x ≡ (eqb x y || has_variable s x)
unfolding with_variable
has_with s y x =
    has_either s (2 ^ y) x ∙ ap (λ (b : Bool). has_variable s x || b) (has_one y x) ∙ or_comm (has_variable s x) (eqb x y)

-- two sets of k bits that have the same variables are equal
pub same_set : (k s t : ℕ) → s < 2 ^ k → t < 2 ^ k → ((x : ℕ) → x < k → has_variable s x ≡ has_variable t x) → s ≡ t
same_set zero s t hs ht e = omega arith
same_set (suc k) s t hs ht e =
    let halves : s / 2 ≡ t / 2 = same_set k (s / 2) (t / 2) (omega (arith, pow-suc 2 k)) (omega (arith, pow-suc 2 k)) (λ x h. sym (has_half s x) ∙ e (suc x) (omega arith) ∙ has_half t x) in
    let first : s % 2 ≡ t % 2 = same_bit (s % 2) (t % 2) (omega arith) (omega arith) (sym (has_first s) ∙ e 0 (omega arith) ∙ has_first t) in
    omega arith

-- what is in a set once a list went in
pub has_gathered : (s : ℕ) (l : List ℕ) (x : ℕ) → has_variable (gathered s l) x ≡ (member x l || has_variable s x)
unfolding gathered
has_gathered s [] x = refl
has_gathered s (y ∷ l) x =
    has_gathered (with_variable s y) l x ∙ ap (λ (b : Bool). member x l || b) (has_with s y x) ∙ sym (or_assoc (member x l) (eqb x y) (has_variable s x))
    ∙ ap (λ (b : Bool). b || has_variable s x) (or_comm (member x l) (eqb x y))

has_gathered_none : (l : List ℕ) (x : ℕ) → has_variable (gathered 0 l) x ≡ member x l
has_gathered_none l x = has_gathered 0 l x ∙ ap (λ (b : Bool). member x l || b) (has_none x) ∙ or-false (member x l)

-- variables below v stay within v bits
pub gathered_lt : (v s : ℕ) (l : List ℕ) → s < 2 ^ v → every (λ x. ltb x v) l ≡ true → gathered s l < 2 ^ v
unfolding gathered with_variable
gathered_lt v s [] h b = h
gathered_lt v s (x ∷ l) h b =
    let w = and_both (ltb x v) (every (λ x. ltb x v) l) b in
    gathered_lt v (bit_or s (2 ^ x)) l (or_lt v s (2 ^ x) h (pow-lt (ltb-true x v w.0))) w.1

-- a list of variables below v gives the full set just where exactly the variables 0 to v - 1 stand in it
pub gathered_exactly : (v : ℕ) (l : List ℕ) → every (λ x. ltb x v) l ≡ true → eqb (gathered 0 l) (2 ^ v - 1) ≡ exactly v l
unfolding exactly
gathered_exactly v l below = rw below (same_truth (eqb (gathered 0 l) (2 ^ v - 1)) (every (λ x. member x l) (numbers 0 v)) forth back)
  where
    forth : eqb (gathered 0 l) (2 ^ v - 1) ≡ true → every (λ x. member x l) (numbers 0 v) ≡ true
    forth e =
        each_number (λ x. member x l) 0 v (λ x low high.
        sym (has_gathered_none l x) ∙ ap (λ (n : ℕ). has_variable n x) (eqb-true (gathered 0 l) (2 ^ v - 1) e) ∙ has_full v x ∙ lt-ltb x v (omega arith))

    back : every (λ x. member x l) (numbers 0 v) ≡ true → eqb (gathered 0 l) (2 ^ v - 1) ≡ true
    back e =
        eq-eqb (gathered 0 l) (2 ^ v - 1)
        (same_set v (gathered 0 l) (2 ^ v - 1) (gathered_lt v 0 l (pow_pos v) below) (ones_lt v)
        (λ x h. has_gathered_none l x ∙ every_number (λ x. member x l) 0 v e x (omega arith) (omega arith) ∙ sym (has_full v x ∙ lt-ltb x v h)))

-- a variable that is too large
pub too_large : (v : ℕ) (l : List ℕ) → every (λ x. ltb x v) l ≡ false → exactly v l ≡ false
unfolding exactly
too_large v l e = rw e

-- a loop over the variables, one by one
pub exactly_start : (v : ℕ) (l : List ℕ) → exactly_from v 0 l ≡ exactly v l
unfolding exactly_from
exactly_start v l = go (every (λ x. ltb x v) l) refl
  where
    go : (b : Bool) → every (λ x. ltb x v) l ≡ b → (b && eqb (gathered 0 l) (2 ^ v - 1)) ≡ exactly v l
    go true e = gathered_exactly v l e
    go false e = sym (too_large v l e)

pub exactly_next : (v met x : ℕ) (l : List ℕ) → x < v → exactly_from v met (x ∷ l) ≡ exactly_from v (with_variable met x) l
unfolding exactly_from gathered
exactly_next v met x l h = rw (lt-ltb x v h)

pub exactly_not : (v met x : ℕ) (l : List ℕ) → v ≤ x → exactly_from v met (x ∷ l) ≡ false
unfolding exactly_from
exactly_not v met x l h = rw (le-ltb x v h)

pub exactly_end : (v met : ℕ) → exactly_from v met [] ≡ eqb met (2 ^ v - 1)
unfolding exactly_from gathered
exactly_end v met = refl

-- marking keeps the length
pub length_marked : (marks : List ℕ) (x : ℕ) → length (marked marks x) ≡ length marks
unfolding marked
length_marked marks x = length-set marks (x / 64) _

-- variables of one word are told apart by their bits
same_variable : (y x : ℕ) → y / 64 ≡ x / 64 → eqb (y % 64) (x % 64) ≡ eqb y x
same_variable y x e =
    same_truth (eqb (y % 64) (x % 64)) (eqb y x)
    (λ h. eq-eqb y x (omega (arith, eqb-true (y % 64) (x % 64) h)))
    (λ h. eq-eqb (y % 64) (x % 64) (ap (λ (n : ℕ). n % 64) (eqb-true y x h)))

-- what is marked after one variable more
pub is_marked_marked : (marks : List ℕ) (x y : ℕ) → x / 64 < length marks → is_marked (marked marks x) y ≡ (eqb y x || is_marked marks y)
unfolding is_marked marked
is_marked_marked marks x y h = dite (ℕ_discrete (y / 64) (x / 64)) here there
  where
    word : ℕ
    word = with_variable (get_or marks (x / 64) 0) (x % 64)

    here : y / 64 ≡ x / 64 → has_variable (get_or (set marks (x / 64) word) (y / 64) 0) (y % 64) ≡ (eqb y x || has_variable (get_or marks (y / 64) 0) (y % 64))
    here e =
        rw (e, get_or-set_same marks (x / 64) word 0 h)
        (has_with (get_or marks (x / 64) 0) (x % 64) (y % 64) ∙ ap (λ (b : Bool). b || has_variable (get_or marks (x / 64) 0) (y % 64)) (same_variable y x e))

    there : (y / 64 ≡ x / 64 → ⊥) → has_variable (get_or (set marks (x / 64) word) (y / 64) 0) (y % 64) ≡ (eqb y x || has_variable (get_or marks (y / 64) 0) (y % 64))
    there n = rw (get_or-set_other marks (x / 64) (y / 64) word 0 n, ne_eqb y x (λ e. n (ap (λ (k : ℕ). k / 64) e)))

-- lists with the same members have the same marks
pub marks_same : {marks l k : List ℕ} → ((x : ℕ) → member x l ≡ member x k) → Marks marks l → Marks marks k
marks_same e m = record { words = m.words; same = λ x h. m.same x h ∙ e x }

-- 1,024 zeros mark nothing
pub no_marks : Marks (replicate 1024 0) []
unfolding is_marked
no_marks = record {
  words = length-replicate {A = ℕ} 1024 0;
  same = λ x h. ap (λ (w : ℕ). has_variable w (x % 64)) (get_or-replicate {A = ℕ} 1024 (x / 64) 0 0 (omega arith)) ∙ has_none (x % 64);
}

-- one variable more, before or after the others
pub mark_one : {marks l : List ℕ} {x : ℕ} → Marks marks l → x < 65536 → Marks (marked marks x) (x ∷ l)
mark_one {marks} {l} {x} m h = record {
  words = length_marked marks x ∙ m.words;
  same = λ y k. is_marked_marked marks x y (omega (arith, m.words)) ∙ ap (λ (b : Bool). eqb y x || b) (m.same y k);
}

-- the variables of a list more
pub mark_all : {marks k : List ℕ} (l : List ℕ) → every (λ x. ltb x 65536) l ≡ true → Marks marks k → Marks (all_marked marks l) (l ++ k)
unfolding all_marked
mark_all {marks} [] b m = m
mark_all {marks} {k} (x ∷ l) b m =
    let w = and_both (ltb x 65536) (every (λ x. ltb x 65536) l) b in
    marks_same (λ y. move y) (mark_all {marks = marked marks x} l w.1 (mark_one m (ltb-true x 65536 w.0)))
  where
    move : (y : ℕ) → member y (l ++ (x ∷ k)) ≡ member y ((x ∷ l) ++ k)
    move y =
        member_append y l (x ∷ k) ∙ sym (or_assoc (member y l) (eqb y x) (member y k))
        ∙ ap (λ (b : Bool). b || member y k) (or_comm (member y l) (eqb y x)) ∙ sym (member_append y (x ∷ l) k)

marks_of : (l : List ℕ) → every (λ x. ltb x 65536) l ≡ true → Marks (all_marked (replicate 1024 0) l) l
marks_of l b = rw append-nil at (mark_all l b no_marks)

-- the marks answer for the list
every_unmarked : {marks l : List ℕ} (k : List ℕ) → Marks marks l → every (λ x. ltb x 65536) k ≡ true
    → every (λ x. not (is_marked marks x)) k ≡ every (λ x. not (member x l)) k
every_unmarked k m b = every_same (λ x h. ap not (m.same x (ltb-true x 65536 h))) k b

mutual
  pub term_below : (t : Term) → TermFormed t → every (λ x. ltb x 65536) (term_variables t) ≡ true
  term_below (var v) h = rw (lt-ltb v 65536 h)
  term_below (app f ts) h = terms_below ts h.2

  pub terms_below : (ts : Terms) → TermsFormed ts → every (λ x. ltb x 65536) (terms_variables ts) ≡ true
  terms_below nil h = refl
  terms_below (cons t ts) h = rw (every_append, term_below t h.0, terms_below ts h.1)

pub bound_below : (bs : List Binding) → All BindingFormed bs → every (λ x. ltb x 65536) (bound bs) ≡ true
bound_below [] h = refl
bound_below (bind v t ∷ bs) h = rw (lt-ltb v 65536 h.0.0, bound_below bs h.1)

pub free_below : (bs : List Binding) → All BindingFormed bs → every (λ x. ltb x 65536) (free bs) ≡ true
free_below [] h = refl
free_below (bind v t ∷ bs) h = rw (every_append, term_below t h.0.1, free_below bs h.1)

-- the rules of a unifier, asked of the marks of what it binds
pub unifier_rules_marked : (bs : List Binding) → All BindingFormed bs
    → unifier_rules bs ≡ (rising (bound bs) && every (λ x. not (is_marked (all_marked (replicate 1024 0) (bound bs)) x)) (free bs))
unfolding unifier_rules
unifier_rules_marked bs h = ap (λ (b : Bool). rising (bound bs) && b) (sym (every_unmarked (free bs) (marks_of (bound bs) (bound_below bs h)) (free_below bs h)))
