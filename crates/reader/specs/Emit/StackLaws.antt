-- Laws of the stacks: counts of arguments, and what stands behind brackets, in tables, the last one on top.
use Rattle.std.specs.Prelude.{◌≡◌, refl, Bool, true, false, ◌||◌, not, List, [], ◌∷◌, ℕ, zero, suc, ◌+◌, ◌-◌, ◌≤◌, ◌<◌, leb, length, get_or, set}
use Rattle.std.proofs.Common.{ap, arith, le-leb, leb-true, leb-false, add-one, get_or-set_same, get_or-set_other}
use Rattle.std.proofs.lemmas.Bool.{lt-leb}
use Rattle.records.specs.Format.Never.{never}
use Rattle.reader.specs.Emit.Cells.{top, popped}
use Rattle.reader.specs.Emit.Emits.{stacked, capped, all_capped, one_fewer}
use Rattle.reader.specs.declared.emit.Emission.{Emission as State}

-- a count over 16 as a byte
pub capped_over : (k : ℕ) → leb 17 (capped k) ≡ not (leb k 16)
capped_over k = go (leb k 16) refl
  where
    go : (b : Bool) → leb k 16 ≡ b → leb 17 (capped k) ≡ not b
    go true h = lt-leb 17 (capped k) (omega (arith, leb-true k 16 h))
    go false h = le-leb 17 (capped k) (omega (arith, leb-false k 16 h))

pub capped_within : (k : ℕ) (o : Bool) → (not (leb k 16) || o) ≡ false → (o ≡ false) × (capped k ≡ k)
capped_within k o h = go (leb k 16) refl h
  where
    go : (b : Bool) → leb k 16 ≡ b → (not b || o) ≡ false → (o ≡ false) × (capped k ≡ k)
    go true i j = (j, omega (arith, leb-true k 16 i))
    go false i j = never j

pub stacked_none : (table : List ℕ) (n : ℕ) → n ≡ 0 → 0 ≡ top (stacked 0 table n)
unfolding stacked
stacked_none table n e = rw e refl

pub one_fewer_none : (e : State) → e.terms ≡ 0 → e ≡ one_fewer e
one_fewer_none e z =
    let d : e.terms ≡ e.terms - 1 = omega arith in
    ap (λ (n : ℕ). record { at = e.at; over = e.over; clauses = e.clauses; terms = n; goals = e.goals; behind = e.behind; equal = e.equal; variables = e.variables }) d

pub stacked_top : (table : List ℕ) (n : ℕ) → 0 < n → get_or table (n - 1) 0 ≡ top (stacked 0 table n)
unfolding stacked
stacked_top table zero h = absurd (omega arith)
stacked_top table (suc n) h = ap (λ (k : ℕ). get_or table k 0) (omega arith)

pub stacked_popped : (table : List ℕ) (n : ℕ) → stacked 0 table (n - 1) ≡ popped (stacked 0 table n)
unfolding stacked
stacked_popped table zero = refl
stacked_popped table (suc n) = let e : suc n - 1 ≡ n = omega arith in ap (stacked 0 table) e

module _ {A : Type 0} (none : A) (table : List A) where
  pub stacked_length : (n : ℕ) → length (stacked none table n) ≡ n
  unfolding stacked
  stacked_length zero = refl
  stacked_length (suc n) = ap suc (stacked_length n)

  pub stacked_suc : (n : ℕ) → stacked none table (n + 1) ≡ get_or table n none ∷ stacked none table n
  unfolding stacked
  stacked_suc n = rw add-one refl

  stacked_set : (k n : ℕ) (x : A) → n ≤ k → stacked none (set table k x) n ≡ stacked none table n
  unfolding stacked
  stacked_set k zero x h = refl
  stacked_set k (suc n) x h = rw (stacked_set k n x (omega arith)) (ap (λ (y : A). y ∷ stacked none table n) (get_or-set_other table k n x none (λ e. omega arith)))

  -- one more on top
  pub stacked_push : (n : ℕ) (x : A) → n < length table → stacked none (set table n x) (n + 1) ≡ x ∷ stacked none table n
  unfolding stacked
  stacked_push n x h = rw (add-one, stacked_set n n x (omega arith), get_or-set_same table n x none h) refl

pub capped_top : (ks : List ℕ) → top (all_capped ks) ≡ capped (top ks)
capped_top [] = refl
capped_top (k ∷ ks) = refl

pub capped_popped : (ks : List ℕ) → popped (all_capped ks) ≡ all_capped (popped ks)
capped_popped [] = refl
capped_popped (k ∷ ks) = refl
