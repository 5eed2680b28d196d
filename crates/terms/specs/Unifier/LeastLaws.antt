-- The least bound variable, and one pair of the unifier.
use Rattle.std.specs.Prelude.{◌≡◌, Bool, not, Option, Some, None, List, ◌++◌, ℕ, ◌+◌, ◌-◌, ◌≤◌, ◌<◌, length, take, drop}
use Rattle.std.proofs.Math.Path.{refl, subst}
use Rattle.std.proofs.Common.{sym, ap, arith}
use Rattle.std.proofs.Math.Bool.{true, false}
use Rattle.std.proofs.Math.Decide.{ℕ_discrete}
use Rattle.std.proofs.Math.Dec.{eqb}
use borrow.Author.Tests.{eqb-true, eqb-false}
use Rattle.records.specs.Format.Encode.{word}
use Rattle.records.specs.Writing.Patched.{Put}
use Rattle.records.specs.Writing.PatchedLaws.{put_then, put_tail, put_length}
use Rattle.terms.specs.Classes.Nodes.{at, Nodes, In, node_number, IsVariable, IsSymbol}
use Rattle.terms.specs.Classes.NodesLaws.{not_both}
use Rattle.terms.specs.Unifier.ClassTerms.{ClassTable, ClassFits, Wrote}
use Rattle.terms.specs.Values.FittedLaws.{tail_length}
use Rattle.terms.specs.Unifier.UnifierAnswer.{Classed, Bound, Tested, Least, Chosen, PairFits, PairPut}

pub table_classed : {n : Nodes} {rep size : List ℕ} → ClassTable n rep size → Classed n rep
table_classed s = record { table = s.table; long = s.rep_long; inside = s.inside }

-- the test
module _ (n : Nodes) (rep : List ℕ) (i : ℕ) where
  pub tested_symbol : IsSymbol n i → Tested n rep i false
  unfolding Tested
  tested_symbol h b = not_both n i b.0 h

  pub tested_term : IsVariable n i → IsSymbol n (at rep i) → Tested n rep i true
  unfolding Tested
  tested_term v h = (v, (λ w. absurd (not_both n (at rep i) w h)))

  pub tested_variable : IsVariable n i → IsVariable n (at rep i) → Tested n rep i (not (eqb (node_number n (at rep i)) (node_number n i)))
  unfolding Tested
  tested_variable v w = go (eqb (node_number n (at rep i)) (node_number n i)) refl
    where
      go : (b : Bool) → eqb (node_number n (at rep i)) (node_number n i) ≡ b → Tested n rep i (not b)
      go true e = λ k. k.1 w (eqb-true (node_number n (at rep i)) (node_number n i) e)
      go false e = (v, (λ _ q. eqb-false (node_number n (at rep i)) (node_number n i) e q))

  pub tested_bound : {b : Bool} → Tested n rep i b → b ≡ true → Bound n rep i
  unfolding Tested
  tested_bound h e = subst (Tested n rep i) e h

  pub tested_free : {b : Bool} → Tested n rep i b → b ≡ false → Bound n rep i → ⊥
  unfolding Tested
  tested_free h e = subst (Tested n rep i) e h

-- one more node
module _ (n : Nodes) (rep : List ℕ) (lo i : ℕ) where
  -- the best so far stays
  pub chosen_skip : (best : Option ℕ) → (Bound n rep i → lo ≤ node_number n i → ⊥) → Chosen n rep lo best i best
  chosen_skip best h = record { each = go best }
    where
      other : (j : ℕ) → j < i + 1 → Bound n rep j → lo ≤ node_number n j → j < i
      other j a b c = elim (ℕ_discrete j i) [
        | yes e ↦ absurd (h (subst (Bound n rep) e b) (subst (λ x. lo ≤ node_number n x) e c))
        | no e ↦ omega arith
      ]

      go : (best : Option ℕ) → Least n rep lo i best → Least n rep lo (i + 1) best
      go None l = record { none = λ j a k b c. l.none j (other j a b c) k b c }
      go (Some k) l = record { inside = l.inside; bound = l.bound; high = l.high; least = λ j a x b c. l.least j (other j a b c) x b c }

  pub chosen_old : (k : ℕ) → node_number n k ≤ node_number n i → Chosen n rep lo (Some k) i (Some k)
  chosen_old k h = record {
    each = λ l. record {
      inside = l.inside;
      bound = l.bound;
      high = l.high;
      least = λ j a x b c. elim (ℕ_discrete j i) [
        | yes e ↦ subst (λ y. node_number n k ≤ node_number n y) (sym e) h
        | no e ↦ l.least j (omega arith) x b c
      ];
    };
  }

  -- i is better than the best so far, or there is none
  module _ (inside : In n i) (b : Bound n rep i) (h : lo ≤ node_number n i) where
    pub chosen_first : Chosen n rep lo None i (Some i)
    chosen_first = record {
      each = λ l. record {
        inside = inside;
        bound = b;
        high = h;
        least = λ j a x d c. elim (ℕ_discrete j i) [
          | yes e ↦ omega (arith, ap (node_number n) e)
          | no e ↦ absurd (l.none j (omega arith) x d c)
        ];
      };
    }

    pub chosen_new : (k : ℕ) → node_number n i ≤ node_number n k → Chosen n rep lo (Some k) i (Some i)
    chosen_new k f = record {
      each = λ l. record {
        inside = inside;
        bound = b;
        high = h;
        least = λ j a x d c. elim (ℕ_discrete j i) [
          | yes e ↦ omega (arith, ap (node_number n) e)
          | no e ↦ (let z = l.least j (omega arith) x d c in omega arith)
        ];
      };
    }

pub least_start : (n : Nodes) (rep : List ℕ) (lo : ℕ) → Least n rep lo 0 None
least_start n rep lo = record { none = λ j h. absurd (omega arith) }

-- one pair
module _ (n : Nodes) (rep size : List ℕ) (classes : ClassTable n rep size) (out : List ℕ) (k i : ℕ) (fits : PairFits n rep size out k i)
    (mid : List ℕ) (e : ℕ) (p : Put out k (word (node_number n i)) mid e) where
  pub pair_place : (e ≤ length mid) × (e + at size (at rep i) ≤ length mid)
  pair_place = (omega (arith, p.place, put_length p, fits.room), omega (arith, p.place, put_length p, fits.room))

  pub pair_term : ClassFits n size (take (length mid - e) (drop e mid)) (at rep i)
  pair_term = record {
    inside = classes.inside i fits.inside;
    known = classes.known i fits.inside;
    small = fits.small;
    room = omega (arith, pair_place.1, tail_length mid e);
  }

  pub pair_put : (part : List ℕ) → Wrote n rep size (at rep i) (take (length mid - e) (drop e mid)) part
      → PairPut n rep out k i (take e mid ++ (part ++ drop (length mid - e) (drop e mid))) (e + at size (at rep i))
  pair_put part w = record { each = λ children term g t x. put_then p (put_tail (w.each children term g t x)) }
