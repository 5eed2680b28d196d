-- The first classes: the nodes of one variable are one class, and then s and t are put into one.
use Rattle.std.specs.Prelude.{◌≡◌, refl, List, ℕ, ◌+◌, ◌≤◌, ◌<◌, length, set}
use Rattle.std.proofs.Common.{sym, ◌∙◌, ap, subst, arith, below_more, length-set, get_or-set_same, get_or-set_other}
use Rattle.records.specs.Format.Syntax.Term.{var}
use Rattle.terms.specs.Theory.Substitution.{substitute}
use Rattle.terms.specs.Theory.Unify.{less, same, more, compare}
use Rattle.terms.specs.Classes.Nodes.{at, Nodes, count, In, node_number, IsVariable}
use Rattle.terms.specs.Classes.NodesLaws.{not_both, variable?}
use Rattle.terms.specs.Classes.ClassesLaws.{variable_term}
use Rattle.terms.specs.Classes.ClassState.{Better, Partition, State, Unitable, United, FirstOfVariable, Firsts}
use Rattle.terms.specs.Classes.CloseLaws.{united_unites, unitable}

-- a node that is no variable is its own first
pub first_itself : (n : Nodes) (i : ℕ) → (IsVariable n i → ⊥) → FirstOfVariable n i i
first_itself n i h = record { low = omega arith; other = λ _. refl; variables = λ a. a; numbers = refl; least = λ a. absurd (h a) }

-- looking for the first node of i's variable: there is none below j
pub record Seeking (n : Nodes) (i j : ℕ) : Type 0 where
  pub bound : j ≤ i
  pub none : (k : ℕ) → k < j → IsVariable n k → node_number n k ≡ node_number n i → ⊥

module _ (n : Nodes) (i : ℕ) where
  pub seeking_start : Seeking n i 0
  seeking_start = record { bound = omega arith; none = λ k h. absurd (omega arith) }

  module _ (j : ℕ) (h : Seeking n i j) where
    pub seeking_next : j < i → (IsVariable n j → node_number n j ≡ node_number n i → ⊥) → Seeking n i (j + 1)
    seeking_next l k = record { bound = omega arith; none = below_more _ _ h.none k }

    pub seeking_found : IsVariable n i → IsVariable n j → node_number n j ≡ node_number n i → FirstOfVariable n i j
    seeking_found a b e = record { low = h.bound; other = λ k. absurd (k a); variables = λ _. b; numbers = e; least = λ _. h.none }

    pub seeking_end : IsVariable n i → i ≤ j → FirstOfVariable n i i
    seeking_end a l =
        record { low = omega arith; other = λ _. refl; variables = λ _. a; numbers = refl; least = λ _ k b. h.none k (omega arith) }

-- the loop over all nodes
pub firsts_start : (n : Nodes) (rep : List ℕ) → length rep ≡ count n → Firsts n rep 0
firsts_start n rep e = record { long = e; bound = omega arith; each = λ i l. absurd (omega arith) }

pub firsts_more : (n : Nodes) (rep : List ℕ) (m r : ℕ) → Firsts n rep m → In n m → FirstOfVariable n m r → Firsts n (set rep m r) (m + 1)
firsts_more n rep m r f l h = record {
  long = length-set rep m r ∙ f.long;
  bound = omega arith;
  each = below_more _ _
      (λ i k. subst (FirstOfVariable n i) (sym (get_or-set_other rep m i r 0 (λ z. omega arith))) (f.each i k))
      (subst (FirstOfVariable n m) (sym (get_or-set_same rep m r 0 (omega (arith, f.long)))) h);
}

pub firsts_end : (n : Nodes) (rep : List ℕ) (m : ℕ) → Firsts n rep m → count n ≤ m → Firsts n rep (count n)
firsts_end n rep m f l = subst (Firsts n rep) (omega (arith, f.bound)) f

-- nodes of one variable have one first
first_shared : (n : Nodes) (i j x y : ℕ) → IsVariable n i → IsVariable n j → node_number n i ≡ node_number n j → FirstOfVariable n i x → FirstOfVariable n j y → x ≡ y
first_shared n i j x y a b e f g = elim (compare x y) [
  | same p ↦ p
  | less p ↦ absurd (g.least b x p (f.variables a) (f.numbers ∙ e))
  | more p ↦ absurd (f.least a y p (g.variables b) (g.numbers ∙ sym e))
]

module _ (n : Nodes) (s t : ℕ) (rep : List ℕ) (s_in : In n s) (t_in : In n t) (f : Firsts n rep (count n)) where
  pub firsts_partition : Partition n s t rep
  firsts_partition = record {
    s_in = s_in;
    t_in = t_in;
    long = f.long;
    inside = λ i k. let z = (f.each i k).low in omega arith;
    root = λ i k.
        let h = f.each i k in
        let z = h.low in
        elim (variable? n i) [
          | yes a ↦ first_shared n (at rep i) i (at rep (at rep i)) (at rep i) (h.variables a) a h.numbers (f.each (at rep i) (omega arith)) h
          | no a ↦ ap (at rep) (h.other a)
        ];
    better = λ i k.
        let h = f.each i k in
        elim (variable? n i) [
          | yes a ↦ record { symbols = λ b. absurd (not_both n i a b); variables = λ b c. omega (arith, h.numbers) }
          | no a ↦ subst (λ x. Better n x i) (sym (h.other a)) (record { symbols = λ b. b; variables = λ b c. omega arith })
        ];
    shared = λ i j k m a b e. first_shared n i j (at rep i) (at rep j) a b e (f.each i k) (f.each j m);
    sound = λ i k children term g θ u.
        let h = f.each i k in
        let z = h.low in
        elim (variable? n i) [
          | yes a ↦
              ap (substitute θ)
              (variable_term n children term g.node (at rep i) (omega arith) (h.variables a) ∙ ap var h.numbers
              ∙ sym (variable_term n children term g.node i k a))
          | no a ↦ ap (λ x. substitute θ (term x)) (h.other a)
        ];
  }

  -- s and t are in one class already, or are put into one
  pub begin_same : at rep s ≡ at rep t → State n s t rep
  begin_same e = record { partition = firsts_partition; joined = e }

  pub begin_other : (new : List ℕ) → (at rep s ≡ at rep t → ⊥) → United n s t rep new → State n s t new
  begin_other new h u =
      let z = united_unites n s t rep new firsts_partition s t s_in t_in h (λ children term g θ k. k) u in
      record { partition = z.partition; joined = z.one }

  pub begin_unitable : Unitable n rep s t
  begin_unitable = unitable n s t rep firsts_partition s t s_in t_in
