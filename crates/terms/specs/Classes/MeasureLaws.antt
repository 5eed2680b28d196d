-- Measuring all classes: the loop, its measure, and that a class left without a length shows that there is no unifier.
use Rattle.std.specs.Prelude.{◌≡◌, List, [], ◌∷◌, true, false, Option, Some, None, ℕ, zero, suc, ◌+◌, ◌-◌, ◌*◌, ◌≤◌, ◌<◌, length, set}
use Rattle.std.proofs.Common.{sym, ◌∙◌, ap, subst, mul-le-mul_right, arith, below_more, length-set, get_or-set_same, get_or-set_other}
use Rattle.std.proofs.Math.Decide.{ℕ_discrete}
use Rattle.terms.specs.Theory.TestLaws.{all_among}
use Rattle.terms.specs.Classes.Nodes.{at, Nodes, count, In, Table, variable, symbol}
use Rattle.terms.specs.Classes.NodesLaws.{not_both}
use Rattle.terms.specs.Classes.ClassesLaws.{no_cycle}
use Rattle.terms.specs.Classes.ClassState.{Apart, State, Finished}
use Rattle.terms.specs.Classes.CloseLaws.{state_respects}
use Rattle.terms.specs.Classes.Lengths.{Expansion, Weighed, Weighable, Open, Offered, Measuring, Blank, Checked}
use Rattle.terms.specs.Classes.WeighLaws.{weighs_expansion}

-- where a node does not represent its class, or the class has a length, there is nothing to store
module _ (n : Nodes) (rep size : List ℕ) (i : ℕ) where
  pub offered_other : (at rep i ≡ i → ⊥) → Offered n rep size i None
  offered_other h = λ o. absurd (h o.0)

  pub offered_known : (at size i ≡ 0 → ⊥) → Offered n rep size i None
  offered_known h = λ o. absurd (h o.1)

-- what is weighed at an open node is offered
pub offered_weighed : (n : Nodes) (rep size : List ℕ) (i : ℕ) (w : Option ℕ) → at rep i ≡ i → at size i ≡ 0 → Weighed n rep size i w → Offered n rep size i w
unfolding Weighed
offered_weighed n rep size i None a b p = λ _. p
offered_weighed n rep size i (Some w) a b p = ((a, b), p)

-- the classes of a state may be weighed
pub state_weighable : (n : Nodes) (s t : ℕ) (rep size : List ℕ) (i : ℕ) → Table n → State n s t rep → Measuring n rep size i
    → Weighable n rep size
state_weighable n s t rep size i table st m = record {
  table = table;
  rep_long = st.partition.long;
  size_long = m.long;
  inside = st.partition.inside;
  capped = m.capped;
}

-- how many lengths are not known
abbrev one_if_zero : ℕ → ℕ
one_if_zero zero = 1
one_if_zero (suc x) = 0

abbrev pub zeros : List ℕ → ℕ
zeros [] = 0
zeros (x ∷ l) = one_if_zero x + zeros l

zeros_set : (l : List ℕ) (i w : ℕ) → i < length l → at l i ≡ 0 → 0 < w → zeros (set l i w) < zeros l
zeros_set [] i w h e p = absurd (omega arith)
zeros_set (x ∷ l) zero zero h e p = absurd (omega arith)
zeros_set (x ∷ l) zero (suc w) h e p = let z : one_if_zero x ≡ 1 = ap one_if_zero e in omega arith
zeros_set (x ∷ l) (suc i) w h e p = let z = zeros_set l i w (omega arith) e p in omega arith

-- the loop's measure: the lengths that are not known, and then the nodes that are left
abbrev pub measuring_left : List ℕ → ℕ → ℕ → ℕ
measuring_left size m i = zeros size * suc m + (m - i)

pub measuring_start : (n : Nodes) (rep size : List ℕ) → Blank n size → Measuring n rep size 0
measuring_start n rep size b = record {
  long = b.long;
  bound = omega arith;
  capped = λ i l. omega (arith, b.zero i l);
  measured = λ r l h. absurd (h (b.zero r (omega (arith, b.long))));
  waits = λ k h. absurd (omega arith);
}

module _ (n : Nodes) (rep size : List ℕ) (i : ℕ) (m : Measuring n rep size i) where
  pub measuring_end : count n ≤ i → Measuring n rep size (count n)
  measuring_end l = subst (Measuring n rep size) (omega (arith, m.bound)) m

  module _ (l : In n i) where
    pub measuring_next : Offered n rep size i None → Measuring n rep size (i + 1)
    measuring_next f = record {
      long = m.long;
      bound = omega arith;
      capped = m.capped;
      measured = m.measured;
      waits = below_more _ _ m.waits f;
    }

    pub measuring_less : (w : ℕ) → Offered n rep size i (Some w) → measuring_left (set size i w) (count n) 0 < measuring_left size (count n) i
    measuring_less w (o, y) =
        let z = zeros_set size i w (omega (arith, m.long)) o.1 y.positive in
        let k : suc (zeros (set size i w)) * suc (count n) ≤ zeros size * suc (count n) = mul-le-mul_right (suc (count n)) z in
        omega arith

    pub measuring_set : (s t w : ℕ) → State n s t rep → Offered n rep size i (Some w) → Measuring n rep (set size i w) 0
    measuring_set s t w st (o, y) =
        let here : at (set size i w) i ≡ w = get_or-set_same size i w 0 (omega (arith, m.long)) in
        record {
          long = length-set size i w ∙ m.long;
          bound = omega arith;
          capped = λ k b. elim (ℕ_discrete k i) [
            | yes q ↦ (let z : at (set size i w) k ≡ w = ap (at (set size i w)) q ∙ here in omega (arith, y.capped))
            | no q ↦
                (let z : at (set size i w) k ≡ at size k = get_or-set_other size i k w 0 q in
                let x = m.capped k (omega (arith, length-set size i w)) in
                omega arith)
          ];
          measured = λ k b p children term g. elim (ℕ_discrete k i) [
            | yes q ↦
                (let z : at (set size i w) k ≡ w = ap (at (set size i w)) q ∙ here in
                let x = weighs_expansion n rep size m.measured st.partition.inside children term g i w l y in
                (x.0, subst (λ a. Expansion n children (at rep) a x.0) (sym q) x.1, z ∙ x.2))
            | no q ↦
                (let z : at (set size i w) k ≡ at size k = get_or-set_other size i k w 0 q in
                let x = m.measured k b (λ e. p (z ∙ e)) children term g in
                (x.0, x.1, z ∙ x.2))
          ];
          waits = λ k b. absurd (omega arith);
        }

-- looking for a class without a length: there is none below i
pub record Checking (n : Nodes) (rep size : List ℕ) (i : ℕ) : Type 0 where
  pub bound : i ≤ count n
  pub none : (k : ℕ) → k < i → at rep k ≡ k → at size k ≡ 0 → ⊥

module _ (n : Nodes) (rep size : List ℕ) where
  pub checking_start : Checking n rep size 0
  checking_start = record { bound = omega arith; none = λ k h. absurd (omega arith) }

module _ (n : Nodes) (rep size : List ℕ) (i : ℕ) (c : Checking n rep size i) where
  pub checking_next : In n i → (at rep i ≡ i → at size i ≡ 0 → ⊥) → Checking n rep size (i + 1)
  checking_next l h = record { bound = omega arith; none = below_more _ _ c.none h }

  pub checking_found : In n i → at rep i ≡ i → at size i ≡ 0 → Checked n rep size false
  unfolding Checked
  checking_found l a b = (i, l, (a, b))

  pub checking_end : count n ≤ i → Checked n rep size true
  unfolding Checked
  checking_end l = record { all = λ k m. c.none k (omega arith) }

-- a class that waits for ever: every unifier would make its term longer than itself
pub waiting_apart : (n : Nodes) (s t : ℕ) (rep size : List ℕ) → Finished n s t rep → Measuring n rep size (count n)
    → (r : ℕ) → In n r → Open rep size r → Apart n s t
waiting_apart n s t rep size f m r l o children term g θ u =
    no_cycle n children term g.node θ (at rep) (state_respects n s t rep f.state children term g θ u)
    (λ x. In n x × Open rep size x)
    (λ x p.
    let w = m.waits x p.0 p.1 in
    let c = w.child (children x) (g.path x p.0 w.symbols) in
    let k : In n c.0 = elim (g.node x p.0) [
      | variable a q ↦ absurd (not_both n x a w.symbols)
      | symbol a q k ↦ all_among (In n) (children x) k c.0 c.1
    ] in
    (p.0, w.symbols, (c.0, c.1, (f.state.partition.inside c.0 k, (f.state.partition.root c.0 k, c.2)))))
    r (l, o)
