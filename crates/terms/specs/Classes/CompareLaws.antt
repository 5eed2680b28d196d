-- Comparing the children of two symbols, side by side.
use Rattle.std.specs.Prelude.{◌≡◌, refl, ℕ, ◌+◌, ◌-◌, ◌≤◌, ◌<◌}
use Rattle.std.proofs.Math.Path.{sym, ap}
use Rattle.std.proofs.Common.{◌∙◌, ap₂, inl}
use Rattle.std.proofs.Math.Logic.{inr}
use mathlib.Core.List.{List, [], ◌∷◌, map}
use native.Mathlib.Omega.{arith}
use Rattle.std.proofs.Math.ListN.{length}
use Rattle.terms.specs.declared.classes.Comparison.TheVariants.{Same, Clash, Differ}
use Rattle.terms.specs.Classes.Nodes.{at, Path, Children, node_next, node_number, Nodes, count}
use Rattle.terms.specs.Classes.Classes.{Paired}
use Rattle.terms.specs.Classes.ClassState.{Comparable, NodesCompared}

-- symbols with other numbers
pub other_numbers : (n : Nodes) (rep : List ℕ) (i r : ℕ) → (node_number n i ≡ node_number n r → ⊥) → NodesCompared n rep i r Clash
unfolding NodesCompared
other_numbers n rep i r h = inl h

-- a path that has not ended goes on, and one that has is empty
pub path_more : (n : Nodes) (p e : ℕ) (l : List ℕ) → Path n p e l → p < e → (m : List ℕ) × (l ≡ p ∷ m) × Path n (node_next n p) e m
path_more n p e [] h k = absurd (omega arith)
path_more n p e (c ∷ l) h k = (l, ap (λ x. x ∷ l) (sym h.0), h.2)

pub path_end : (n : Nodes) (p e : ℕ) (l : List ℕ) → Path n p e l → e ≤ p → l ≡ []
path_end n p e [] h k = refl
path_end n p e (c ∷ l) h k = absurd (omega (arith, h.1))

-- the children cs and ds from p and q on are still to be compared, those before are of the same classes
pub record ChildrenAhead (n : Nodes) (rep : List ℕ) (e f p q : ℕ) (cs ds : List ℕ) : Type 0 where
  pub left : List ℕ
  pub right : List ℕ
  pub left_path : Path n p e left
  pub right_path : Path n q f right
  pub classes : map (at rep) left ≡ map (at rep) right → map (at rep) cs ≡ map (at rep) ds
  pub pairs : (x y : ℕ) → Paired x y left right → Paired x y cs ds
  pub counts : length cs ≡ length ds → length left ≡ length right

-- the loop at p among the children of i, and at q among those of r
pub record Comparing (n : Nodes) (rep : List ℕ) (i r p q : ℕ) : Type 0 where
  pub number : node_number n i ≡ node_number n r
  pub i_high : node_next n i ≤ count n
  pub r_high : node_next n r ≤ count n
  pub p_low : i < p
  pub p_high : p ≤ node_next n i
  pub q_low : r < q
  pub q_high : q ≤ node_next n r
  pub ahead : (cs ds : List ℕ) → Children n i cs → Children n r ds → ChildrenAhead n rep (node_next n i) (node_next n r) p q cs ds

module _ (n : Nodes) (rep : List ℕ) (i r : ℕ) where
  pub comparing_start : Comparable n rep i r → node_number n i ≡ node_number n r → Comparing n rep i r (i + 1) (r + 1)
  comparing_start c e = record {
    number = e;
    i_high = c.table.within i c.i_in;
    r_high = c.table.within r c.r_in;
    p_low = omega arith;
    p_high = let h = c.table.behind i c.i_in in omega arith;
    q_low = omega arith;
    q_high = let h = c.table.behind r c.r_in in omega arith;
    ahead = λ cs ds k m.
        record { left = cs; right = ds; left_path = k; right_path = m; classes = λ z. z; pairs = λ x y z. z; counts = λ z. z };
  }

  ahead_step : (p q : ℕ) (cs ds : List ℕ) → ChildrenAhead n rep (node_next n i) (node_next n r) p q cs ds → p < node_next n i → q < node_next n r
      → at rep p ≡ at rep q → ChildrenAhead n rep (node_next n i) (node_next n r) (node_next n p) (node_next n q) cs ds
  ahead_step p q cs ds h a b e =
      let (l, le, lp) = path_more n p (node_next n i) h.left h.left_path a in
      let (m, me, mp) = path_more n q (node_next n r) h.right h.right_path b in
      record {
        left = l;
        right = m;
        left_path = lp;
        right_path = mp;
        classes = λ z. h.classes (ap (map (at rep)) le ∙ ap₂ ◌∷◌ e z ∙ sym (ap (map (at rep)) me));
        pairs = λ x y z. h.pairs x y (rw (le, me) (inr z));
        counts = λ z. let k : length (p ∷ l) ≡ length (q ∷ m) = sym (ap length le) ∙ h.counts z ∙ ap length me in omega arith;
      }

  module _ (p q : ℕ) (w : Comparing n rep i r p q) where
    -- the next child is behind
    pub comparing_less : Comparable n rep i r → p < node_next n i → node_next n i - node_next n p < node_next n i - p
    comparing_less c a = let h = c.table.behind p (omega (arith, w.i_high)) in omega arith

    pub comparing_step : Comparable n rep i r → p < node_next n i → q < node_next n r → at rep p ≡ at rep q
        → Comparing n rep i r (node_next n p) (node_next n q)
    comparing_step c a b h =
        let hi = w.i_high in
        let hr = w.r_high in
        let hp = c.table.behind p (omega arith) in
        let hq = c.table.behind q (omega arith) in
        record {
          number = w.number;
          i_high = hi;
          r_high = hr;
          p_low = omega (arith, w.p_low);
          p_high = c.table.inner i p w.p_low a;
          q_low = omega (arith, w.q_low);
          q_high = c.table.inner r q w.q_low b;
          ahead = λ cs ds k m. ahead_step p q cs ds (w.ahead cs ds k m) a b h;
        }

    pub comparing_differ : p < node_next n i → q < node_next n r → (at rep p ≡ at rep q → ⊥) → NodesCompared n rep i r (Differ p q)
    unfolding NodesCompared
    comparing_differ a b h =
        let hi = w.i_high in
        let hr = w.r_high in (
          omega arith,
          omega arith,
          h,
          (λ cs ds k m.
              let z = w.ahead cs ds k m in
              let (l, le, lp) = path_more n p (node_next n i) z.left z.left_path a in
              let (l', me, mp) = path_more n q (node_next n r) z.right z.right_path b in
              z.pairs p q (rw (le, me) (inl (refl, refl)))),
        )

    -- more children of i than of r
    pub comparing_more : p < node_next n i → node_next n r ≤ q → NodesCompared n rep i r Clash
    unfolding NodesCompared
    comparing_more a b = inr (λ cs ds k m e.
        let z = w.ahead cs ds k m in
        let (l, le, lp) = path_more n p (node_next n i) z.left z.left_path a in
        let u : length (p ∷ l) ≡ length {A = ℕ} [] =
        sym (ap length le) ∙ z.counts e ∙ ap length (path_end n q (node_next n r) z.right z.right_path b) in
        omega arith)

    -- fewer children of i than of r
    pub comparing_fewer : node_next n i ≤ p → q < node_next n r → NodesCompared n rep i r Clash
    unfolding NodesCompared
    comparing_fewer a b = inr (λ cs ds k m e.
        let z = w.ahead cs ds k m in
        let (l, le, lp) = path_more n q (node_next n r) z.right z.right_path b in
        let u : length {A = ℕ} [] ≡ length (q ∷ l) =
        sym (ap length (path_end n p (node_next n i) z.left z.left_path a)) ∙ z.counts e ∙ ap length le in
        omega arith)

    pub comparing_same : node_next n i ≤ p → node_next n r ≤ q → NodesCompared n rep i r Same
    unfolding NodesCompared
    comparing_same a b = (
      w.number,
      (λ cs ds k m.
          let z = w.ahead cs ds k m in
          z.classes (ap (map (at rep))
          (path_end n p (node_next n i) z.left z.left_path a ∙ sym (path_end n q (node_next n r) z.right z.right_path b)))),
    )
