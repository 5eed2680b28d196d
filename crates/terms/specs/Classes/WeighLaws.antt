-- Weighing a class: the loop over a symbol's children, and that what is weighed is the length of the class's term.
use Rattle.std.specs.Prelude.{◌≡◌, Some, None, ℕ, ◌+◌, ◌-◌, ◌≤◌, ◌<◌, min, length}
use Rattle.std.proofs.Math.Path.{refl, ap}
use Rattle.std.proofs.Common.{sym, subst, arith}
use Rattle.std.proofs.Math.Logic.{inl, inr}
use mathlib.Core.List.{List, [], ◌∷◌}
use Rattle.records.specs.Format.Syntax.{Term, Terms}
use Rattle.records.specs.Format.Syntax.Term.{var, app}
use Rattle.records.specs.Format.Syntax.Terms.{nil, cons}
use Rattle.records.specs.Format.Formed.{All}
use Rattle.terms.specs.Theory.Substitution.{term_length, terms_length}
use Rattle.terms.specs.Theory.SubstitutionLaws.{terms_length_cons}
use Rattle.terms.specs.Theory.Variables.{Among}
use Rattle.terms.specs.Classes.Nodes.{at, Nodes, In, node_number, Path, Children, variable, symbol, Graph, node_next, IsVariable, IsSymbol, count}
use Rattle.terms.specs.Classes.NodesLaws.{not_both}
use Rattle.terms.specs.Classes.CompareLaws.{path_more, path_end}
use Rattle.terms.specs.Classes.Lengths.{Expansion, Expansions, length_cap, total, LengthsKnown, Weighable, Weighs, Weighed, ClassesMeasured}

-- a variable is three bytes
pub variable_weighed : (n : Nodes) (rep size : List ℕ) (r : ℕ) → IsVariable n r → Weighed n rep size r (Some 3)
unfolding Weighed
variable_weighed n rep size r h =
    record { positive = omega arith; capped = omega arith; variables = λ _. refl; symbols = λ a. absurd (not_both n r h a) }

-- the children from p on are still to be weighed, w is what those before weigh
pub record Unweighed (n : Nodes) (rep size : List ℕ) (e p w : ℕ) (cs : List ℕ) : Type 0 where
  pub left : List ℕ
  pub path : Path n p e left
  pub known : LengthsKnown rep size left → LengthsKnown rep size cs
  pub sum : min length_cap (w + total rep size left) ≡ min length_cap (4 + total rep size cs)
  pub listed : (c : ℕ) → Among c left → Among c cs

-- the loop
pub record Weighing (n : Nodes) (rep size : List ℕ) (r p w : ℕ) : Type 0 where
  pub r_high : node_next n r ≤ count n
  pub p_low : r < p
  pub p_high : p ≤ node_next n r
  pub w_low : 4 ≤ w
  pub w_high : w ≤ length_cap
  pub rest : (cs : List ℕ) → Children n r cs → Unweighed n rep size (node_next n r) p w cs

pub weighing_start : (n : Nodes) (rep size : List ℕ) (r : ℕ) → Weighable n rep size → r < count n → Weighing n rep size r (r + 1) 4
weighing_start n rep size r c l = record {
  r_high = c.table.within r l;
  p_low = omega arith;
  p_high = let h = c.table.behind r l in omega arith;
  w_low = omega arith;
  w_high = omega arith;
  rest = λ cs k. record { left = cs; path = k; known = λ z. z; sum = refl; listed = λ c z. z };
}

unweighed_step : (n : Nodes) (rep size : List ℕ) (e p w : ℕ) (cs : List ℕ) → Unweighed n rep size e p w cs → p < e → (at size (at rep p) ≡ 0 → ⊥)
    → (v : ℕ) → v ≡ min length_cap (w + at size (at rep p)) → Unweighed n rep size e (node_next n p) v cs
unweighed_step n rep size e p w cs h l k v q =
    let (m, me, mp) = path_more n p e h.left h.path l in
    let s : total rep size h.left ≡ at size (at rep p) + total rep size m = ap (total rep size) me in
    record {
      left = m;
      path = mp;
      known = λ z. h.known (subst (LengthsKnown rep size) (sym me) (k, z));
      sum = omega (arith, h.sum);
      listed = λ c z. h.listed c (subst (Among c) (sym me) (inr z));
    }

module _ (n : Nodes) (rep size : List ℕ) (r p w : ℕ) (c : Weighable n rep size) (h : Weighing n rep size r p w) where
  -- the class of the child at p, and its length
  pub weighing_child : p < node_next n r → at rep p < length size
  weighing_child l = let z = c.inside p (omega (arith, h.r_high)) in omega (arith, c.size_long)

  pub weighing_capped : p < node_next n r → (w ≤ length_cap) × (at size (at rep p) ≤ length_cap)
  weighing_capped l = (h.w_high, c.capped (at rep p) (weighing_child l))

  -- the next child is behind
  pub weighing_less : p < node_next n r → node_next n r - node_next n p < node_next n r - p
  weighing_less l = let z = c.table.behind p (omega (arith, h.r_high)) in omega arith

  pub weighing_step : p < node_next n r → (at size (at rep p) ≡ 0 → ⊥) → (v : ℕ) → v ≡ min length_cap (w + at size (at rep p))
      → Weighing n rep size r (node_next n p) v
  weighing_step l k v q =
      let b = c.table.behind p (omega (arith, h.r_high)) in
      record {
        r_high = h.r_high;
        p_low = omega (arith, h.p_low);
        p_high = c.table.inner r p h.p_low l;
        w_low = omega (arith, h.w_low);
        w_high = omega arith;
        rest = λ cs a. unweighed_step n rep size (node_next n r) p w cs (h.rest cs a) l k v q;
      }

  pub weighing_waits : IsSymbol n r → p < node_next n r → at size (at rep p) ≡ 0 → Weighed n rep size r None
  unfolding Weighed
  weighing_waits a l z = record {
    symbols = a;
    child = λ cs k.
        let f = h.rest cs k in
        let (m, me, mp) = path_more n p (node_next n r) f.left f.path l in
        (p, f.listed p (subst (Among p) (sym me) (inl refl)), z);
  }

  pub weighing_end : IsSymbol n r → node_next n r ≤ p → Weighed n rep size r (Some w)
  unfolding Weighed
  weighing_end a l = record {
    positive = omega (arith, h.w_low);
    capped = h.w_high;
    variables = λ k. absurd (k a);
    symbols = λ b cs k.
        let f = h.rest cs k in
        let e : f.left ≡ [] = path_end n p (node_next n r) f.left f.path l in
        let s : total rep size f.left ≡ 0 = ap (total rep size) e in
        (f.known (subst (LengthsKnown rep size) (sym e) tt), omega (arith, f.sum, h.w_high));
  }

-- what is weighed is the length of the class's term
module _ (n : Nodes) (rep size : List ℕ) (m : ClassesMeasured n rep size) (inside : (i : ℕ) → In n i → In n (at rep i))
    (children : ℕ → List ℕ) (term : ℕ → Term) (g : Graph n children term) where
  known_expansions : (cs : List ℕ) → All (In n) cs → LengthsKnown rep size cs
      → (ts : Terms) × Expansions n children (at rep) cs ts × (min length_cap (total rep size cs) ≡ min length_cap (terms_length ts))
  known_expansions [] k d = (nil, refl, refl)
  known_expansions (c ∷ cs) k d =
      let a = m (at rep c) (inside c k.0) d.0 children term g in
      let b = known_expansions cs k.1 d.1 in
      (cons a.0 b.0, (c, cs, refl, a.1, b.1), omega (arith, a.2, b.2, terms_length_cons a.0 b.0))

  pub weighs_expansion : (r w : ℕ) → In n r → Weighs n rep size r w
      → (t : Term) × Expansion n children (at rep) r t × (w ≡ min length_cap (term_length t))
  weighs_expansion r w l h = elim (g.node r l) [
    | variable a q ↦ (var (node_number n r), (a, refl), h.variables (λ z. not_both n r a z))
    | symbol a q k ↦
        (let x = h.symbols (_, a) (children r) (g.path r l (_, a)) in
        let y = known_expansions (children r) k x.0 in
        (app (node_number n r) y.0, ((_, a), refl, y.1), omega (arith, x.1, y.2)))
  ]
