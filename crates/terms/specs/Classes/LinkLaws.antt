-- Linking: the traversal over a node's children, and the loop from the last node to the first.
use Rattle.std.specs.Prelude.{◌≡◌, refl, ℕ, ◌+◌, ◌-◌, ◌≤◌, ◌<◌, set}
use Rattle.std.proofs.Common.{sym, ◌∙◌, ap, arith, length-set, get_or-set_same, get_or-set_other}
use Rattle.std.proofs.Math.Decide.{ℕ_discrete}
use Rattle.records.specs.Format.Syntax.{Term, Terms, arity}
use Rattle.records.specs.Format.Syntax.Term.{var, app}
use Rattle.records.specs.Format.Syntax.Terms.{nil, cons}
use Rattle.records.specs.Format.Never.{never}
use Rattle.terms.specs.declared.nodes.Node.{Node}
use Rattle.terms.specs.declared.nodes.NodeKind.TheVariants.{Variable, Symbol}
use Rattle.terms.specs.Classes.Nodes.{Nodes, blank, node, count, In, kind, node_number, node_next, IsVariable}
use Rattle.terms.specs.Classes.Forest.{joined_forest, node_count, nodes_count, term_kind, forest_after, forest_first, term_at}
use Rattle.terms.specs.Classes.ForestLaws.{after_add, after_term, joined_nil, count_positive, split}
use Rattle.terms.specs.Classes.Laid.{Linked, Shaped, Linkable, Behind, SameHeads, Links}

-- the term at a node, and what follows it
pub record NodeSplit (ts : Terms) (i : ℕ) (u : Term) : Type 0 where
  pub rest : Terms
  pub here : forest_after i ts ≡ cons u rest
  pub total : i + (node_count u + nodes_count rest) ≡ nodes_count ts

pub node_split : (ts : Terms) (i : ℕ) → i < nodes_count ts → NodeSplit ts i (term_at ts i)
node_split ts i h =
    let s = split i ts h in
    let e : forest_after i ts ≡ cons s.term s.rest =
    ap (forest_after i) (sym (joined_nil ts)) ∙ s.here nil ∙ ap (cons s.term) (joined_nil s.rest) in
    let x : term_at ts i ≡ s.term = ap forest_first e in
    record { rest = s.rest; here = e ∙ ap (λ t. cons t s.rest) (sym x); total = let z = ap node_count x in omega (arith, s.total) }

-- j of the node's children are passed, those from p on are left
pub record Passing (ts : Terms) (i p j many : ℕ) : Type 0 where
  pub left : Terms
  pub rest : Terms
  pub here : forest_after p ts ≡ joined_forest left rest
  pub sum_many : j + arity left ≡ many
  pub low : i < p
  pub sum : p + nodes_count left ≡ i + node_count (term_at ts i)
  pub high : i + node_count (term_at ts i) ≤ nodes_count ts

passing_start : (ts : Terms) (i many : ℕ) → i < nodes_count ts → term_kind (term_at ts i) ≡ Symbol many → Passing ts i (i + 1) 0 many
passing_start ts i many h = go (term_at ts i) refl (node_split ts i h)
  where
    go : (u : Term) → term_at ts i ≡ u → NodeSplit ts i u → term_kind u ≡ Symbol many → Passing ts i (i + 1) 0 many
    go (var v) e s k = never cc
    go (app f us) e s k = record {
      left = us;
      rest = s.rest;
      here = after_add i 1 ts ∙ ap (forest_after 1) s.here;
      sum_many = let z : arity us ≡ many = cc in omega arith;
      low = omega arith;
      sum = let z = ap node_count e in omega arith;
      high = let z = ap node_count e in omega (arith, s.total);
    }

module _ (ts : Terms) (n : Nodes) (i p j many : ℕ) (w : Linked ts n (i + 1)) (h : Passing ts i p j many) where
  pub passing_in : j < many → p < nodes_count ts
  passing_in l = go h.left h.sum_many h.sum
    where
      go : (left : Terms) → j + arity left ≡ many → p + nodes_count left ≡ i + node_count (term_at ts i) → p < nodes_count ts
      go nil m s = absurd (omega arith)
      go (cons u us) m s = let z = count_positive u in omega (arith, h.high)

  pub passing_step : j < many → Passing ts i (node_next n p) (j + 1) many
  passing_step l = go h.left h.sum_many h.sum h.here
    where
      go : (left : Terms) → j + arity left ≡ many → p + nodes_count left ≡ i + node_count (term_at ts i) → forest_after p ts ≡ joined_forest left h.rest
          → Passing ts i (node_next n p) (j + 1) many
      go nil m s e = absurd (omega arith)
      go (cons u us) m s e =
          let x : term_at ts p ≡ u = ap forest_first e in
          let q : node_next n p ≡ p + node_count u = w p (omega (arith, h.low)) (passing_in l) ∙ ap (λ t. p + node_count t) x in
          record {
            left = us;
            rest = h.rest;
            here = ap (λ j. forest_after j ts) q ∙ after_add p (node_count u) ts ∙ ap (forest_after (node_count u)) e ∙ after_term u (joined_forest us h.rest);
            sum_many = omega arith;
            low = omega (arith, h.low);
            sum = omega arith;
            high = h.high;
          }

  pub passing_end : many ≤ j → p ≡ i + node_count (term_at ts i)
  passing_end l = go h.left h.sum_many h.sum
    where
      go : (left : Terms) → j + arity left ≡ many → p + nodes_count left ≡ i + node_count (term_at ts i) → p ≡ i + node_count (term_at ts i)
      go nil m s = omega arith
      go (cons u us) m s = absurd (omega arith)

-- whatever forest the kinds are of
pub record Passes (n : Nodes) (i p j many : ℕ) : Type 0 where
  pub each : (ts : Terms) → Shaped ts n → Linked ts n (i + 1) → Passing ts i p j many

pub passes_start : (n : Nodes) (i many : ℕ) → In n i → kind n i ≡ Symbol many → Passes n i (i + 1) 0 many
passes_start n i many h k = record { each = λ ts e w. passing_start ts i many (omega (arith, e.long)) (sym (e.kinds i h) ∙ k) }

-- a variable's subtree is its node
pub variable_behind : (n : Nodes) (i : ℕ) → In n i → IsVariable n i → Behind n i (i + 1)
variable_behind n i h v = record { each = λ ts e w. go (term_at ts i) (sym (e.kinds i h) ∙ v) }
  where
    go : (u : Term) → term_kind u ≡ Variable → i + 1 ≡ i + node_count u
    go (var x) k = refl
    go (app f us) k = never cc

module _ (n : Nodes) (i p j many : ℕ) (h : Passes n i p j many) where
  pub passes_in : Linkable n (i + 1) → j < many → p < count n
  passes_in q l = let z = passing_in q.terms n i p j many q.linked (h.each q.terms q.shaped q.linked) l in omega (arith, q.shaped.long)

  pub passes_step : j < many → Passes n i (node_next n p) (j + 1) many
  passes_step l = record { each = λ ts e w. passing_step ts n i p j many w (h.each ts e w) l }

  pub passes_end : many ≤ j → Behind n i p
  passes_end l = record { each = λ ts e w. passing_end ts n i p j many w (h.each ts e w) l }

-- the loop from the last node to the first
pub record Linking (old new : Nodes) (i : ℕ) : Type 0 where
  pub bound : i ≤ count old
  pub links : Links old new i

pub linking_start : (old new : Nodes) → SameHeads old new → Linking old new (count old)
linking_start old new h = record {
  bound = omega arith;
  links = record { heads = h; each = λ ts e j a b. absurd (omega (arith, e.long)) };
}

module _ (old new : Nodes) (i : ℕ) (h : Linking old new i) (l : 0 < i) where
  same_shape : {ts : Terms} → Shaped ts old → Shaped ts new
  same_shape s = record {
    long = h.links.heads.long ∙ s.long;
    kinds = λ j a. h.links.heads.kinds j ∙ s.kinds j (omega (arith, h.links.heads.long));
  }

  pub linking_node : {k : ℕ} → Linkable old k → Linkable new (i - 1 + 1)
  linking_node q = record {
    terms = q.terms;
    shaped = same_shape q.shaped;
    bound = omega (arith, h.bound, h.links.heads.long);
    linked = λ j a b. h.links.each q.terms q.shaped j (omega arith) b;
  }

  pub linking_step : (e : ℕ) → Behind new (i - 1) e
      → Linking old (set new (i - 1) (record { kind = kind new (i - 1); number = node_number new (i - 1); next = e })) (i - 1)
  linking_step e b = record {
    bound = omega (arith, h.bound);
    links = record {
      heads = record {
        long = length-set new (i - 1) entry ∙ h.links.heads.long;
        kinds = λ j. kinds_kept j (ℕ_discrete j (i - 1)) ∙ h.links.heads.kinds j;
        numbers = λ j. numbers_kept j (ℕ_discrete j (i - 1)) ∙ h.links.heads.numbers j;
      };
      each = λ ts q j a c. go ts q j a c (ℕ_discrete j (i - 1));
    };
  }
    where
      entry : Node
      entry = record { kind = kind new (i - 1); number = node_number new (i - 1); next = e }

      here : node (set new (i - 1) entry) (i - 1) ≡ entry
      here = get_or-set_same new (i - 1) entry blank (omega (arith, h.links.heads.long, h.bound))

      there : (j : ℕ) → (j ≡ i - 1 → ⊥) → node (set new (i - 1) entry) j ≡ node new j
      there j z = get_or-set_other new (i - 1) j entry blank z

      kinds_kept : (j : ℕ) → Dec (j ≡ i - 1) → kind (set new (i - 1) entry) j ≡ kind new j
      kinds_kept j (yes z) = rw z (ap (λ (x : Node). x.kind) here)
      kinds_kept j (no z) = ap (λ (x : Node). x.kind) (there j z)

      numbers_kept : (j : ℕ) → Dec (j ≡ i - 1) → node_number (set new (i - 1) entry) j ≡ node_number new j
      numbers_kept j (yes z) = rw z (ap (λ (x : Node). x.number) here)
      numbers_kept j (no z) = ap (λ (x : Node). x.number) (there j z)

      go : (ts : Terms) → Shaped ts old → (j : ℕ) → i - 1 ≤ j → j < nodes_count ts → Dec (j ≡ i - 1)
          → node_next (set new (i - 1) entry) j ≡ j + node_count (term_at ts j)
      go ts q j a c (yes z) =
          rw z (ap (λ (x : Node). x.next) here ∙ b.each ts (same_shape q) (λ k x y. h.links.each ts q k (omega arith) y))
      go ts q j a c (no z) = ap (λ (x : Node). x.next) (there j z) ∙ h.links.each ts q j (omega arith) c
