-- Laws of writing the terms of the classes.
use Rattle.std.specs.Prelude.{◌≡◌, refl, List, [], ◌∷◌, ◌++◌, ℕ, suc, ◌+◌, ◌-◌, ◌≤◌, ◌<◌, min, length, take, drop}
use Rattle.std.proofs.Common.{sym, ◌∙◌, ap, subst, arith}
use Rattle.records.specs.Format.Never.{never}
use Rattle.records.specs.Format.Syntax.{Term, Terms, arity}
use Rattle.records.specs.Format.Syntax.Term.{var, app}
use Rattle.records.specs.Format.Syntax.Terms.{nil, cons}
use Rattle.records.specs.Format.Encode.{word, term_bytes, terms_bytes}
use Rattle.records.specs.Format.Formed.{All}
use Rattle.records.specs.Writing.Patched.{Put}
use Rattle.records.specs.Writing.PatchedLaws.{put_none, put_then, put_tail, put_length}
use Rattle.terms.specs.Values.FittedLaws.{tail_length}
use Rattle.terms.specs.Theory.Substitution.{term_length, terms_length}
use Rattle.terms.specs.Theory.SubstitutionLaws.{term_length_least, terms_length_cons}
use Rattle.terms.specs.Classes.Nodes.{at, Nodes, count, In, kind, node_number, node_next, IsVariable, IsSymbol, Path, TableNode, variable, symbol, Graph}
use Rattle.terms.specs.declared.nodes.NodeKind.{NodeKind}
use Rattle.terms.specs.declared.nodes.NodeKind.TheVariants.{Variable, Symbol}
use Rattle.terms.specs.Classes.NodesLaws.{not_both}
use Rattle.terms.specs.Classes.Laid.{SmallKind}
use Rattle.terms.specs.Classes.CompareLaws.{path_more, path_end}
use Rattle.terms.specs.Classes.Lengths.{Expansion, Expansions, length_cap, total}
use Rattle.terms.specs.Classes.SolveLaws.{expansion_unique}
use Rattle.terms.specs.Unifier.ClassTerms.{head_bytes, ClassTable, ClassFits, ChildrenLeft, Wrote, Wrotes}

-- a node's own bytes, by its kind
pub head_variable : (k : NodeKind) (v : ℕ) → k ≡ Variable → head_bytes k v ≡ 0x01 ∷ word v
head_variable k v h = ap (λ x. head_bytes x v) h

pub head_symbol : (k : NodeKind) (v a : ℕ) → k ≡ Symbol a → head_bytes k v ≡ 0x02 ∷ (word v ++ (a ∷ []))
head_symbol k v a h = ap (λ x. head_bytes x v) h

-- as many children as arguments
expansions_arity : (n : Nodes) (children : ℕ → List ℕ) (rep : ℕ → ℕ) (ts : Terms) (cs : List ℕ) → Expansions n children rep cs ts → length cs ≡ arity ts
expansions_arity n children rep nil cs p = ap length p
expansions_arity n children rep (cons t ts) cs p = ap length p.2 ∙ ap suc (expansions_arity n children rep ts p.1 p.4)

path_in : (n : Nodes) (m p e : ℕ) (cs : List ℕ) → e ≤ m → Path n p e cs → All (λ c. c < m) cs
path_in n m p e [] l h = tt
path_in n m p e (c ∷ cs) l h = (omega (arith, h.0, h.1), path_in n m (node_next n p) e cs l h.2)

module _ (n : Nodes) (rep size : List ℕ) (classes : ClassTable n rep size) where
  -- a class's length is its term's
  pub size_is : (children : ℕ → List ℕ) (term : ℕ → Term) → Graph n children term → (r : ℕ) → In n r → (at size r ≡ 0 → ⊥)
      → (t : Term) → Expansion n children (at rep) r t → at size r ≡ min length_cap (term_length t)
  size_is children term g r l k t x =
      let m = classes.measured r l k children term g in
      m.2 ∙ ap (λ u. min length_cap (term_length u)) (expansion_unique n children (at rep) m.0 r t m.1 x)

  total_is : (children : ℕ → List ℕ) (term : ℕ → Term) → Graph n children term → (ts : Terms) (cs : List ℕ) → All (In n) cs
      → Expansions n children (at rep) cs ts → min length_cap (total rep size cs) ≡ min length_cap (terms_length ts)
  total_is children term g nil cs k x = ap (λ l. min length_cap (total rep size l)) x
  total_is children term g (cons t ts) cs k x =
      let k' : All (In n) (x.0 ∷ x.1) = subst (All (In n)) x.2 k in
      let a = size_is children term g (at rep x.0) (classes.inside x.0 k'.0) (classes.known x.0 k'.0) t x.3 in
      let b = total_is children term g ts x.1 k'.1 x.4 in
      ap (λ l. min length_cap (total rep size l)) x.2 ∙ omega (arith, terms_length_cons t ts)

  -- a node's own bytes are the first of its class's term
  module _ (out : List ℕ) (r : ℕ) (fits : ClassFits n size out r) where
    own : (t : Term) × Expansion n classes.children (at rep) r t × (at size r ≡ min length_cap (term_length t))
    own = classes.measured r fits.inside fits.known classes.children classes.term classes.graph

    head_small : (k : NodeKind) → kind n r ≡ k → length (head_bytes k (node_number n r)) ≤ at size r
    head_small Variable e = omega (arith, own.2, term_length_least own.0)
    head_small (Symbol a) e = go own.0 own.1 own.2
      where
        go : (t : Term) → Expansion n classes.children (at rep) r t → at size r ≡ min length_cap (term_length t) → 4 ≤ at size r
        go (var x) p q = absurd (not_both n r p.0 (a, e))
        go (app f ts) p q = omega arith

    pub head_fits : SmallKind (kind n r) × (length (head_bytes (kind n r) (node_number n r)) ≤ length out)
    head_fits = (classes.small.kinds r fits.inside, omega (arith, head_small (kind n r) refl, fits.room))

    -- a variable's class is written by its node's bytes
    pub wrote_variable : (new : List ℕ) (e : ℕ) → Put out 0 (head_bytes (kind n r) (node_number n r)) new e → IsVariable n r → Wrote n rep size r out new
    wrote_variable new e h k = record { each = go }
      where
        go : (children : ℕ → List ℕ) (term : ℕ → Term) → Graph n children term → (t : Term) → Expansion n children (at rep) r t
            → Put out 0 (term_bytes t) new (at size r)
        go children term g (var x) p =
            let q : Put out 0 (head_bytes Variable x) new e = subst (λ y. Put out 0 (head_bytes Variable y) new e) (sym p.1) (subst (λ y. Put out 0 (head_bytes y (node_number n r)) new e) p.0 h) in
            let s = size_is children term g r fits.inside fits.known (var x) p in
            record { place = s; output = q.output }
        go children term g (app f ts) p = absurd (not_both n r k p.0)

    -- a symbol's class: its node's bytes, and then those of its children's classes
    module _ (mid : List ℕ) (e : ℕ) (h : Put out 0 (head_bytes (kind n r) (node_number n r)) mid e) (k : IsSymbol n r) where
      four : e ≡ 4
      four = h.place ∙ ap (λ x. 0 + length (head_bytes x (node_number n r))) k.1

      pub symbol_left : (e ≤ at size r) × (e ≤ length mid) × (0 < e)
      symbol_left =
          let x = head_small (kind n r) refl in
          let y = four in
          (omega (arith, h.place), omega (arith, h.place, put_length h, fits.room), omega arith)

      own_sum : (t : Term) → Expansion n classes.children (at rep) r t → at size r ≡ min length_cap (term_length t)
          → at size r - e ≡ total rep size (classes.children r)
      own_sum (var x) p q = absurd (not_both n r p.0 k)
      own_sum (app f ts) p q =
          let z = total_is classes.children classes.term classes.graph ts (classes.children r)
          (path_in n (count n) (r + 1) (node_next n r) (classes.children r) (classes.table.within r fits.inside) (classes.graph.path r fits.inside k))
          p.2 in
          omega (arith, four, fits.small)

      pub symbol_rest : ChildrenLeft n rep size (take (length mid - e) (drop e mid)) (r + 1) (node_next n r) (at size r - e)
      symbol_rest = record {
        within = classes.table.within r fits.inside;
        nodes = classes.children r;
        path = classes.graph.path r fits.inside k;
        sum = own_sum own.0 own.1 own.2;
        small = omega (arith, fits.small);
        room = omega (arith, tail_length mid e, put_length h, fits.room);
      }

      pub wrote_symbol : (part : List ℕ) → Wrotes n rep (r + 1) (node_next n r) (at size r - e) (take (length mid - e) (drop e mid)) part
          → Wrote n rep size r out (take e mid ++ (part ++ drop (length mid - e) (drop e mid)))
      wrote_symbol part w = record { each = go }
        where
          go : (children : ℕ → List ℕ) (term : ℕ → Term) → Graph n children term → (t : Term) → Expansion n children (at rep) r t
              → Put out 0 (term_bytes t) (take e mid ++ (part ++ drop (length mid - e) (drop e mid))) (at size r)
          go children term g (var x) p = absurd (not_both n r p.0 k)
          go children term g (app f ts) p =
              let a : kind n r ≡ Symbol (arity ts) = kind_arity (g.node r fits.inside) in
              let x : Put out 0 (head_bytes (Symbol (arity ts)) f) mid e =
              subst (λ y. Put out 0 (head_bytes (Symbol (arity ts)) y) mid e) (sym p.1) (subst (λ y. Put out 0 (head_bytes y (node_number n r)) mid e) a h) in
              let y = put_then x (put_tail (w.each children term g (children r) (g.path r fits.inside k) ts p.2)) in
              let z : e + (at size r - e) ≡ at size r = omega (arith, symbol_left.0) in
              subst (λ l. Put out 0 (term_bytes (app f ts)) (take e mid ++ (part ++ drop (length mid - e) (drop e mid))) l) z y
            where
              kind_arity : TableNode n children term r → kind n r ≡ Symbol (arity ts)
              kind_arity (variable b q) = absurd (not_both n r b k)
              kind_arity (symbol b q l) = b ∙ ap Symbol (expansions_arity n children (at rep) ts (children r) p.2)

  -- the children from p on
  module _ (out : List ℕ) (p end left : ℕ) (rest : ChildrenLeft n rep size out p end left) where
    pub wrotes_end : end ≤ p → Wrotes n rep p end left out out
    wrotes_end l = record { each = go }
      where
        none : left ≡ 0
        none = rest.sum ∙ ap (total rep size) (path_end n p end rest.nodes rest.path l)

        go : (children : ℕ → List ℕ) (term : ℕ → Term) → Graph n children term → (cs : List ℕ) → Path n p end cs
            → (ts : Terms) → Expansions n children (at rep) cs ts → Put out 0 (terms_bytes ts) out left
        go children term g cs path nil x = subst (λ k. Put out 0 [] out k) (sym none) put_none
        go children term g cs path (cons t ts) x =
            let e : [] ≡ x.0 ∷ x.1 = sym (path_end n p end cs path l) ∙ x.2 in
            never cc

    module _ (l : p < end) where
      pub rest_more : (m : List ℕ) × (rest.nodes ≡ p ∷ m) × Path n (node_next n p) end m
      rest_more = path_more n p end rest.nodes rest.path l

      pub child_in : In n p × In n (at rep p)
      child_in = let h : p < count n = omega (arith, rest.within) in (h, classes.inside p h)

      pub child_left : (at size (at rep p) ≤ left) × (0 < at size (at rep p)) × (left - at size (at rep p) ≡ total rep size rest_more.0)
      child_left =
          let s : total rep size rest.nodes ≡ at size (at rep p) + total rep size rest_more.0 = ap (total rep size) rest_more.1 in
          let k = classes.known p child_in.0 in
          (omega (arith, rest.sum), omega arith, omega (arith, rest.sum))

      pub child_fits : ClassFits n size out (at rep p)
      child_fits = record {
        inside = child_in.1;
        known = classes.known p child_in.0;
        small = omega (arith, child_left.0, rest.small);
        room = omega (arith, child_left.0, rest.room);
      }

      pub rest_next : (mid : List ℕ) → length mid ≡ length out
          → ChildrenLeft n rep size (take (length mid - at size (at rep p)) (drop (at size (at rep p)) mid)) (node_next n p) end (left - at size (at rep p))
      rest_next mid k = record {
        within = rest.within;
        nodes = rest_more.0;
        path = rest_more.2;
        sum = child_left.2;
        small = omega (arith, rest.small);
        room = omega (arith, tail_length mid (at size (at rep p)), rest.room);
      }

      pub wrotes_more : (mid part : List ℕ) → Wrote n rep size (at rep p) out mid
          → Wrotes n rep (node_next n p) end (left - at size (at rep p)) (take (length mid - at size (at rep p)) (drop (at size (at rep p)) mid)) part
          → Wrotes n rep p end left out (take (at size (at rep p)) mid ++ (part ++ drop (length mid - at size (at rep p)) (drop (at size (at rep p)) mid)))
      wrotes_more mid part w ws = record { each = go }
        where
          k : ℕ
          k = at size (at rep p)

          new : List ℕ
          new = take k mid ++ (part ++ drop (length mid - k) (drop k mid))

          go : (children : ℕ → List ℕ) (term : ℕ → Term) → Graph n children term → (cs : List ℕ) → Path n p end cs
              → (ts : Terms) → Expansions n children (at rep) cs ts → Put out 0 (terms_bytes ts) new left
          go children term g cs path nil x =
              let m = path_more n p end cs path l in
              let e : p ∷ m.0 ≡ [] = sym m.1 ∙ x in
              never cc
          go children term g cs path (cons t ts) x =
              let m = path_more n p end cs path l in
              let e : x.0 ∷ x.1 ≡ p ∷ m.0 = sym x.2 ∙ m.1 in
              let e₀ : x.0 ≡ p = cc in
              let e₁ : x.1 ≡ m.0 = cc in
              let a = w.each children term g t (subst (λ y. Expansion n children (at rep) (at rep y) t) e₀ x.3) in
              let b = ws.each children term g m.0 m.2 ts (subst (λ y. Expansions n children (at rep) y ts) e₁ x.4) in
              let z : k + (left - k) ≡ left = omega (arith, child_left.0) in
              subst (λ i. Put out 0 (term_bytes t ++ terms_bytes ts) new i) z (put_then a (put_tail b))
