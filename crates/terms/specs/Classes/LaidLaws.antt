-- A table that holds two terms: it is nested, its graph is that of the terms' nodes, and its numbers are small.
use Rattle.std.specs.Prelude.{◌≡◌, refl, List, [], ◌∷◌, ℕ, suc, ◌+◌, ◌-◌, ◌≤◌, ◌<◌, length}
use Rattle.std.proofs.Common.{sym, ◌∙◌, ap, ap₂, subst, arith}
use Rattle.std.proofs.Math.Decide.{dec_lt}
use Rattle.std.proofs.Math.ListN.{get_or-eq_default}
use Rattle.records.specs.Format.Syntax.{Term, Terms, arity}
use Rattle.records.specs.Format.Syntax.Term.{var, app}
use Rattle.records.specs.Format.Syntax.Terms.{nil, cons}
use Rattle.records.specs.Format.Formed.{TermFormed, All}
use Rattle.terms.specs.Classes.Nodes.{Nodes, count, In, blank, kind, node_number, node_next, IsSymbol, Path, Children, Table, terms_at, TableNode, variable, symbol, Graph}
use Rattle.records.specs.Format.Never.{never}
use Rattle.terms.specs.declared.nodes.NodeKind.TheVariants.{Symbol}
use Rattle.terms.specs.Classes.NodesLaws.{not_both}
use Rattle.terms.specs.Classes.Forest.{joined_forest, node_count, nodes_count, term_kind, term_number, forest_after, forest_first, term_at}
use Rattle.terms.specs.Classes.ForestLaws.{after_add, after_term, count_positive, split, formed_at}
use Rattle.terms.specs.Classes.LinkLaws.{NodeSplit, node_split}
use Rattle.terms.specs.Classes.Laid.{pair, TermsLaid, SmallKind, SmallNodes}

-- the arguments of a term
abbrev arguments : Term → Terms
arguments (var v) = nil
arguments (app f ts) = ts

-- the first nodes of the terms of a list that starts at node p
abbrev starts : Terms → ℕ → List ℕ
starts nil p = []
starts (cons t ts) p = p ∷ starts ts (p + node_count t)

starts_length : (ts : Terms) (p : ℕ) → length (starts ts p) ≡ arity ts
starts_length nil p = refl
starts_length (cons t ts) p = ap suc (starts_length ts (p + node_count t))

module _ (n : Nodes) (s t : Term) (m : ℕ) (laid : TermsLaid n s t m) where
  -- the terms of the nodes, and their children
  abbrev pub term_of : ℕ → Term
  term_of i = term_at (pair s t) i

  abbrev pub children_of : ℕ → List ℕ
  children_of i = starts (arguments (term_of i)) (i + 1)

  inside : (i : ℕ) → In n i → i < nodes_count (pair s t)
  inside i l = omega (arith, laid.long)

  kind_is : (i : ℕ) → In n i → kind n i ≡ term_kind (term_of i)
  kind_is i l = (laid.heads i l).kind_is

  number_is : (i : ℕ) → In n i → node_number n i ≡ term_number (term_of i)
  number_is i l = (laid.heads i l).number_is

  next_is : (i : ℕ) → In n i → node_next n i ≡ i + node_count (term_of i)
  next_is i l = laid.linked i (omega arith) (inside i l)

  whole : (i : ℕ) → In n i → NodeSplit (pair s t) i (term_of i)
  whole i l = node_split (pair s t) i (inside i l)

  next_within : (i : ℕ) → In n i → node_next n i ≤ count n
  next_within i l = omega (arith, next_is i l, (whole i l).total, laid.long)

  -- the nodes of a list of terms
  module _ (rest : Terms) where
    next_list : (u : Term) (us : Terms) (p : ℕ) → forest_after p (pair s t) ≡ cons u (joined_forest us rest) → forest_after (p + node_count u) (pair s t) ≡ joined_forest us rest
    next_list u us p h = after_add p (node_count u) (pair s t) ∙ ap (forest_after (node_count u)) h ∙ after_term u (joined_forest us rest)

    starts_terms : (us : Terms) (p : ℕ) → forest_after p (pair s t) ≡ joined_forest us rest → terms_at term_of (starts us p) ≡ us
    starts_terms nil p h = refl
    starts_terms (cons u us) p h = ap₂ cons (ap forest_first h) (starts_terms us (p + node_count u) (next_list u us p h))

    starts_in : (us : Terms) (p : ℕ) → p + nodes_count us ≤ count n → All (In n) (starts us p)
    starts_in nil p l = tt
    starts_in (cons u us) p l = let z = count_positive u in (omega arith, starts_in us (p + node_count u) (omega arith))

    starts_path : (us : Terms) (p : ℕ) → forest_after p (pair s t) ≡ joined_forest us rest → p + nodes_count us ≤ count n
        → Path n p (p + nodes_count us) (starts us p)
    starts_path nil p h l = omega arith
    starts_path (cons u us) p h l =
        let z = count_positive u in
        let e : node_next n p ≡ p + node_count u = next_is p (omega arith) ∙ ap (λ x. p + node_count (forest_first x)) h in
        let k = starts_path us (p + node_count u) (next_list u us p h) (omega arith) in
        let d : p + node_count u + nodes_count us ≡ p + (node_count u + nodes_count us) = omega arith in (
          refl,
          omega arith,
          subst (λ q. Path n q (p + (node_count u + nodes_count us)) (starts us (p + node_count u))) (sym e)
              (subst (λ q. Path n (p + node_count u) q (starts us (p + node_count u))) d k),
        )

  node_of : (i : ℕ) → In n i → (u : Term) → term_of i ≡ u → NodeSplit (pair s t) i u
      → TableNode n children_of term_of i × (IsSymbol n i → Children n i (children_of i))
  node_of i l (var v) e h = (
    variable (kind_is i l ∙ ap term_kind e) (e ∙ ap var (sym (number_is i l ∙ ap term_number e))),
    (λ a. absurd (not_both n i (kind_is i l ∙ ap term_kind e) a)),
  )
  node_of i l (app f us) e h =
      let b : forest_after (i + 1) (pair s t) ≡ joined_forest us h.rest = after_add i 1 (pair s t) ∙ ap (forest_after 1) h.here in
      let r : i + 1 + nodes_count us ≤ count n = omega (arith, h.total, laid.long) in
      let k : children_of i ≡ starts us (i + 1) = ap (λ u. starts (arguments u) (i + 1)) e in
      let x : node_next n i ≡ i + 1 + nodes_count us = next_is i l ∙ ap (λ u. i + node_count u) e ∙ omega arith in (
        symbol (kind_is i l ∙ ap term_kind e ∙ ap Symbol (sym (ap length k ∙ starts_length us (i + 1))))
            (e ∙ ap₂ app (sym (number_is i l ∙ ap term_number e)) (sym (ap (terms_at term_of) k ∙ starts_terms h.rest us (i + 1) b)))
            (subst (All (In n)) (sym k) (starts_in h.rest us (i + 1) r)),
        (λ a. subst (Children n i) (sym k)
            (subst (λ q. Path n (i + 1) q (starts us (i + 1))) (sym x) (starts_path h.rest us (i + 1) b r))),
      )

  pub laid_graph : Graph n children_of term_of
  laid_graph = record {
    node = λ i l. (node_of i l (term_of i) refl (whole i l)).0;
    path = λ i l. (node_of i l (term_of i) refl (whole i l)).1;
  }

  -- the nodes inside a subtree end within it
  inner_by : (i p : ℕ) → In n i → i < p → (u : Term) → term_of i ≡ u → NodeSplit (pair s t) i u → p < i + node_count u → node_next n p ≤ i + node_count u
  inner_by i p l a (var v) e h b = absurd (omega arith)
  inner_by i p l a (app f us) e h b =
      let j = p - (i + 1) in
      let d : p ≡ i + 1 + j = omega arith in
      let k = split j us (omega arith) in
      let q : forest_after p (pair s t) ≡ cons k.term (joined_forest k.rest h.rest) =
      ap (λ x. forest_after x (pair s t)) d ∙ after_add (i + 1) j (pair s t)
      ∙ ap (forest_after j) (after_add i 1 (pair s t) ∙ ap (forest_after 1) h.here) ∙ k.here h.rest in
      let z : term_of p ≡ k.term = ap forest_first q in
      omega (arith, next_is p (omega (arith, h.total, laid.long)), ap node_count z, k.total)

  pub laid_table : Table n
  laid_table = record {
    behind = λ i l. omega (arith, next_is i l, count_positive (term_of i));
    within = next_within;
    inner = λ i p a b. go i p a b (dec_lt i (count n));
  }
    where
      go : (i p : ℕ) → i < p → p < node_next n i → Dec (In n i) → node_next n p ≤ node_next n i
      go i p a b (yes l) = let e = next_is i l in rw e (inner_by i p l a (term_of i) refl (whole i l) (omega arith))
      go i p a b (no l) = let z : node_next n i ≡ 0 = ap (λ x. x.next) (get_or-eq_default n blank (omega arith)) in absurd (omega arith)

  pub laid_second : term_of m ≡ t
  laid_second = ap (λ i. term_at (pair s t) i) laid.middle ∙ ap forest_first (after_term s (cons t nil))

  pub laid_inside : (0 < count n) × (m < count n)
  laid_inside =
      let x = count_positive s in
      let y = count_positive t in
      (omega (arith, laid.long), omega (arith, laid.long, laid.middle))

  pub laid_small : TermFormed s → TermFormed t → SmallNodes n
  laid_small f g = record { kinds = λ i l. (here i l).0; numbers = λ i l. (here i l).1 }
    where
      by : (u : Term) → TermFormed u → SmallKind (term_kind u) × (term_number u < 65536)
      by (var v) h = ((λ a e. never cc), h)
      by (app k us) h = ((λ a e. let z : arity us ≡ a = cc in omega (arith, h.1)), h.0)

      here : (i : ℕ) → In n i → SmallKind (kind n i) × (node_number n i < 65536)
      here i l =
          let h = by (term_of i) (formed_at i (pair s t) (inside i l) (f, (g, tt))) in
          ((λ a e. h.0 a (sym (kind_is i l) ∙ e)), omega (arith, number_is i l))
