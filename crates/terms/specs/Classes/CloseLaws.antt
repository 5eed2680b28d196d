-- Closing the classes: what comparing a node with its representative tells, uniting two classes, and the loop over all nodes.
use Rattle.std.specs.Prelude.{◌≡◌, refl, ◌⊎◌, [], ◌∷◌, map, Bool, true, false, ℕ, suc, ◌+◌, ◌-◌, ◌*◌, ◌≤◌, ◌<◌, min, leb}
use Rattle.std.proofs.Common.{sym, ◌∙◌, ap, mul-le-mul_right, arith, below_more, leb-true, leb-false}
use Rattle.std.proofs.Math.Path.{subst}
use Rattle.std.proofs.Math.Logic.{inl, inr}
use mathlib.Core.List.{List}
use Rattle.std.proofs.Math.ListN.{length}
use Rattle.records.specs.Format.Syntax.{Term}
use Rattle.terms.specs.declared.classes.Comparison.{Comparison}
use Rattle.terms.specs.declared.classes.Comparison.TheVariants.{Same, Clash, Differ}
use Rattle.terms.specs.declared.classes.Turn.{Turn}
use Rattle.terms.specs.declared.classes.Turn.TheVariants.{Fine, Joined, Stuck}
use Rattle.terms.specs.Theory.Substitution.{Substitution, substitute_all}
use Rattle.terms.specs.Theory.Mgu.{Unifies}
use Rattle.terms.specs.Classes.Nodes.{at, Nodes, count, In, node_number, node_next, IsVariable, IsSymbol, Path, Children, Table, terms_at, Graph}
use Rattle.terms.specs.Classes.NodesLaws.{not_both}
use Rattle.terms.specs.Classes.Classes.{Respects}
use Rattle.terms.specs.Classes.ClassesLaws.{same_children, paired_equal, same_class}
use Rattle.terms.specs.Classes.ClassState.{
  Apart,
  Forced,
  Better,
  Partition,
  State,
  merged,
  Relabelled,
  KeptBelow,
  Preferred,
  Unitable,
  United,
  Comparable,
  NodesCompared,
  AgreesWithRepresentative,
  StillAgree,
  roots,
  Visited,
  Ended,
}
use Rattle.terms.specs.Classes.RelabelLaws.{relabelled_fewer, relabelled_one, relabelled_joined, relabelled_partition}

-- of two variables the one with the lower number is preferred
pub preferred_lower : (n : Nodes) (a b : ℕ) → IsVariable n a → IsVariable n b → Preferred n a b (leb (node_number n a) (node_number n b))
unfolding Preferred
preferred_lower n a b va vb = go (leb (node_number n a) (node_number n b)) refl
  where
    go : (d : Bool) → leb (node_number n a) (node_number n b) ≡ d → Preferred n a b d
    go true e = record { symbols = λ h. absurd (not_both n b vb h); variables = λ h k. leb-true (node_number n a) (node_number n b) e }
    go false e = record {
      symbols = λ h. absurd (not_both n a va h);
      variables = λ h k. let z = leb-false (node_number n a) (node_number n b) e in omega arith;
    }

-- a symbol is preferred to any node
pub preferred_left : (n : Nodes) (a b : ℕ) → IsSymbol n a → Preferred n a b true
unfolding Preferred
preferred_left n a b h = record { symbols = λ k. h; variables = λ k m. absurd (m h) }

pub preferred_right : (n : Nodes) (a b : ℕ) → IsSymbol n b → Preferred n a b false
unfolding Preferred
preferred_right n a b h = record { symbols = λ k. h; variables = λ k m. absurd (m h) }

-- the classes of p and q become one by putting the less preferred into the other
module _ (n : Nodes) (p q : ℕ) (old new : List ℕ) (r : Bool) (k : Preferred n (at old p) (at old q) r) where
  pub united_left : r ≡ true → Relabelled (at old p) (at old q) old new → United n p q old new
  unfolding Preferred
  united_left e l =
      let b : Better n (at old p) (at old q) = rw e at k in
      record { kept = at old p; gone = at old q; which = inl (refl, refl); better = b; labels = l }

  pub united_right : r ≡ false → Relabelled (at old q) (at old p) old new → United n p q old new
  unfolding Preferred
  united_right e l =
      let b : Better n (at old q) (at old p) = rw e at k in
      record { kept = at old q; gone = at old p; which = inr (refl, refl); better = b; labels = l }

-- what uniting the classes of p and q gives: where s and t were in one class they still are, p and q are, and there are fewer classes
pub record Unites (n : Nodes) (s t p q : ℕ) (old new : List ℕ) : Type 0 where
  pub partition : Partition n s t new
  pub still : at old s ≡ at old t → at new s ≡ at new t
  pub one : at new p ≡ at new q
  pub fewer : roots 0 new < roots 0 old

module _ (n : Nodes) (s t : ℕ) (old new : List ℕ) (part : Partition n s t old) where
  unites_into : (x y : ℕ) → In n x → In n y → (at old x ≡ at old y → ⊥) → Forced n s t (at old x) (at old y) → Better n (at old x) (at old y)
      → Relabelled (at old x) (at old y) old new → Unites n s t x y old new
  unites_into x y lx ly other forced best r =
      let a_in = part.inside x lx in
      let b_in = part.inside y ly in
      let a_root = part.root x lx in
      let b_root = part.root y ly in
      record {
        partition = relabelled_partition n s t old new (at old x) (at old y) part r a_in b_in a_root b_root other best forced;
        still = relabelled_joined n s t old new (at old x) (at old y) part r a_in b_in a_root b_root other s t part.s_in part.t_in;
        one = relabelled_one n s t old new (at old x) (at old y) part r a_in b_in a_root b_root other x y lx ly refl refl;
        fewer = relabelled_fewer n s t old new (at old x) (at old y) part r a_in b_in a_root b_root other;
      }

  pub united_unites : (p q : ℕ) → In n p → In n q → (at old p ≡ at old q → ⊥) → Forced n s t p q → United n p q old new → Unites n s t p q old new
  united_unites p q lp lq other forced u = go u.kept u.gone u.which u.better u.labels
    where
      whole : Forced n s t (at old p) (at old q)
      whole children term g θ k =
          part.sound p lp children term g θ k ∙ forced children term g θ k ∙ sym (part.sound q lq children term g θ k)

      go : (a b : ℕ) → ((a ≡ at old p) × (b ≡ at old q)) ⊎ ((a ≡ at old q) × (b ≡ at old p)) → Better n a b → Relabelled a b old new
          → Unites n s t p q old new
      go a b (inl e) x r = unites_into p q lp lq other whole (rw (e.0, e.1) at x) (rw (e.0, e.1) at r)
      go a b (inr e) x r =
          let z = unites_into q p lq lp (λ z. other (sym z)) (λ children term g θ k. sym (whole children term g θ k))
          (rw (e.0, e.1) at x) (rw (e.0, e.1) at r) in
          record { partition = z.partition; still = z.still; one = sym z.one; fewer = z.fewer }

-- what a function makes of old labels it makes of a row of them
path_labels : (n : Nodes) (old new : ℕ → ℕ) (f : ℕ → ℕ) (p e : ℕ) (cs : List ℕ) → ((c : ℕ) → c < e → new c ≡ f (old c)) → Path n p e cs
    → map new cs ≡ map f (map old cs)
path_labels n old new f p e [] h k = refl
path_labels n old new f p e (c ∷ cs) h k =
    let x : new c ≡ f (old c) = h c (omega (arith, k.0, k.1)) in
    let y : map new cs ≡ map f (map old cs) = path_labels n old new f (node_next n p) e cs h k.2 in
    cc

-- a node that keeps its representative agrees with it as before
module _ (n : Nodes) (s t : ℕ) (table : Table n) (old new : List ℕ) (part : Partition n s t old) (m : ℕ) (kept : KeptBelow n m old new) where
  module _ (p q : ℕ) (u : United n p q old new) where
    labels : (i : ℕ) → In n i → (cs : List ℕ) → Children n i cs → map (at new) cs ≡ map (merged u.kept u.gone) (map (at old) cs)
    labels i l cs h =
        let z = table.within i l in
        path_labels n (at old) (at new) (merged u.kept u.gone) (i + 1) (node_next n i) cs (λ c k. u.labels.each c (omega (arith, part.long))) h

    pub still_agree : StillAgree n m old new
    unfolding NodesCompared
    still_agree k l i agrees h =
        let was : NodesCompared n old k (at old k) Same = agrees h in
        rw (kept k l (omega (arith, part.long)) ((part.better k i).symbols h))
        (was.0, λ cs ds x y. labels k i cs x ∙ ap (map (merged u.kept u.gone)) (was.1 cs ds x y) ∙ sym (labels (at old k) (part.inside k i) ds y))

-- two nodes of a partition may be united
pub unitable : (n : Nodes) (s t : ℕ) (rep : List ℕ) → Partition n s t rep → (p q : ℕ) → In n p → In n q
    → Unitable n rep p q
unitable n s t rep part p q lp lq =
    let x = part.inside p lp in
    let y = part.inside q lq in
    record {
      p_in = omega (arith, part.long);
      q_in = omega (arith, part.long);
      p_rep = x;
      q_rep = y;
    }

-- what the comparison of node i with its representative tells
module _ (n : Nodes) (s t : ℕ) (rep : List ℕ) (st : State n s t rep) where
  pub state_respects : (children : ℕ → List ℕ) (term : ℕ → Term) → Graph n children term → (θ : Substitution) → Unifies (term s) (term t) θ
      → Respects n term (at rep) θ
  state_respects children term g θ u i l = st.partition.sound i l children term g θ u

  module _ (i : ℕ) (l : In n i) (a : IsSymbol n i) where
    rep_in : In n (at rep i)
    rep_in = st.partition.inside i l

    rep_symbol : IsSymbol n (at rep i)
    rep_symbol = (st.partition.better i l).symbols a

    alike : (children : ℕ → List ℕ) (term : ℕ → Term) → Graph n children term → (θ : Substitution) → Unifies (term s) (term t) θ
        → (node_number n (at rep i) ≡ node_number n i)
        × (substitute_all θ (terms_at term (children (at rep i))) ≡ substitute_all θ (terms_at term (children i)))
    alike children term g θ u =
        same_class n children term g.node θ (at rep) (state_respects children term g θ u) i l rep_in a rep_symbol

    clash_apart : NodesCompared n rep i (at rep i) Clash → Apart n s t
    unfolding NodesCompared
    clash_apart c children term g θ u = go c (alike children term g θ u)
      where
        go : (node_number n i ≡ node_number n (at rep i) → ⊥)
            ⊎ ((cs ds : List ℕ) → Children n i cs → Children n (at rep i) ds → length cs ≡ length ds → ⊥)
            → (node_number n (at rep i) ≡ node_number n i)
            × (substitute_all θ (terms_at term (children (at rep i))) ≡ substitute_all θ (terms_at term (children i))) → ⊥
        go (inl h) z = h (sym z.0)
        go (inr f) z = f (children i) (children (at rep i)) (g.path i l a) (g.path (at rep i) rep_in rep_symbol)
            (same_children term θ (children i) (children (at rep i)) (sym z.1))

    differ_forced : (p q : ℕ) → NodesCompared n rep i (at rep i) (Differ p q) → Forced n s t p q
    unfolding NodesCompared
    differ_forced p q c children term g θ u =
        paired_equal term θ p q (children i) (children (at rep i)) (sym (alike children term g θ u).1)
        (c.3 (children i) (children (at rep i)) (g.path i l a) (g.path (at rep i) rep_in rep_symbol))

    -- the symbol i may be compared with its representative
    pub state_comparable : Table n → Comparable n rep i (at rep i)
    state_comparable table = record {
      table = table;
      i_in = l;
      r_in = rep_in;
      rep_long = st.partition.long;
    }

    -- the turn at the symbol i, by the comparison
    module _ (o : Comparison) (c : NodesCompared n rep i (at rep i) o) where
      compared : (r : Comparison) → o ≡ r → NodesCompared n rep i (at rep i) r
      compared r e = subst (NodesCompared n rep i (at rep i)) e c

      pub turned_stuck : o ≡ Clash → (new : List ℕ) → Visited n s t i rep new Stuck
      unfolding Visited
      turned_stuck e new = clash_apart (compared Clash e)

      pub turned_fine : o ≡ Same → Visited n s t i rep rep Fine
      unfolding Visited
      turned_fine e = (refl, (λ h. compared Same e))

      module _ (p q : ℕ) (e : o ≡ Differ p q) where
        pair : (In n p × In n q) × ((at rep p ≡ at rep q → ⊥) × Forced n s t p q)
        unfolding NodesCompared
        pair = let d = compared (Differ p q) e in ((d.0, d.1), (d.2, differ_forced p q d))

        pub differ_unitable : Unitable n rep p q
        differ_unitable = unitable n s t rep st.partition p q pair.0.0 pair.0.1

        pub turned_joined : (new : List ℕ) → United n p q rep new → (m : ℕ) → StillAgree n m rep new → Visited n s t i rep new (Joined m)
        unfolding Visited
        turned_joined new u m still =
            let z = united_unites n s t rep new st.partition p q pair.0.0 pair.0.1 pair.1.0 pair.1.1 u in
            (record { partition = z.partition; joined = z.still st.joined }, z.fewer, still)

-- a variable's node has nothing to agree in
pub turned_variable : (n : Nodes) (s t i : ℕ) (rep : List ℕ) → IsVariable n i → Visited n s t i rep rep Fine
unfolding Visited
turned_variable n s t i rep h = (refl, (λ a. absurd (not_both n i h a)))

-- the loop: the nodes below i agree with their representatives
pub record Closing (n : Nodes) (s t : ℕ) (rep : List ℕ) (i : ℕ) : Type 0 where
  pub state : State n s t rep
  pub bound : i ≤ count n
  pub settled : (k : ℕ) → k < i → AgreesWithRepresentative n rep k

-- its measure: the classes, and then the nodes that are left
abbrev pub closing_left : List ℕ → ℕ → ℕ → ℕ
closing_left rep m i = roots 0 rep * suc m + (m - i)

pub closing_start : (n : Nodes) (s t : ℕ) (rep : List ℕ) → State n s t rep → Closing n s t rep 0
closing_start n s t rep st = record { state = st; bound = omega arith; settled = λ k h. absurd (omega arith) }

pub closing_end : (n : Nodes) (s t : ℕ) (rep : List ℕ) (i : ℕ) → Closing n s t rep i → count n ≤ i → Ended n s t rep true
unfolding Ended
closing_end n s t rep i c l = record { state = c.state; settled = λ k m. c.settled k (omega arith) }

module _ (n : Nodes) (s t i : ℕ) (rep new : List ℕ) (o : Turn) (h : Visited n s t i rep new o) where
  fine : o ≡ Fine → (new ≡ rep) × AgreesWithRepresentative n rep i
  unfolding Visited
  fine e = subst (Visited n s t i rep new) e h

  joined : (m : ℕ) → o ≡ Joined m → State n s t new × (roots 0 new < roots 0 rep) × StillAgree n m rep new
  unfolding Visited
  joined m e = subst (Visited n s t i rep new) e h

  pub closing_fine : o ≡ Fine → Closing n s t rep i → In n i → Closing n s t new (i + 1)
  closing_fine e c l =
      rw (fine e).0 (record { state = c.state; bound = omega arith; settled = below_more _ _ c.settled (fine e).1 })

  pub closing_joined : (m : ℕ) → o ≡ Joined m → Closing n s t new 0
  closing_joined m e = closing_start n s t new (joined m e).0

  -- the nodes below m agree as they did
  pub closing_back : (m : ℕ) → o ≡ Joined m → Closing n s t rep i → (j : ℕ) → j ≤ min i m → Closing n s t new j
  closing_back m e c j x = record {
    state = (closing_joined m e).state;
    bound = omega (arith, c.bound, x);
    settled = λ k l. (joined m e).2 k (omega (arith, x)) (omega (arith, c.bound, x)) (c.settled k (omega (arith, x)));
  }

  pub closing_stuck : o ≡ Stuck → (rest : List ℕ) → Ended n s t rest false
  unfolding Visited Ended
  closing_stuck e rest = subst (Visited n s t i rep new) e h

  pub fine_less : o ≡ Fine → In n i → closing_left new (count n) (i + 1) < closing_left rep (count n) i
  fine_less e l = rw (fine e).0 (omega arith)

  pub joined_less : (m : ℕ) → o ≡ Joined m → (j : ℕ) → closing_left new (count n) j < closing_left rep (count n) i
  joined_less m e j =
      let z : suc (roots 0 new) * suc (count n) ≤ roots 0 rep * suc (count n) = mul-le-mul_right (suc (count n)) (joined m e).1 in
      omega arith
