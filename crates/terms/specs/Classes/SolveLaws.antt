-- What the code finds is `unify`'s answer: closed classes with lengths give the most general unifier, and else there is none.
use Rattle.std.specs.Prelude.{◌≡◌, ◌⊎◌, List, [], ◌∷◌, map, Bool, ℕ, zero, suc, ◌<◌}
use Rattle.std.proofs.Math.Path.{refl, ap, subst}
use Rattle.std.proofs.Common.{sym, ◌∙◌, ap₂, arith}
use Rattle.std.proofs.Math.Logic.{inl, inr}
use Rattle.std.proofs.Math.Bool.{true, false}
use Rattle.std.proofs.Math.Option.{none, some}
use Rattle.std.proofs.Math.Decide.{ℕ_discrete, dec_lt}
use Rattle.records.specs.Format.Syntax.{Term, Terms}
use Rattle.records.specs.Format.Syntax.Term.{var, app}
use Rattle.records.specs.Format.Syntax.Terms.{nil, cons}
use Rattle.records.specs.Format.Formed.{All}
use Rattle.records.specs.Ends.Above.{above}
use Rattle.terms.specs.Theory.Substitution.{Substitution}
use Rattle.terms.specs.Theory.Variables.{both_variables}
use Rattle.terms.specs.Theory.Unify.{bindings, unify}
use Rattle.terms.specs.Theory.MostGeneral.{MostGeneral}
use Rattle.terms.specs.Theory.UnifyLaws.{is_unify, most_general_unify}
use Rattle.terms.specs.Classes.Nodes.{at, Nodes, count, In, kind, node_number, IsVariable, IsSymbol, Children, terms_at, TableNode, variable, symbol, Graph}
use Rattle.terms.specs.Classes.NodesLaws.{not_both, variable?}
use Rattle.terms.specs.Classes.Classes.{Closed, Expands, NodeVariable, Reads}
use Rattle.terms.specs.Classes.ClassesLaws.{closed_most_general}
use Rattle.terms.specs.Classes.ClassState.{Apart, State, NodesCompared, Finished, Ended}
use Rattle.terms.specs.Classes.Lengths.{Expansion, Expansions, Measuring, Checked, Solution, SolvedTables}
use Rattle.terms.specs.Classes.MeasureLaws.{waiting_apart}

-- a class has at most one term
module _ (n : Nodes) (children : ℕ → List ℕ) (rep : ℕ → ℕ) where
  mutual
    pub expansion_unique : (t : Term) (r : ℕ) (u : Term) → Expansion n children rep r t → Expansion n children rep r u → t ≡ u
    expansion_unique (var x) r (var y) p q = ap var (p.1 ∙ sym q.1)
    expansion_unique (var x) r (app g us) p q = absurd (not_both n r p.0 q.0)
    expansion_unique (app f ts) r (var y) p q = absurd (not_both n r q.0 p.0)
    expansion_unique (app f ts) r (app g us) p q = ap₂ app (p.1 ∙ sym q.1) (expansions_unique ts (children r) us p.2 q.2)

    pub expansions_unique : (ts : Terms) (cs : List ℕ) (us : Terms) → Expansions n children rep cs ts → Expansions n children rep cs us → ts ≡ us
    expansions_unique nil cs nil p q = refl
    expansions_unique nil cs (cons u us) p q = let e : [] ≡ q.0 ∷ q.1 = sym p ∙ q.2 in cc
    expansions_unique (cons t ts) cs nil p q = let e : [] ≡ p.0 ∷ p.1 = sym q ∙ p.2 in cc
    expansions_unique (cons t ts) cs (cons u us) p q =
        let e : p.0 ∷ p.1 ≡ q.0 ∷ q.1 = sym p.2 ∙ q.2 in
        let e₀ : p.0 ≡ q.0 = cc in
        let e₁ : p.1 ≡ q.1 = cc in
        ap₂ cons (expansion_unique t (rep p.0) u p.3 (subst (λ x. Expansion n children rep (rep x) u) (sym e₀) q.3))
        (expansions_unique ts p.1 us p.4 (subst (λ l. Expansions n children rep l us) (sym e₁) q.4))

  -- a function that gives each class its term
  module _ (inside : (i : ℕ) → In n i → In n (rep i)) (term : ℕ → Term) (node : (i : ℕ) → In n i → TableNode n children term i)
      (expansion : ℕ → Term) (h : (i : ℕ) → In n i → Expansion n children rep (rep i) (expansion (rep i))) where
    expansions_at : (cs : List ℕ) → All (In n) cs → Expansions n children rep cs (terms_at expansion (map rep cs))
    expansions_at [] k = refl
    expansions_at (c ∷ cs) k = (c, cs, refl, h c k.0, expansions_at cs k.1)

    pub expansion_expands : Expands n children rep expansion
    expansion_expands = record { variables = lone; symbols = full }
      where
        lone : (i : ℕ) → In n i → IsVariable n (rep i) → expansion (rep i) ≡ var (node_number n (rep i))
        lone i l a = expansion_unique (expansion (rep i)) (rep i) (var (node_number n (rep i))) (h i l) (a, refl)

        full : (i : ℕ) → In n i → IsSymbol n (rep i) → expansion (rep i) ≡ app (node_number n (rep i)) (terms_at expansion (map rep (children (rep i))))
        full i l a =
            expansion_unique (expansion (rep i)) (rep i) (app (node_number n (rep i)) (terms_at expansion (map rep (children (rep i))))) (h i l) (
              a,
              refl,
              elim (node (rep i) (inside i l)) [
                | variable b q ↦ absurd (not_both n (rep i) b a)
                | symbol b q k ↦ expansions_at (children (rep i)) k
              ],
            )

-- whether x is the variable of a node
abbrev pub Unmet : Nodes → ℕ → ℕ → Type 0
Unmet n x m = (i : ℕ) → i < m → IsVariable n i → node_number n i ≡ x → ⊥

pub met? : (n : Nodes) (x m : ℕ) → ((i : ℕ) × (i < m) × IsVariable n i × (node_number n i ≡ x)) ⊎ Unmet n x m
met? n x zero = inr (λ i l. absurd (omega arith))
met? n x (suc m) = go (met? n x m) (variable? n m) (ℕ_discrete (node_number n m) x)
  where
    go : ((i : ℕ) × (i < m) × IsVariable n i × (node_number n i ≡ x)) ⊎ Unmet n x m → Dec (IsVariable n m) → Dec (node_number n m ≡ x)
        → ((i : ℕ) × (i < suc m) × IsVariable n i × (node_number n i ≡ x)) ⊎ Unmet n x (suc m)
    go (inl p) d e = inl (p.0, omega (arith, p.1), p.2, p.3)
    go (inr f) (yes a) (yes b) = inl (m, omega arith, a, b)
    go (inr f) (no a) e = inr (λ i l p q. elim (ℕ_discrete i m) [ yes k ↦ a (ap (kind n) (sym k) ∙ p) | no k ↦ f i (omega arith) p q ])
    go (inr f) (yes a) (no b) = inr (λ i l p q. elim (ℕ_discrete i m) [ yes k ↦ b (ap (node_number n) (sym k) ∙ q) | no k ↦ f i (omega arith) p q ])

module _ (n : Nodes) (s t : ℕ) (rep : List ℕ) (f : Finished n s t rep) (children : ℕ → List ℕ) (term : ℕ → Term) (g : Graph n children term) where
  settled : (i : ℕ) → In n i → IsSymbol n i
      → (node_number n i ≡ node_number n (at rep i))
      × ((cs ds : List ℕ) → Children n i cs → Children n (at rep i) ds → map (at rep) cs ≡ map (at rep) ds)
  unfolding NodesCompared
  settled i l a = f.settled i l a

  pub finished_closed : Closed n children s t (at rep)
  finished_closed = record {
    inside = f.state.partition.inside;
    agrees = λ i l. record {
      symbols = λ a.
          let b = (f.state.partition.better i l).symbols a in
          let c = settled i l a in
          (b, sym c.0, sym (c.1 (children i) (children (at rep i)) (g.path i l a) (g.path (at rep i) (f.state.partition.inside i l) b)));
      variables = λ a b. (f.state.partition.better i l).variables (λ z. not_both n i a z) (λ z. not_both n (at rep i) b z);
    };
    joined = f.state.joined;
    shared = f.state.partition.shared;
  }

module _ (n : Nodes) (s t : ℕ) (rep size : List ℕ) (solution : Solution n s t rep size)
    (children : ℕ → List ℕ) (term : ℕ → Term) (g : Graph n children term) where
  inside : (i : ℕ) → In n i → In n (at rep i)
  inside = solution.finished.state.partition.inside

  -- the term of the class of r
  class_term_by : (r : ℕ) → Dec (In n r) → Dec (at size r ≡ 0) → Term
  class_term_by r (yes l) (no z) = (solution.measuring.measured r l z children term g).0
  class_term_by r (yes l) (yes z) = var 0
  class_term_by r (no l) d = var 0

  class_term : ℕ → Term
  class_term r = class_term_by r (dec_lt r (count n)) (ℕ_discrete (at size r) 0)

  class_term_by_expansion : (r : ℕ) (d : Dec (In n r)) (e : Dec (at size r ≡ 0)) → In n r → (at size r ≡ 0 → ⊥)
      → Expansion n children (at rep) r (class_term_by r d e)
  unfolding class_term_by
  class_term_by_expansion r (yes l) (no z) a b = (solution.measuring.measured r l z children term g).1
  class_term_by_expansion r (yes l) (yes z) a b = absurd (b z)
  class_term_by_expansion r (no l) d a b = absurd (l a)

  class_expansion : (i : ℕ) → In n i → Expansion n children (at rep) (at rep i) (class_term (at rep i))
  unfolding class_term
  class_expansion i l =
      class_term_by_expansion (at rep i) (dec_lt (at rep i) (count n)) (ℕ_discrete (at size (at rep i)) 0) (inside i l)
      (solution.complete.all (at rep i) (inside i l) (solution.finished.state.partition.root i l))

  found_by : (x : ℕ) → NodeVariable n x ⊎ Unmet n x (count n) → Term
  found_by x (inl p) = class_term (at rep p.0)
  found_by x (inr h) = var x

  -- the substitution that the classes give
  pub found : Substitution
  found x = found_by x (met? n x (count n))

  found_by_met : (i : ℕ) → In n i → IsVariable n i → (d : NodeVariable n (node_number n i) ⊎ Unmet n (node_number n i) (count n))
      → found_by (node_number n i) d ≡ class_term (at rep i)
  unfolding found_by
  found_by_met i l a (inl p) = ap class_term (solution.finished.state.partition.shared p.0 i p.1 l p.2 a p.3)
  found_by_met i l a (inr h) = absurd (h i l a refl)

  found_by_each : (x : ℕ) (d : NodeVariable n x ⊎ Unmet n x (count n)) → NodeVariable n x ⊎ (found_by x d ≡ var x)
  unfolding found_by
  found_by_each x (inl p) = inl p
  found_by_each x (inr h) = inr refl

  found_reads : Reads n (at rep) class_term found
  unfolding found
  found_reads = record {
    met = λ i l a. found_by_met i l a (met? n (node_number n i) (count n));
    each = λ x. found_by_each x (met? n x (count n));
  }

  pub found_most_general : MostGeneral (term s) (term t) found
  found_most_general =
      closed_most_general n children term g.node s t (at rep) class_term found
      (finished_closed n s t rep solution.finished children term g)
      (expansion_expands n children (at rep) inside term g.node class_term class_expansion)
      found_reads
      solution.finished.state.partition.s_in
      solution.finished.state.partition.t_in
      (λ θ u i l. solution.finished.state.partition.sound i l children term g θ u)

  -- it gives each variable of the nodes the term of its class
  pub found_expansion : (i : ℕ) → In n i → IsVariable n i → Expansion n children (at rep) (at rep i) (found (node_number n i))
  found_expansion i l a = subst (Expansion n children (at rep) (at rep i)) (sym (found_reads.met i l a)) (class_expansion i l)

  -- and leaves the others
  unmet_by : (x : ℕ) → Unmet n x (count n) → (d : NodeVariable n x ⊎ Unmet n x (count n)) → found_by x d ≡ var x
  unfolding found_by
  unmet_by x h (inl p) = absurd (h p.0 p.1 p.2 p.3)
  unmet_by x h (inr k) = refl

  pub found_unmet : (x : ℕ) → Unmet n x (count n) → found x ≡ var x
  unfolding found
  found_unmet x h = unmet_by x h (met? n x (count n))

  -- the theorem
  pub solution_unify : unify (term s) (term t) ≡ some (bindings 0 (above (both_variables (term s) (term t))) found)
  solution_unify = most_general_unify (term s) (term t) found found_most_general

-- where no substitution makes the terms equal, whatever terms the table holds, `unify` gives none
pub apart_unify : (n : Nodes) (s t : ℕ) (children : ℕ → List ℕ) (term : ℕ → Term) → Graph n children term → Apart n s t
    → unify (term s) (term t) ≡ none
apart_unify n s t children term g a = is_unify (term s) (term t) none (λ θ u. a children term g θ u)

-- what closing the classes and checking their lengths comes to
module _ (n : Nodes) (s t : ℕ) (rep : List ℕ) (r : Bool) (h : Ended n s t rep r) where
  ended_finished : r ≡ true → Finished n s t rep
  unfolding Ended
  ended_finished e = subst (Ended n s t rep) e h

  pub ended_state : r ≡ true → State n s t rep
  ended_state e = (ended_finished e).state

  pub ended_solved : r ≡ false → (size : List ℕ) → SolvedTables n s t rep size false
  unfolding Ended SolvedTables
  ended_solved e size = subst (Ended n s t rep) e h

  pub checked_solved : (size : List ℕ) → r ≡ true → Measuring n rep size (count n) → (b : Bool) → Checked n rep size b → SolvedTables n s t rep size b
  unfolding Checked SolvedTables
  checked_solved size e m true c = record { finished = ended_finished e; measuring = m; complete = c }
  checked_solved size e m false c = waiting_apart n s t rep size (ended_finished e) m c.0 c.1 c.2
