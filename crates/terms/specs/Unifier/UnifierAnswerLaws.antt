-- What is decided is the answer of `unify`: the laws of the last functions.
use Rattle.std.specs.Prelude.{◌≡◌, refl, Bool, true, false, Option, Some, None, List, ◌++◌, ℕ, ◌+◌, ◌≤◌, ◌<◌, length, take}
use Rattle.std.proofs.Math.Path.{sym, subst}
use Rattle.std.proofs.Common.{◌∙◌, ap, arith, length-append, take_at}
use Rattle.std.proofs.Math.Option.{none, some}
use Rattle.records.specs.Format.Syntax.{Term, Binding}
use Rattle.records.specs.Format.Encode.{word, binding_bytes, each, counted}
use Rattle.records.specs.Format.Formed.{TermFormed}
use Rattle.records.specs.Writing.Patched.{Put}
use Rattle.records.specs.Writing.PatchedLaws.{put_ahead}
use Rattle.records.specs.Ends.Above.{above}
use Rattle.terms.specs.Theory.Substitution.{Substitution}
use Rattle.terms.specs.Theory.Variables.{both_variables}
use Rattle.terms.specs.Theory.VariablesLaws.{either_above}
use Rattle.terms.specs.Theory.Unify.{bindings, unify}
use Rattle.terms.specs.Theory.MostGeneralLaws.{outside_stays}
use Rattle.terms.specs.Classes.Nodes.{at, Nodes, count, Table}
use Rattle.terms.specs.Classes.Lengths.{Solution, SolvedTables}
use Rattle.terms.specs.Classes.SolveLaws.{found, found_most_general, found_expansion, found_unmet, solution_unify, apart_unify}
use Rattle.terms.specs.Classes.LayLaws.{part_length}
use Rattle.terms.specs.Classes.Laid.{TermsLaid, Lay, Lays}
use Rattle.terms.specs.Classes.LaidLaws.{term_of, children_of, laid_graph, laid_table, laid_second, laid_inside, laid_small}
use Rattle.terms.specs.Unifier.ClassTerms.{ClassTable}
use Rattle.terms.specs.Unifier.UnifierAnswer.{ClassesGive, PairsLength, PairsFit, PairsPut, HoldsUnifier, UnifierFits, UnifierPut, TableUnifier, Decidable, Decides, Unifiable, UnificationAnswer, Unification, Unifications}
use Rattle.terms.specs.declared.load.NodeCounts.{NodeCounts}
use Rattle.terms.specs.declared.unifier.PairsWritten.{PairsWritten}
use Rattle.terms.specs.declared.unifier.UnifierFound.{UnifierFound}

module _ (n : Nodes) (s t : Term) (m : ℕ) (laid : TermsLaid n s t m) (f : TermFormed s) (h : TermFormed t) where
  both : unify s t ≡ unify (term_of n s t m laid 0) (term_of n s t m laid m)
  both = ap (unify s) (sym (laid_second n s t m laid))

  -- no unifier
  pub none_found : (rep size : List ℕ) → SolvedTables n 0 m rep size false → unify s t ≡ none
  unfolding SolvedTables
  none_found rep size a = both ∙ apart_unify n 0 m (children_of n s t m laid) (term_of n s t m laid) (laid_graph n s t m laid) a

  module _ (rep size : List ℕ) (solution : Solution n 0 m rep size) where
    pub solution_classes : ClassTable n rep size
    solution_classes = record {
      table = laid_table n s t m laid;
      small = laid_small n s t m laid f h;
      rep_long = solution.finished.state.partition.long;
      size_long = solution.measuring.long;
      inside = solution.finished.state.partition.inside;
      known = λ i l. solution.complete.all (at rep i) (solution.finished.state.partition.inside i l) (solution.finished.state.partition.root i l);
      measured = solution.measuring.measured;
      capped = solution.measuring.capped;
      children = children_of n s t m laid;
      term = term_of n s t m laid;
      graph = laid_graph n s t m laid;
    }

    θ : Substitution
    θ = found n 0 m rep size solution (children_of n s t m laid) (term_of n s t m laid) (laid_graph n s t m laid)

    top : ℕ
    top = above (both_variables (term_of n s t m laid 0) (term_of n s t m laid m))

    one_found : unify s t ≡ some (bindings 0 top θ)
    unfolding θ top
    one_found = both ∙ solution_unify n 0 m rep size solution (children_of n s t m laid) (term_of n s t m laid) (laid_graph n s t m laid)

    its_gives : ClassesGive n rep (bindings 0 top θ)
    unfolding θ top
    its_gives = record {
      children = children_of n s t m laid;
      term = term_of n s t m laid;
      graph = laid_graph n s t m laid;
      θ = θ;
      met = found_expansion n 0 m rep size solution (children_of n s t m laid) (term_of n s t m laid) (laid_graph n s t m laid);
      unmet = found_unmet n 0 m rep size solution (children_of n s t m laid) (term_of n s t m laid) (laid_graph n s t m laid);
      top = top;
      high = λ x l. outside_stays (term_of n s t m laid 0) (term_of n s t m laid m)
          (found_most_general n 0 m rep size solution (children_of n s t m laid) (term_of n s t m laid) (laid_graph n s t m laid)) x
          (λ o. let z = either_above x (term_of n s t m laid 0) (term_of n s t m laid m) o in omega arith);
      same = refl;
    }

    pub solution_gives : (σ : List Binding) → unify s t ≡ some σ → ClassesGive n rep σ
    solution_gives σ e = let q : some (bindings 0 top θ) ≡ some σ = sym one_found ∙ e in let d : bindings 0 top θ ≡ σ = cc in subst (ClassesGive n rep) d its_gives

    pub solution_unifier : (w : ℕ) → PairsLength n rep w → TableUnifier n rep size s t (record { nodes = count n; length = w })
    solution_unifier w l = record {
      σ = bindings 0 top θ;
      is = one_found;
      length_is = l.each (bindings 0 top θ) its_gives;
      all = refl;
      classes = solution_classes;
      gives = its_gives;
    }

-- `decide`
pub decidable_table : {n : Nodes} {rep size : List ℕ} {m : ℕ} → Decidable n rep size m → Table n
decidable_table {n} {rep} {size} {m} d = laid_table n d.s d.t m d.laid

pub decidable_inside : {n : Nodes} {rep size : List ℕ} {m : ℕ} → Decidable n rep size m → (0 < count n) × (m < count n)
decidable_inside {n} {rep} {size} {m} d = laid_inside n d.s d.t m d.laid

module _ (n : Nodes) (m : ℕ) (rep size : List ℕ) (b : Bool) (solved : SolvedTables n 0 m rep size b) where
  pub decides_none : b ≡ false → Decides n m rep size None
  decides_none e = record { each = λ s t f h laid. none_found n s t m laid f h rep size (subst (SolvedTables n 0 m rep size) e solved) }

  solution_of : b ≡ true → Solution n 0 m rep size
  unfolding SolvedTables
  solution_of e = subst (SolvedTables n 0 m rep size) e solved

  pub decided_classes : {rep₀ size₀ : List ℕ} → Decidable n rep₀ size₀ m → b ≡ true → ClassTable n rep size
  decided_classes d e = solution_classes n d.s d.t m d.laid d.s_formed d.t_formed rep size (solution_of e)

  pub decides_found : b ≡ true → (w : ℕ) → PairsLength n rep w → Decides n m rep size (Some (record { nodes = count n; length = w }))
  decides_found e w l = record { each = λ s t f h laid. solution_unifier n s t m laid f h rep size (solution_of e) w l }

-- `put_unifier`
module _ (n : Nodes) (rep size : List ℕ) (m : ℕ) (out : List ℕ) (k : ℕ) (fits : UnifierFits n rep size m out k) where
  count_length : (σ : List Binding) → length (counted binding_bytes σ) ≡ 2 + length (each binding_bytes σ)
  count_length σ = length-append (word (length σ)) (each binding_bytes σ)

  pub pairs_fit : PairsFit (take m n) (take m rep) out (k + 2)
  pairs_fit = record {
    σ = fits.σ;
    gives = fits.holds.gives;
    small = omega (arith, fits.small, count_length fits.σ);
    room = omega (arith, fits.room, count_length fits.σ);
  }

  pub word_fits : (k + 2 ≤ length out)
  word_fits = omega (arith, fits.room, count_length fits.σ)

  pub unifier_put : (mid : List ℕ) (p : PairsWritten) → PairsPut (take m n) (take m rep) out (k + 2) mid p
      → (new : List ℕ) (e : ℕ) → Put mid k (word p.count) new e → UnifierPut n rep size m out k new p.end
  unifier_put mid p q new e w = record {
    each = λ σ h.
        let x : Put mid k (word (length σ)) new (k + 2) = subst (λ z. Put mid k (word z) new (k + 2)) (q.many σ h.gives) (subst (λ z. Put mid k (word p.count) new z) w.place w) in
        put_ahead (q.bytes σ h.gives) x;
  }

-- `unify_values`
module _ (a b : List ℕ) (old : Nodes) (rep₀ size₀ : List ℕ) (able : Unifiable a b old rep₀ size₀)
    (n : Nodes) (p : NodeCounts) (lays : Lays a b n p) (k : count n ≡ count old) where
  own : Lay n p able.layable.first.term able.layable.second.term
  own =
      let v = able.layable.first in
      let w = able.layable.second in
      lays.each v.term w.term v.formed w.formed v.same w.same

  pub count_within : (p.count ≤ count n) × (p.count ≤ length rep₀) × (p.count ≤ length size₀)
  count_within = let h = own.fits in (h, omega (arith, able.rep_long), omega (arith, able.size_long))

  pub laid_decidable : Decidable (take p.count n) (take p.count rep₀) (take p.count size₀) p.middle
  laid_decidable = record {
    s = able.layable.first.term;
    t = able.layable.second.term;
    laid = own.laid;
    s_formed = able.layable.first.formed;
    t_formed = able.layable.second.formed;
    rep_long = part_length p.count rep₀ count_within.1 ∙ own.all ∙ sym own.laid.long;
    size_long = part_length p.count size₀ count_within.2 ∙ own.all ∙ sym own.laid.long;
  }

  pub decided_unification : (rep size rest more : List ℕ) (r : Option UnifierFound) → length rep ≡ length (take p.count rep₀) → length size ≡ length (take p.count size₀)
      → Decides (take p.count n) p.middle rep size r
      → Unifications a b n (rep ++ rest) (size ++ more) r
  decided_unification rep size rest more r y z d = record { each = λ s t f h e g. go s t (lays.each s t f h e g) r (d.each s t f h (lays.each s t f h e g).laid) }
    where
      go : (s t : Term) → Lay n p s t → (r : Option UnifierFound) → UnificationAnswer (take p.count n) rep size s t r
          → Unification n (rep ++ rest) (size ++ more) r s t
      go s t lay None q = q
      go s t lay (Some x) q =
          let c : p.count ≡ x.nodes = lay.all ∙ sym lay.laid.long ∙ sym q.all in
          let u : length rep ≡ p.count = y ∙ part_length p.count rep₀ count_within.1 in
          let v : length size ≡ p.count = z ∙ part_length p.count size₀ count_within.2 in
          record {
            σ = q.σ;
            is = q.is;
            length_is = q.length_is;
            holds = subst (λ j. HoldsUnifier n (rep ++ rest) (size ++ more) j q.σ) c (record {
              table_long = count_within.0;
              rep_long = omega (arith, length-append rep rest);
              size_long = omega (arith, length-append size more);
              classes = rw (take_at rep rest p.count u, take_at size more p.count v) q.classes;
              gives = rw (take_at rep rest p.count u) q.gives;
            });
          }
