-- The bindings that classes give, one bound variable after the other.
use Rattle.std.specs.Prelude.{◌≡◌, refl, ◌⊎◌, List, [], ◌∷◌, ◌++◌, ℕ, zero, suc, ◌+◌, ◌-◌, ◌≤◌, ◌<◌, min, length}
use Rattle.std.proofs.Common.{sym, ◌∙◌, ap, subst, inl, inr, append-nil, arith, length-append}
use Rattle.std.proofs.Math.Decide.{ℕ_discrete, dec_lt}
use Rattle.terms.specs.Values.NodeBytesLaws.{each_append}
use Rattle.records.specs.Format.Syntax.{Term, Binding}
use Rattle.records.specs.Format.Syntax.Term.{var, app}
use Rattle.records.specs.Format.Syntax.Binding.{bind}
use Rattle.records.specs.Format.Encode.{word, binding_bytes, each}
use Rattle.records.specs.Writing.Patched.{Put}
use Rattle.records.specs.Writing.PatchedLaws.{put_none, put_then}
use Rattle.terms.specs.Theory.Substitution.{Substitution, term_length}
use Rattle.terms.specs.Theory.Unify.{put_binding, bindings}
use Rattle.terms.specs.Theory.BindingsLaws.{Putting, itself, put, putting, bindings_none, bindings_append}
use Rattle.terms.specs.Classes.Nodes.{at, Nodes, count, In, node_number, IsVariable}
use Rattle.terms.specs.Classes.NodesLaws.{not_both, variable?}
use Rattle.terms.specs.Classes.Lengths.{Expansion, length_cap}
use Rattle.terms.specs.Classes.SolveLaws.{Unmet, met?}
use Rattle.terms.specs.Unifier.ClassTerms.{ClassTable}
use Rattle.terms.specs.Unifier.ClassTermsLaws.{size_is}
use Rattle.terms.specs.Unifier.UnifierAnswer.{Bound, NoneBound, LeastBound, ClassesGive, PairsLength, PairFits, PairPut, PairsFit, PairsPut}

-- one binding more
pub snoc_bytes : (σ : List Binding) (b : Binding) → each binding_bytes (σ ++ (b ∷ [])) ≡ each binding_bytes σ ++ binding_bytes b
snoc_bytes σ b = each_append binding_bytes σ (b ∷ []) ∙ ap (λ l. each binding_bytes σ ++ l) (append-nil (binding_bytes b))

snoc_length : (σ : List Binding) (v : ℕ) (t : Term) → length (each binding_bytes (σ ++ (bind v t ∷ []))) ≡ length (each binding_bytes σ) + (2 + term_length t)
snoc_length σ v t = ap length (snoc_bytes σ (bind v t)) ∙ length-append (each binding_bytes σ) (binding_bytes (bind v t)) ∙ omega arith

-- bindings of variables that change, and of a stretch that does not
module _ (θ : Substitution) where
  bindings_one : (v : ℕ) → (θ v ≡ var v → ⊥) → bindings v 1 θ ≡ bind v (θ v) ∷ []
  bindings_one v h = go (putting v (θ v) [])
    where
      go : Putting v (θ v) [] → put_binding v (θ v) [] ≡ bind v (θ v) ∷ []
      go (itself e p) = absurd (h e)
      go (put k p) = p

  bindings_settled : (a b : ℕ) → a ≤ b → ((x : ℕ) → a ≤ x → x < b → θ x ≡ var x) → bindings 0 b θ ≡ bindings 0 a θ
  bindings_settled a b l h =
      let e : b ≡ a + (b - a) = omega arith in
      ap (λ k. bindings 0 k θ) e ∙ bindings_append 0 a (b - a) θ
      ∙ ap (λ r. bindings 0 a θ ++ r) (bindings_none (0 + a) (b - a) θ (λ v x y. h v (omega arith) (omega arith))) ∙ append-nil (bindings 0 a θ)

  bindings_next : (a v : ℕ) → a ≤ v → ((x : ℕ) → a ≤ x → x < v → θ x ≡ var x) → (θ v ≡ var v → ⊥)
      → bindings 0 (v + 1) θ ≡ bindings 0 a θ ++ (bind v (θ v) ∷ [])
  bindings_next a v l h k =
      let e : 0 + v ≡ v = omega arith in
      bindings_append 0 v 1 θ ∙ ap (λ r. r ++ bindings (0 + v) 1 θ) (bindings_settled a v l h)
      ∙ ap (λ x. bindings 0 a θ ++ bindings x 1 θ) e ∙ ap (λ r. bindings 0 a θ ++ r) (bindings_one v k)

  bindings_length : (k m : ℕ) → length (bindings k m θ) ≤ m
  bindings_length k zero = omega arith
  bindings_length k (suc m) = go (putting k (θ k) (bindings (suc k) m θ)) (bindings_length (suc k) m)
    where
      go : Putting k (θ k) (bindings (suc k) m θ) → length (bindings (suc k) m θ) ≤ m → length (put_binding k (θ k) (bindings (suc k) m θ)) ≤ suc m
      go (itself e p) h = omega (arith, ap length p)
      go (put x p) h = omega (arith, ap length p)

module _ (n : Nodes) (rep : List ℕ) (σ : List Binding) (g : ClassesGive n rep σ) where
  -- a bound variable changes, any other stays
  bound_changes : (i : ℕ) → In n i → Bound n rep i → g.θ (node_number n i) ≡ var (node_number n i) → ⊥
  bound_changes i l b e =
      let x : Expansion n g.children (at rep) (at rep i) (var (node_number n i)) = subst (Expansion n g.children (at rep) (at rep i)) e (g.met i l b.0) in
      b.1 x.0 (sym x.1)

  class_stays : (i : ℕ) → In n i → IsVariable n i → (Bound n rep i → ⊥) → g.θ (node_number n i) ≡ var (node_number n i)
  class_stays i l v h = go (variable? n (at rep i)) (ℕ_discrete (node_number n (at rep i)) (node_number n i)) (g.θ (node_number n i)) refl (g.met i l v)
    where
      go : Dec (IsVariable n (at rep i)) → Dec (node_number n (at rep i) ≡ node_number n i) → (t : Term) → g.θ (node_number n i) ≡ t
          → Expansion n g.children (at rep) (at rep i) t → g.θ (node_number n i) ≡ var (node_number n i)
      go (no a) d t e x = absurd (h (v, (λ w. absurd (a w))))
      go (yes a) (no b) t e x = absurd (h (v, (λ _ q. b q)))
      go (yes a) (yes b) (var y) e x = e ∙ ap var (x.1 ∙ b)
      go (yes a) (yes b) (app f ts) e x = absurd (not_both n (at rep i) a x.0)

  free_stays : (x : ℕ) → ((i : ℕ) → In n i → node_number n i ≡ x → Bound n rep i → ⊥) → g.θ x ≡ var x
  free_stays x h = go (met? n x (count n))
    where
      go : ((i : ℕ) × (i < count n) × IsVariable n i × (node_number n i ≡ x)) ⊎ Unmet n x (count n) → g.θ x ≡ var x
      go (inr u) = g.unmet x u
      go (inl p) = subst (λ y. g.θ y ≡ var y) p.3 (class_stays p.0 p.1 p.2 (h p.0 p.1 p.3))

  -- where no bound variable is left, these are all bindings
  pub least_end : (lo : ℕ) → NoneBound n rep lo (count n) → σ ≡ bindings 0 lo g.θ
  least_end lo l = g.same ∙ go (dec_lt lo g.top)
    where
      stays : (x : ℕ) → lo ≤ x → g.θ x ≡ var x
      stays x a = free_stays x (λ j w e d. l.none j w w d (omega (arith, e)))

      go : Dec (lo < g.top) → bindings 0 g.top g.θ ≡ bindings 0 lo g.θ
      go (yes a) = bindings_settled g.θ lo g.top (omega arith) (λ x b c. stays x b)
      go (no a) = sym (bindings_settled g.θ g.top lo (omega arith) (λ x b c. g.high x b))

  module _ (lo i : ℕ) (l : LeastBound n rep lo (count n) i) where
    pub least_next : bindings 0 (node_number n i + 1) g.θ ≡ bindings 0 lo g.θ ++ (bind (node_number n i) (g.θ (node_number n i)) ∷ [])
    least_next =
        bindings_next g.θ lo (node_number n i) l.high
        (λ x a c. free_stays x (λ j w e d. let z = l.least j w w d (omega (arith, e)) in omega (arith, e)))
        (bound_changes i l.inside l.bound)

    -- the bindings up to that variable are the first of all
    pub least_first : length (each binding_bytes (bindings 0 lo g.θ)) + (2 + term_length (g.θ (node_number n i))) ≤ length (each binding_bytes σ)
    least_first =
        let v = node_number n i in
        let below : v < g.top = go (dec_lt v g.top) in
        let e : g.top ≡ v + 1 + (g.top - (v + 1)) = omega arith in
        let rest = bindings (0 + (v + 1)) (g.top - (v + 1)) g.θ in
        let s : σ ≡ bindings 0 (v + 1) g.θ ++ rest = g.same ∙ ap (λ x. bindings 0 x g.θ) e ∙ bindings_append 0 (v + 1) (g.top - (v + 1)) g.θ in
        let a : length (each binding_bytes σ) ≡ length (each binding_bytes (bindings 0 (v + 1) g.θ)) + length (each binding_bytes rest) =
        ap (λ x. length (each binding_bytes x)) s ∙ ap length (each_append binding_bytes (bindings 0 (v + 1) g.θ) rest)
        ∙ length-append (each binding_bytes (bindings 0 (v + 1) g.θ)) (each binding_bytes rest) in
        let b : length (each binding_bytes (bindings 0 (v + 1) g.θ)) ≡ length (each binding_bytes (bindings 0 lo g.θ)) + (2 + term_length (g.θ v)) =
        ap (λ x. length (each binding_bytes x)) least_next ∙ snoc_length (bindings 0 lo g.θ) v (g.θ v) in
        omega arith
      where
        go : Dec (node_number n i < g.top) → node_number n i < g.top
        go (yes a) = a
        go (no a) = absurd (bound_changes i l.inside l.bound (g.high (node_number n i) (omega arith)))

-- the length of the pairs so far
pub record Sizing (n : Nodes) (rep : List ℕ) (w lo : ℕ) : Type 0 where
  pub low : lo ≤ 65536
  pub capped : w ≤ length_cap
  pub bytes : (σ : List Binding) (g : ClassesGive n rep σ) → w ≡ min length_cap (2 + length (each binding_bytes (bindings 0 lo g.θ)))

pub sizing_start : (n : Nodes) (rep : List ℕ) → Sizing n rep 2 0
sizing_start n rep = record { low = omega arith; capped = omega arith; bytes = λ σ g. omega arith }

module _ (n : Nodes) (rep size : List ℕ) (classes : ClassTable n rep size) where
  class_length : (σ : List Binding) (g : ClassesGive n rep σ) (i : ℕ) → In n i → IsVariable n i → at size (at rep i) ≡ min length_cap (term_length (g.θ (node_number n i)))
  class_length σ g i k v =
      size_is n rep size classes g.children g.term g.graph (at rep i) (classes.inside i k) (classes.known i k) (g.θ (node_number n i)) (g.met i k v)

  module _ (w lo : ℕ) (h : Sizing n rep w lo) where
    pub sizing_step : (i : ℕ) → LeastBound n rep lo (count n) i → (w₁ w₂ : ℕ) → w₁ ≡ min length_cap (w + 2) → w₂ ≡ min length_cap (w₁ + at size (at rep i)) → Sizing n rep w₂ (node_number n i + 1)
    sizing_step i l w₁ w₂ e₁ e₂ = record {
      low = let z = classes.small.numbers i l.inside in omega arith;
      capped = omega arith;
      bytes = λ σ g.
          let a = h.bytes σ g in
          let b = class_length σ g i l.inside l.bound.0 in
          let c : length (each binding_bytes (bindings 0 (node_number n i + 1) g.θ)) ≡ length (each binding_bytes (bindings 0 lo g.θ)) + (2 + term_length (g.θ (node_number n i))) =
          ap (λ x. length (each binding_bytes x)) (least_next n rep σ g lo i l) ∙ snoc_length (bindings 0 lo g.θ) (node_number n i) (g.θ (node_number n i)) in
          omega arith;
    }

    pub sizing_end : NoneBound n rep lo (count n) → PairsLength n rep w
    sizing_end l = record {
      each = λ σ g.
          let e = least_end n rep σ g lo l in
          h.bytes σ g ∙ ap (λ x. min length_cap (2 + length (each binding_bytes x))) (sym e) ∙ omega (arith, length-append (word (length σ)) (each binding_bytes σ));
    }

-- the pairs so far
pub record PairsWriting (n : Nodes) (rep : List ℕ) (old : List ℕ) (start : ℕ) (new : List ℕ) (end many lo : ℕ) : Type 0 where
  pub low : lo ≤ 65536
  pub long : length new ≡ length old
  pub bytes : (σ : List Binding) (g : ClassesGive n rep σ) → Put old start (each binding_bytes (bindings 0 lo g.θ)) new end
  pub counted : (σ : List Binding) (g : ClassesGive n rep σ) → many ≡ length (bindings 0 lo g.θ)

pub pairs_writing_start : (n : Nodes) (rep old : List ℕ) (start : ℕ) → PairsWriting n rep old start old start 0 0
pairs_writing_start n rep old start = record { low = omega arith; long = refl; bytes = λ σ g. put_none; counted = λ σ g. refl }

module _ (n : Nodes) (rep size : List ℕ) (classes : ClassTable n rep size) (old : List ℕ) (start : ℕ) (fit : PairsFit n rep old start)
    (new : List ℕ) (end many lo : ℕ) (h : PairsWriting n rep old start new end many lo) where
  pub writing_few : many ≤ 65536
  writing_few = omega (arith, h.counted fit.σ fit.gives, bindings_length fit.gives.θ 0 lo, h.low)

  pub writing_fits : (i : ℕ) → LeastBound n rep lo (count n) i → PairFits n rep size new end i
  writing_fits i l =
      let a = least_first n rep fit.σ fit.gives lo i l in
      let b = class_length n rep size classes fit.σ fit.gives i l.inside l.bound.0 in
      let c = (h.bytes fit.σ fit.gives).place in
      record { inside = l.inside; small = omega (arith, fit.small); room = omega (arith, fit.room, h.long) }

  pub writing_step : (i : ℕ) → LeastBound n rep lo (count n) i → (new' : List ℕ) (end' : ℕ) → PairPut n rep new end i new' end' → length new' ≡ length new
      → PairsWriting n rep old start new' end' (many + 1) (node_number n i + 1)
  writing_step i l new' end' p e = record {
    low = let z = classes.small.numbers i l.inside in omega arith;
    long = e ∙ h.long;
    bytes = λ σ g.
        rw (least_next n rep σ g lo i l, snoc_bytes)
        (put_then (h.bytes σ g) (p.each g.children g.term g.graph (g.θ (node_number n i)) (g.met i l.inside l.bound.0)));
    counted = λ σ g.
        ap (λ x. x + 1) (h.counted σ g) ∙ sym (ap length (least_next n rep σ g lo i l) ∙ length-append (bindings 0 lo g.θ) (bind (node_number n i) (g.θ (node_number n i)) ∷ []));
  }

  pub writing_end : NoneBound n rep lo (count n) → PairsPut n rep old start new (record { end = end; count = many })
  writing_end l = record {
    bytes = λ σ g. subst (λ x. Put old start (each binding_bytes x) new end) (sym (least_end n rep σ g lo l)) (h.bytes σ g);
    many = λ σ g. h.counted σ g ∙ ap length (sym (least_end n rep σ g lo l));
  }
