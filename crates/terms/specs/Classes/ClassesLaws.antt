-- The theorem behind the unifier's code: closed classes without a clash or a cycle give the most general unifier; and what a unifier tells of
-- two nodes of one class, so that a clash or a cycle shows that there is none.
use Rattle.std.specs.Prelude.{◌≡◌, refl, List, [], ◌∷◌, map, ℕ, zero, suc, ◌≤◌, ◌<◌, length}
use Rattle.std.proofs.Common.{sym, ◌∙◌, ap, ap₂, inl, inr, arith}
use Rattle.records.specs.Format.Never.{never}
use Rattle.records.specs.Format.Syntax.{Term, Terms}
use Rattle.records.specs.Format.Syntax.Term.{var, app}
use Rattle.records.specs.Format.Syntax.Terms.{nil, cons}
use Rattle.records.specs.Format.Formed.{All}
use Rattle.terms.specs.Theory.Substitution.{Substitution, substitute, substitute_all, term_length, terms_length}
use Rattle.terms.specs.Theory.SubstitutionLaws.{terms_length_cons}
use Rattle.terms.specs.Theory.Variables.{Among}
use Rattle.terms.specs.Theory.TestLaws.{all_among}
use Rattle.terms.specs.Theory.MostGeneral.{MostGeneral}
use Rattle.terms.specs.Classes.Nodes.{Nodes, node_number, IsVariable, IsSymbol, In, terms_at, TableNode, variable, symbol}
use Rattle.terms.specs.Classes.NodesLaws.{not_both}
use Rattle.terms.specs.Classes.Classes.{Respects, ClassesSound, Closed, Expands, Reads, Paired}

-- children of equal terms are as many, and equal
pub same_children : (term : ℕ → Term) (θ : Substitution) (cs ds : List ℕ)
    → substitute_all θ (terms_at term cs) ≡ substitute_all θ (terms_at term ds) → length cs ≡ length ds
same_children term θ [] [] e = refl
same_children term θ [] (d ∷ ds) e = cc
same_children term θ (c ∷ cs) [] e = cc
same_children term θ (c ∷ cs) (d ∷ ds) e = ap suc (same_children term θ cs ds (cc))

pub paired_equal : (term : ℕ → Term) (θ : Substitution) (p q : ℕ) (cs ds : List ℕ)
    → substitute_all θ (terms_at term cs) ≡ substitute_all θ (terms_at term ds) → Paired p q cs ds
    → substitute θ (term p) ≡ substitute θ (term q)
paired_equal term θ p q [] ds e o = absurd o
paired_equal term θ p q (c ∷ cs) [] e o = absurd o
paired_equal term θ p q (c ∷ cs) (d ∷ ds) e (inl k) = rw (k.0, k.1) (cc)
paired_equal term θ p q (c ∷ cs) (d ∷ ds) e (inr o) = paired_equal term θ p q cs ds (cc) o

-- a child's image is no longer than the children's images
child_length : (term : ℕ → Term) (θ : Substitution) (c : ℕ) (cs : List ℕ) → Among c cs
    → term_length (substitute θ (term c)) ≤ terms_length (substitute_all θ (terms_at term cs))
child_length term θ c [] o = absurd o
child_length term θ c (d ∷ ds) (inl e) =
    rw e (omega (arith, terms_length_cons (substitute θ (term d)) (substitute_all θ (terms_at term ds))))
child_length term θ c (d ∷ ds) (inr o) =
    let h = child_length term θ c ds o in
    omega (arith, terms_length_cons (substitute θ (term d)) (substitute_all θ (terms_at term ds)))

module _ (n : Nodes) (children : ℕ → List ℕ) (term : ℕ → Term) (node : (i : ℕ) → In n i → TableNode n children term i) where
  -- what stands at a variable's node
  pub variable_term : (i : ℕ) → In n i → IsVariable n i → term i ≡ var (node_number n i)
  variable_term i l a = elim (node i l) [ variable b q ↦ q | symbol b q k ↦ never cc ]

  module _ (s t : ℕ) (rep : ℕ → ℕ) (expansion : ℕ → Term) (σ : Substitution)
      (c : Closed n children s t rep) (e : Expands n children rep expansion) (r : Reads n rep expansion σ) where
    -- σ makes each node's term the term of its class
    mutual
      becomes : (u : Term) (i : ℕ) → In n i → term i ≡ u → substitute σ u ≡ expansion (rep i)
      becomes (var x) i l p = elim (node i l) [
        | variable a b ↦ (let z : x ≡ node_number n i = cc in ap σ z ∙ r.met i l a)
        | symbol a b k ↦ (never cc)
      ]
      becomes (app f us) i l p = elim (node i l) [
        | variable a b ↦ (never cc)
        | symbol a b k ↦
            (let g = (c.agrees i l).symbols (_, a) in
            let h : substitute_all σ us ≡ terms_at expansion (map rep (children i)) = become us (children i) k (cc) in
            let q = e.symbols i l g.0 in
            let w : f ≡ node_number n i = cc in
            cc (g.1, g.2))
      ]

      become : (us : Terms) (cs : List ℕ) → All (In n) cs → terms_at term cs ≡ us → substitute_all σ us ≡ terms_at expansion (map rep cs)
      become nil [] k p = refl
      become nil (d ∷ ds) k p = cc
      become (cons u us) [] k p = cc
      become (cons u us) (d ∷ ds) k p = ap₂ cons (becomes u d k.0 (cc)) (become us ds k.1 (cc))

    -- a substitution that respects the classes makes each node equal to the term of its class
    module _ (θ : Substitution) (h : Respects n term rep θ) where
      mutual
        expansion_equal : (u : Term) (i : ℕ) → In n i → expansion (rep i) ≡ u → substitute θ u ≡ substitute θ (term i)
        expansion_equal (var x) i l p = elim (node (rep i) (c.inside i l)) [
          | variable a b ↦
              (let q = e.variables i l a in
              let z : x ≡ node_number n (rep i) = cc in
              let y : substitute θ (term (rep i)) ≡ θ (node_number n (rep i)) = ap (substitute θ) b in
              ap θ z ∙ sym y ∙ h i l)
          | symbol a b k ↦ (let q = e.symbols i l (_, a) in never cc)
        ]
        expansion_equal (app f us) i l p = elim (node (rep i) (c.inside i l)) [
          | variable a b ↦ (let q = e.variables i l a in never cc)
          | symbol a b k ↦
              (let q = e.symbols i l (_, a) in
              let z : f ≡ node_number n (rep i) = cc in
              let y : substitute θ (term (rep i)) ≡ app (node_number n (rep i)) (substitute_all θ (terms_at term (children (rep i)))) =
              ap (substitute θ) b in
              ap₂ app z (expansions_equal us (children (rep i)) k (cc)) ∙ sym y ∙ h i l)
        ]

        expansions_equal : (us : Terms) (cs : List ℕ) → All (In n) cs → terms_at expansion (map rep cs) ≡ us
            → substitute_all θ us ≡ substitute_all θ (terms_at term cs)
        expansions_equal nil [] k p = refl
        expansions_equal nil (d ∷ ds) k p = never cc
        expansions_equal (cons u us) [] k p = never cc
        expansions_equal (cons u us) (d ∷ ds) k p =
            ap₂ cons (expansion_equal u d k.0 (cc)) (expansions_equal us ds k.1 (cc))

    lower_class : (i w : ℕ) → In n i → IsVariable n i → expansion (rep i) ≡ var w → w ≤ node_number n i
    lower_class i w l a p = elim (node (rep i) (c.inside i l)) [
      | variable b q ↦ (let k = (c.agrees i l).variables a b in let z : w ≡ node_number n (rep i) = cc (e.variables i l b) in omega arith)
      | symbol b q k ↦ never (cc (e.symbols i l (_, b)))
    ]

    -- the theorem
    pub closed_most_general : In n s → In n t → ClassesSound n term s t rep → MostGeneral (term s) (term t) σ
    closed_most_general ls lt sound = record {
      unifies = becomes (term s) s ls refl ∙ ap expansion c.joined ∙ sym (becomes (term t) t lt refl);
      general = λ θ u x. elim (r.each x) [
        | inl m ↦
            (let (i, l, a, k) = m in
            let q = expansion_equal θ (sound θ u) (expansion (rep i)) i l refl in
            let y : substitute θ (term i) ≡ θ (node_number n i) = ap (substitute θ) (variable_term i l a) in
            ap (λ v. substitute θ (σ v)) (sym k) ∙ ap (substitute θ) (r.met i l a) ∙ q ∙ y ∙ ap θ k)
        | inr k ↦ ap (substitute θ) k
      ];
      lower = λ x w k. elim (r.each x) [
        | inl m ↦ (let (i, l, a, q) = m in let z = lower_class i w l a (sym (r.met i l a) ∙ ap σ q ∙ k) in omega arith)
        | inr q ↦ (let z : x ≡ w = cc in omega arith)
      ];
    }

  module _ (θ : Substitution) (rep : ℕ → ℕ) (h : Respects n term rep θ) where
    -- two symbols of one class are the same, and their children's images too
    pub same_class : (i : ℕ) → In n i → In n (rep i) → IsSymbol n i → IsSymbol n (rep i)
        → (node_number n (rep i) ≡ node_number n i) × (substitute_all θ (terms_at term (children (rep i))) ≡ substitute_all θ (terms_at term (children i)))
    same_class i l m a b = go (node i l) (node (rep i) m)
      where
        go : TableNode n children term i → TableNode n children term (rep i)
            → (node_number n (rep i) ≡ node_number n i) × (substitute_all θ (terms_at term (children (rep i))) ≡ substitute_all θ (terms_at term (children i)))
        go (variable p q) y = absurd (not_both n i p a)
        go (symbol p q k) (variable p' q') = absurd (not_both n (rep i) p' b)
        go (symbol p q k) (symbol p' q' k') =
            let z : app (node_number n (rep i)) (substitute_all θ (terms_at term (children (rep i)))) ≡ app (node_number n i) (substitute_all θ (terms_at term (children i))) =
            sym (ap (substitute θ) q') ∙ h i l ∙ ap (substitute θ) q in
            (cc, cc)

    -- a child's image is shorter
    child_shorter : (r : ℕ) → In n r → IsSymbol n r → (d : ℕ) → Among d (children r)
        → In n d × (term_length (substitute θ (term d)) < term_length (substitute θ (term r)))
    child_shorter r l a d o = elim (node r l) [
      | variable b q ↦ absurd (not_both n r b a)
      | symbol b q k ↦
          (let z : term_length (substitute θ (term r)) ≡ term_length (app (node_number n r) (substitute_all θ (terms_at term (children r)))) =
          ap (λ u. term_length (substitute θ u)) q in
          let y = child_length term θ d (children r) o in
          (all_among (In n) (children r) k d o, omega arith))
    ]

    -- symbols each of which has a child in the class of another of them: there are none
    pub no_cycle : (Waiting : ℕ → Type 0)
        → ((r : ℕ) → Waiting r → In n r × IsSymbol n r × ((d : ℕ) × Among d (children r) × Waiting (rep d))) → (r : ℕ) → Waiting r → ⊥
    no_cycle Waiting step r w = go (term_length (substitute θ (term r))) r (omega arith) w
      where
        go : (k : ℕ) (r : ℕ) → term_length (substitute θ (term r)) ≤ k → Waiting r → ⊥
        go zero r b w =
            let (l, a, m) = step r w in
            let (d, o, v) = m in
            let z = child_shorter r l a d o in
            omega (arith, z.1)
        go (suc k) r b w =
            let (l, a, m) = step r w in
            let (d, o, v) = m in
            let z = child_shorter r l a d o in
            let y : term_length (substitute θ (term (rep d))) ≡ term_length (substitute θ (term d)) = ap term_length (h d z.0) in
            go k (rep d) (omega (arith, z.1)) v
