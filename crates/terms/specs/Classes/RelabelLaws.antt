-- Putting one class into another: the loop that does it, and what it leaves of the partition.
use Rattle.std.specs.Prelude.{◌≡◌, refl, ◌⊎◌, List, [], ◌∷◌, ℕ, zero, suc, ◌+◌, ◌≤◌, ◌<◌, length, set}
use Rattle.std.proofs.Common.{sym, ◌∙◌, ap, subst, inl, inr, arith, below_more, length-set, get_or-set_same, get_or-set_other}
use Rattle.std.proofs.Math.Logic.{ite, if_pos, if_neg}
use Rattle.std.proofs.Math.Decide.{ℕ_discrete}
use Rattle.records.specs.Format.Syntax.{Term}
use Rattle.terms.specs.Theory.Substitution.{substitute}
use Rattle.terms.specs.Classes.Nodes.{at, Nodes, node_number, In, IsSymbol}
use Rattle.terms.specs.Classes.ClassState.{Forced, Better, Partition, merged, Relabelled, roots}

pub merged_same : (a b x : ℕ) → x ≡ b → merged a b x ≡ a
merged_same a b x e = if_pos (ℕ_discrete x b) e a x

pub merged_other : (a b x : ℕ) → (x ≡ b → ⊥) → merged a b x ≡ x
merged_other a b x h = if_neg (ℕ_discrete x b) h a x

-- the loop: the labels below i are done, the others are as before
pub record Relabelling (a b : ℕ) (old new : List ℕ) (i : ℕ) : Type 0 where
  pub long : length new ≡ length old
  pub bound : i ≤ length old
  pub done : (k : ℕ) → k < i → at new k ≡ merged a b (at old k)
  pub rest : (k : ℕ) → i ≤ k → at new k ≡ at old k

module _ (a b : ℕ) (old : List ℕ) where
  pub relabelling_start : Relabelling a b old old 0
  relabelling_start = record { long = refl; bound = omega arith; done = λ k h. absurd (omega arith); rest = λ k h. refl }

  pub relabelling_set : (new : List ℕ) (i : ℕ) → Relabelling a b old new i → i < length new → at new i ≡ b → Relabelling a b old (set new i a) (i + 1)
  relabelling_set new i p l e = record {
    long = length-set new i a ∙ p.long;
    bound = omega (arith, p.long);
    done = below_more _ _
        (λ k h. get_or-set_other new i k a 0 (λ z. omega arith) ∙ p.done k h)
        (get_or-set_same new i a 0 l ∙ sym (merged_same a b (at old i) (sym (p.rest i (omega arith)) ∙ e)));
    rest = λ k h. get_or-set_other new i k a 0 (λ z. omega arith) ∙ p.rest k (omega arith);
  }

  pub relabelling_keep : (new : List ℕ) (i : ℕ) → Relabelling a b old new i → i < length new → (at new i ≡ b → ⊥) → Relabelling a b old new (i + 1)
  relabelling_keep new i p l h = record {
    long = p.long;
    bound = omega (arith, p.long);
    done = below_more _ _ p.done (p.rest i (omega arith) ∙ sym (merged_other a b (at old i) (λ z. h (p.rest i (omega arith) ∙ z))));
    rest = λ k m. p.rest k (omega arith);
  }

  pub relabelling_end : (new : List ℕ) (i : ℕ) → Relabelling a b old new i → length new ≤ i → Relabelled a b old new
  relabelling_end new i p l = record { long = p.long; each = λ k h. p.done k (omega (arith, p.long)) }

-- a root counts one
root_le : (x y k : ℕ) → (y ≡ k → x ≡ k) → ite (ℕ_discrete y k) 1 0 ≤ ite (ℕ_discrete x k) 1 0
root_le x y k f = go (ℕ_discrete y k) (ℕ_discrete x k)
  where
    go : (d : Dec (y ≡ k)) (e : Dec (x ≡ k)) → ite d 1 0 ≤ ite e 1 0
    go (no _) e = omega arith
    go (yes p) (yes q) = omega arith
    go (yes p) (no q) = absurd (q (f p))

root_lt : (x y k : ℕ) → x ≡ k → (y ≡ k → ⊥) → ite (ℕ_discrete y k) 1 0 < ite (ℕ_discrete x k) 1 0
root_lt x y k p h = rw (if_neg {C = ℕ} (ℕ_discrete y k) h 1 0, if_pos {C = ℕ} (ℕ_discrete x k) p 1 0) (omega arith)

-- labels of which no more are roots, and fewer if one is lost
roots_le : (k : ℕ) (old new : List ℕ) → length new ≡ length old → ((i : ℕ) → i < length old → at new i ≡ k + i → at old i ≡ k + i)
    → roots k new ≤ roots k old
roots_le k [] [] e f = omega arith
roots_le k [] (y ∷ new) e f = absurd (omega arith)
roots_le k (x ∷ old) [] e f = absurd (omega arith)
roots_le k (x ∷ old) (y ∷ new) e f =
    let h = root_le x y k (λ p. let z = f 0 (omega arith) (omega arith) in omega arith) in
    let r = roots_le (suc k) old new (omega arith) (λ i l p. let z = f (suc i) (omega arith) (omega arith) in omega arith) in
    omega arith

roots_lt : (k j : ℕ) (old new : List ℕ) → length new ≡ length old → ((i : ℕ) → i < length old → at new i ≡ k + i → at old i ≡ k + i)
    → j < length old → at old j ≡ k + j → (at new j ≡ k + j → ⊥) → roots k new < roots k old
roots_lt k j [] new e f l a b = absurd (omega arith)
roots_lt k j (x ∷ old) [] e f l a b = absurd (omega arith)
roots_lt k zero (x ∷ old) (y ∷ new) e f l a b =
    let h = root_lt x y k (omega arith) (λ p. b (omega arith)) in
    let r = roots_le (suc k) old new (omega arith) (λ i l p. let z = f (suc i) (omega arith) (omega arith) in omega arith) in
    omega arith
roots_lt k (suc j) (x ∷ old) (y ∷ new) e f l a b =
    let h = root_le x y k (λ p. let z = f 0 (omega arith) (omega arith) in omega arith) in
    let r = roots_lt (suc k) j old new (omega arith) (λ i l p. let z = f (suc i) (omega arith) (omega arith) in omega arith)
    (omega arith) (omega arith) (λ p. b (omega arith)) in
    omega arith

-- to put class b into class a, of two roots
module _ (n : Nodes) (s t : ℕ) (old new : List ℕ) (a b : ℕ) (partition : Partition n s t old) (r : Relabelled a b old new)
    (a_in : In n a) (b_in : In n b) (a_root : at old a ≡ a) (b_root : at old b ≡ b) (other : a ≡ b → ⊥) where
  -- there is one root less
  pub relabelled_fewer : roots 0 new < roots 0 old
  relabelled_fewer = roots_lt 0 b old new r.long
      (λ i l p. elim (ℕ_discrete (at old i) b) [
        | yes e ↦
            (let q : at new i ≡ a = r.each i l ∙ merged_same a b (at old i) e in
            let z : a ≡ i = omega arith in
            absurd (other (sym a_root ∙ ap (at old) z ∙ e)))
        | no h ↦ sym (r.each i l ∙ merged_other a b (at old i) h) ∙ p
      ])
      (omega (arith, partition.long)) (omega arith)
      (λ p. other (omega (arith, r.each b (omega (arith, partition.long)) ∙ merged_same a b (at old b) b_root)))

  each : (i : ℕ) → In n i → at new i ≡ merged a b (at old i)
  each i l = r.each i (omega (arith, partition.long))

  -- what class i comes to
  came : (i : ℕ) → In n i → ((at old i ≡ b) × (at new i ≡ a)) ⊎ ((at old i ≡ b → ⊥) × (at new i ≡ at old i))
  came i l = elim (ℕ_discrete (at old i) b) [
    | yes e ↦ inl (e, each i l ∙ merged_same a b (at old i) e)
    | no h ↦ inr (h, each i l ∙ merged_other a b (at old i) h)
  ]

  -- the two classes are one
  pub relabelled_one : (x y : ℕ) → In n x → In n y → at old x ≡ a → at old y ≡ b → at new x ≡ at new y
  relabelled_one x y lx ly e g =
      each x lx ∙ ap (merged a b) e ∙ merged_other a b a other ∙ sym (merged_same a b b refl) ∙ sym (ap (merged a b) g) ∙ sym (each y ly)

  -- nodes of one class stay in one class
  pub relabelled_joined : (x y : ℕ) → In n x → In n y → at old x ≡ at old y → at new x ≡ at new y
  relabelled_joined x y lx ly e = each x lx ∙ ap (merged a b) e ∙ sym (each y ly)

  better_still : (i : ℕ) → at old i ≡ b → at new i ≡ a → Better n a b → Better n (at old i) i → Better n (at new i) i
  better_still i p q best h = record {
    symbols = λ k. subst (IsSymbol n) (sym q) (best.symbols (subst (IsSymbol n) p (h.symbols k)));
    variables = λ k m.
        let na : IsSymbol n a → ⊥ = λ z. m (subst (IsSymbol n) (sym q) z) in
        let nb : IsSymbol n b → ⊥ = λ z. na (best.symbols z) in
        let x = best.variables nb na in
        let y = h.variables k (λ z. nb (subst (IsSymbol n) p z)) in
        omega (arith, ap (node_number n) q, ap (node_number n) p);
  }

  pub relabelled_partition : Better n a b → Forced n s t a b → Partition n s t new
  relabelled_partition best forced = record {
    s_in = partition.s_in;
    t_in = partition.t_in;
    long = r.long ∙ partition.long;
    inside = λ i l. elim (came i l) [ inl p ↦ omega (arith, p.1) | inr p ↦ (let z = partition.inside i l in omega (arith, p.1)) ];
    root = λ i l. elim (came i l) [
      | inl p ↦ ap (at new) p.1 ∙ each a a_in ∙ ap (merged a b) a_root ∙ merged_other a b a other ∙ sym p.1
      | inr p ↦ ap (at new) p.1 ∙ each (at old i) (partition.inside i l) ∙ ap (merged a b) (partition.root i l) ∙ sym (each i l)
    ];
    better = λ i l. elim (came i l) [
      | inl p ↦ better_still i p.0 p.1 best (partition.better i l)
      | inr p ↦ rw p.1 (partition.better i l)
    ];
    shared = λ i j l m p q e. relabelled_joined i j l m (partition.shared i j l m p q e);
    sound = λ i l children term g θ u.
        let term_of : ℕ → Term = λ x. substitute θ (term x) in
        elim (came i l) [
          | inl p ↦ ap term_of p.1 ∙ forced children term g θ u ∙ ap term_of (sym p.0) ∙ partition.sound i l children term g θ u
          | inr p ↦ ap term_of p.1 ∙ partition.sound i l children term g θ u
        ];
  }
