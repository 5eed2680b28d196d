-- Removing leftmost differences finds a most general unifier or shows that there is none; and what follows from being most general.
use Rattle.std.specs.Prelude.{◌≡◌, refl, List, ℕ, zero, suc, ◌≤◌, ◌<◌, length}
use Rattle.std.proofs.Common.{sym, ◌∙◌, ap, inl, inr, arith}
use Rattle.std.proofs.Math.Logic.{ite, if_pos, if_neg}
use Rattle.std.proofs.Math.Option.{Option, none, some}
use Rattle.std.proofs.Math.Decide.{ℕ_discrete}
use Rattle.records.specs.Format.Never.{never}
use Rattle.records.specs.Format.Syntax.{Term}
use Rattle.records.specs.Format.Syntax.Term.{var, app}
use Rattle.records.specs.Format.Syntax.Terms.{nil}
use Rattle.terms.specs.Theory.Substitution.{Substitution, substitute, substitute_all, Occurs, Either}
use Rattle.terms.specs.Theory.SubstitutionLaws.{
  substitute_twice,
  substitute_agree,
  substitute_var,
  agree_substitute,
  occurs_substitute,
}
use Rattle.terms.specs.Theory.Variables.{Among, both_variables, without}
use Rattle.terms.specs.Theory.VariablesLaws.{either_among, without_shorter, without_keeps}
use Rattle.terms.specs.Theory.Mgu.{Unifies}
use Rattle.terms.specs.Theory.Unify.{Difference, alike, clash, differ, difference, single, followed, remove, unifying}
use Rattle.terms.specs.Theory.DifferenceLaws.{Differs, Says, difference_says}
use Rattle.terms.specs.Theory.MostGeneral.{MostGeneral, FoundUnifier, but}

-- a substitution that makes x and u equal is not changed by x becoming u before it
single_absorbed : (θ : Substitution) (x : ℕ) (u : Term) → θ x ≡ substitute θ u → (v : ℕ) → substitute θ (single x u v) ≡ θ v
single_absorbed θ x u e v = go (ℕ_discrete v x)
  where
    go : (d : Dec (v ≡ x)) → substitute θ (ite d u (var v)) ≡ θ v
    go (yes k) = rw k (sym e)
    go (no n) = refl

substitute_single : (θ : Substitution) (x : ℕ) (u s : Term) → θ x ≡ substitute θ u → substitute θ (substitute (single x u) s) ≡ substitute θ s
substitute_single θ x u s e =
    substitute_twice θ (single x u) s
    ∙ substitute_agree (λ v. substitute θ (single x u v)) θ s (λ v _. single_absorbed θ x u e v)

single_lower : (x : ℕ) (u : Term) → ((y : ℕ) → u ≡ var y → y < x) → (v w : ℕ) → single x u v ≡ var w → w ≤ v
single_lower x u l v w e = go (ℕ_discrete v x) e
  where
    go : (d : Dec (v ≡ x)) → ite d u (var v) ≡ var w → w ≤ v
    go (yes k) p = let z = l w p in omega arith
    go (no n) p = let z : v ≡ w = cc in omega arith

-- a substitution that unifies s and t unifies what they become when their difference is removed
differs_unifies : (s t : Term) (x : ℕ) (u : Term) → Differs (Unifies s t) (λ v. Either v s t) x u → (θ : Substitution) → Unifies s t θ
    → Unifies (substitute (single x u) s) (substitute (single x u) t) θ
differs_unifies s t x u d θ k =
    substitute_single θ x u s (d.forced θ k) ∙ k ∙ sym (substitute_single θ x u t (d.forced θ k))

-- x is gone, and no new variable has come
single_variables : (x : ℕ) (u s t : Term) → Differs (Unifies s t) (λ v. Either v s t) x u
    → (v : ℕ) → Either v (substitute (single x u) s) (substitute (single x u) t) → ((v ≡ x) → ⊥) × Either v s t
single_variables x u s t g v o = elim o [ inl p ↦ half s (λ w q. inl q) p | inr p ↦ half t (λ w q. inr q) p ]
  where
    half : (r : Term) → ((w : ℕ) → Occurs w r → Either w s t) → Occurs v (substitute (single x u) r) → ((v ≡ x) → ⊥) × Either v s t
    half r i p = let q = occurs_substitute (single x u) r v p in go q.0 (ℕ_discrete q.0 x) (i q.0 q.1) q.2
      where
        go : (w : ℕ) (d : Dec (w ≡ x)) → Either w s t → Occurs v (ite d u (var w)) → ((v ≡ x) → ⊥) × Either v s t
        go w (yes k) j z = ((λ e. g.fresh (rw (sym e) z)), g.inside v z)
        go w (no n) j z = ((λ e. n (sym z ∙ e)), rw z j)

-- what is found after a difference is removed, with that difference removed before it
after_found : (s t : Term) (x : ℕ) (u : Term) → Differs (Unifies s t) (λ v. Either v s t) x u
    → (r : Option Substitution) → FoundUnifier (substitute (single x u) s) (substitute (single x u) t) r → FoundUnifier s t (followed (single x u) r)
after_found s t x u g none h = λ θ k. h θ (differs_unifies s t x u g θ k)
after_found s t x u g (some τ) h = record {
  unifies = sym (substitute_twice τ (single x u) s) ∙ h.unifies ∙ substitute_twice τ (single x u) t;
  general = λ θ k v.
      substitute_twice θ τ (single x u v)
      ∙ substitute_agree (λ w. substitute θ (τ w)) θ (single x u v) (λ w _. h.general θ (differs_unifies s t x u g θ k) w)
      ∙ single_absorbed θ x u (g.forced θ k) v;
  lower = λ v w e. lower_after v w (single x u v) refl e;
}
  where
    lower_after : (v w : ℕ) (b : Term) → single x u v ≡ b → substitute τ b ≡ var w → w ≤ v
    lower_after v w (var y) p q =
        let l₁ = single_lower x u g.lower v y p in
        let l₂ = h.lower y w q in
        omega arith
    lower_after v w (app f ts) p q = never cc

same_found : (s t : Term) → s ≡ t → MostGeneral s t var
same_found s t e = record { unifies = ap (substitute var) e; general = λ θ k v. refl; lower = λ v w k. let z : v ≡ w = cc in omega arith }

-- n turns are enough where the variables stand in a list of n
remove_found : (n : ℕ) (d : Difference) (s t : Term) (l : List ℕ) → length l ≤ n → ((v : ℕ) → Either v s t → Among v l)
    → Says (s ≡ t) (Unifies s t) (λ v. Either v s t) d → FoundUnifier s t (remove n d s t)
remove_found zero alike s t l b i h = same_found s t h
remove_found zero clash s t l b i h = h
remove_found zero (differ x u) s t l b i h = let k = without_shorter x l (i x h.here) in absurd (omega arith)
remove_found (suc n) alike s t l b i h = same_found s t h
remove_found (suc n) clash s t l b i h = h
remove_found (suc n) (differ x u) s t l b i h =
    let s' = substitute (single x u) s in
    let t' = substitute (single x u) t in
    let k = without_shorter x l (i x h.here) in
    after_found s t x u h (remove n (difference s' t') s' t')
    (remove_found n (difference s' t') s' t' (without x l) (omega arith)
    (λ v o. let q = single_variables x u s t h v o in without_keeps x v l q.0 (i v q.1))
    (difference_says s' t'))

pub unifying_found : (s t : Term) → FoundUnifier s t (unifying s t)
unifying_found s t =
    remove_found (length (both_variables s t)) (difference s t) s t (both_variables s t) (omega arith) (λ v o. either_among v s t o)
    (difference_says s t)

module _ (s t : Term) {σ : Substitution} (m : MostGeneral s t σ) where
  pub most_general_idempotent : (v : ℕ) → substitute σ (σ v) ≡ σ v
  most_general_idempotent v = m.general σ m.unifies v

  -- what σ changes occurs in nothing that σ gives
  pub most_general_apart : (v w : ℕ) → Occurs w (σ v) → σ w ≡ var w
  most_general_apart v w o = agree_substitute σ var (σ v) (most_general_idempotent v ∙ sym (substitute_var (σ v))) w o

  -- a unifier may send a variable of neither term anywhere
  but_unifies : (w : ℕ) (c : Term) → (Either w s t → ⊥) → Unifies s t (but σ w c)
  but_unifies w c n =
      substitute_agree (but σ w c) σ s (λ v o. if_neg (ℕ_discrete v w) (λ k. n (inl (rw (sym k) o))) c (σ v))
      ∙ m.unifies
      ∙ sym (substitute_agree (but σ w c) σ t (λ v o. if_neg (ℕ_discrete v w) (λ k. n (inr (rw (sym k) o))) c (σ v)))

  -- a variable of neither term stays
  pub outside_stays : (w : ℕ) → (Either w s t → ⊥) → σ w ≡ var w
  outside_stays w n = go (σ w) refl
    where
      θ : Substitution
      θ = but σ w (var w)

      kept : substitute θ (σ w) ≡ var w
      kept = m.general θ (but_unifies w (var w) n) w ∙ if_pos (ℕ_discrete w w) refl (var w) (σ w)

      go : (u : Term) → σ w ≡ u → σ w ≡ var w
      go (var y) e = elim (ℕ_discrete y w) [
        | yes k ↦ e ∙ ap var k
        | no k ↦
            let p : σ y ≡ var w = sym (if_neg (ℕ_discrete y w) k (var w) (σ y)) ∙ sym (ap (substitute θ) e) ∙ kept in
            let l₁ = m.lower y w p in
            let l₂ = m.lower w y e in
            absurd (k (omega arith))
      ]
      go (app f ts) e = let p : app f (substitute_all θ ts) ≡ var w = sym (ap (substitute θ) e) ∙ kept in cc

  -- and occurs in nothing that another variable becomes
  pub outside_absent : (v w : ℕ) → (Either w s t → ⊥) → (v ≡ w → ⊥) → Occurs w (σ v) → ⊥
  outside_absent v w n d o =
      let c : Term = app 0 nil in
      let θ : Substitution = but σ w c in
      let p : substitute θ (σ v) ≡ σ v = m.general θ (but_unifies w c n) v ∙ if_neg (ℕ_discrete v w) d c (σ v) in
      let q : θ w ≡ var w = agree_substitute θ var (σ v) (p ∙ sym (substitute_var (σ v))) w o in
      let r : app 0 nil ≡ var w = sym (if_pos (ℕ_discrete w w) refl c (σ w)) ∙ q in
      never cc
