-- Laws of the list of bindings of a substitution: it rises, holds what the substitution changes, and does what the substitution does.
use Rattle.std.specs.Prelude.{◌≡◌, refl, List, [], ◌∷◌, ◌++◌, ℕ, zero, suc, ◌+◌, ◌≤◌, ◌<◌}
use Rattle.std.proofs.Common.{sym, ◌∙◌, ap, inl, inr, arith}
use Rattle.std.proofs.Math.Logic.{ite, if_pos, if_neg}
use Rattle.std.proofs.Math.Decide.{ℕ_discrete}
use Rattle.records.specs.Format.Never.{never}
use Rattle.records.specs.Format.Syntax.{Term, Binding}
use Rattle.records.specs.Format.Syntax.Term.{var, app}
use Rattle.records.specs.Format.Syntax.Binding.{bind}
use Rattle.terms.specs.Theory.Substitution.{Substitution, as_substitution}
use Rattle.terms.specs.Theory.Mgu.{Binds, Rises}
use Rattle.terms.specs.Theory.MguLaws.{below_stays}
use Rattle.terms.specs.Theory.Unify.{put_binding, bindings}

-- a list that rises from k + 1 rises from k
rises_down : (k : ℕ) (σ : List Binding) → Rises (suc k) σ → Rises k σ
rises_down k [] r = tt
rises_down k (bind x u ∷ σ) r = (omega arith, r.1)

-- the two outcomes of putting a binding in front: k becomes itself and nothing is put, or the binding is put
pub data Putting (k : ℕ) (t : Term) (σ : List Binding) : Type 0 where
  itself : t ≡ var k → put_binding k t σ ≡ σ → Putting k t σ
  put : (t ≡ var k → ⊥) → put_binding k t σ ≡ bind k t ∷ σ → Putting k t σ

pub putting : (k : ℕ) (t : Term) (σ : List Binding) → Putting k t σ
putting k (app f ts) σ = put (λ e. never cc) refl
putting k (var w) σ = elim (ℕ_discrete w k) [
  | yes e ↦ itself (ap var e) (rw e (if_pos (ℕ_discrete k k) refl σ (bind k (var k) ∷ σ)))
  | no n ↦ put (λ e. n (cc)) (if_neg (ℕ_discrete w k) n σ (bind k (var w) ∷ σ))
]

pub bindings_rise : (k n : ℕ) (θ : Substitution) → Rises k (bindings k n θ)
bindings_rise k zero θ = tt
bindings_rise k (suc n) θ = go (putting k (θ k) (bindings (suc k) n θ)) (bindings_rise (suc k) n θ)
  where
    go : Putting k (θ k) (bindings (suc k) n θ) → Rises (suc k) (bindings (suc k) n θ) → Rises k (bindings k (suc n) θ)
    go (itself e p) r = rw p (rises_down k (bindings (suc k) n θ) r)
    go (put h p) r = rw p (omega arith, r)

-- a binding of the list is what θ changes
pub bindings_bind : (k n : ℕ) (θ : Substitution) (v : ℕ) (u : Term) → Binds (bindings k n θ) v u → (θ v ≡ u) × (θ v ≡ var v → ⊥)
bindings_bind k zero θ v u h = absurd h
bindings_bind k (suc n) θ v u h = go (putting k (θ k) (bindings (suc k) n θ)) (λ q. bindings_bind (suc k) n θ v u q)
  where
    go : Putting k (θ k) (bindings (suc k) n θ) → (Binds (bindings (suc k) n θ) v u → (θ v ≡ u) × (θ v ≡ var v → ⊥))
        → (θ v ≡ u) × (θ v ≡ var v → ⊥)
    go (itself e p) ih = ih (rw p at h)
    go (put m p) ih = elim (rw p at h) [
      | inl q ↦ (ap θ q.0 ∙ sym q.1, (λ z. m (cc (q.0, z))))
      | inr q ↦ ih q
    ]

-- where θ changes nothing from k + n on, the list does what θ does
pub bindings_do : (k n : ℕ) (θ : Substitution) → ((v : ℕ) → k + n ≤ v → θ v ≡ var v)
    → (v : ℕ) → k ≤ v → as_substitution (bindings k n θ) v ≡ θ v
bindings_do k zero θ h v l = sym (h v (omega arith))
bindings_do k (suc n) θ h v l =
    go (putting k (θ k) (bindings (suc k) n θ)) (ℕ_discrete v k) (bindings_do (suc k) n θ (λ w q. h w (omega arith)) v)
  where
    go : Putting k (θ k) (bindings (suc k) n θ) → Dec (v ≡ k) → (suc k ≤ v → as_substitution (bindings (suc k) n θ) v ≡ θ v)
        → as_substitution (bindings k (suc n) θ) v ≡ θ v
    go (itself e p) (yes q) ih =
        rw (p, q) (below_stays (suc k) (bindings (suc k) n θ) (bindings_rise (suc k) n θ) k (omega arith) ∙ sym e)
    go (itself e p) (no q) ih = rw p (ih (omega arith))
    go (put m p) (yes q) ih = rw (p, q) (if_pos (ℕ_discrete k k) refl (θ k) (as_substitution (bindings (suc k) n θ) k))
    go (put m p) (no q) ih = rw p (if_neg (ℕ_discrete v k) q (θ k) (as_substitution (bindings (suc k) n θ) v) ∙ ih (omega arith))

-- a stretch of variables that θ leaves as they are
pub bindings_none : (k n : ℕ) (θ : Substitution) → ((v : ℕ) → k ≤ v → v < k + n → θ v ≡ var v) → bindings k n θ ≡ []
bindings_none k zero θ h = refl
bindings_none k (suc n) θ h = go (putting k (θ k) (bindings (suc k) n θ)) (bindings_none (suc k) n θ (λ v a b. h v (omega arith) (omega arith)))
  where
    go : Putting k (θ k) (bindings (suc k) n θ) → bindings (suc k) n θ ≡ [] → bindings k (suc n) θ ≡ []
    go (itself e p) ih = p ∙ ih
    go (put m p) ih = absurd (m (h k (omega arith) (omega arith)))

-- one stretch of variables after another
put_append : (k : ℕ) (t : Term) (σ τ : List Binding) → put_binding k t (σ ++ τ) ≡ put_binding k t σ ++ τ
put_append k (app f ts) σ τ = refl
put_append k (var w) σ τ = go (ℕ_discrete w k)
  where
    go : (d : Dec (w ≡ k)) → ite d (σ ++ τ) (bind k (var w) ∷ (σ ++ τ)) ≡ ite d σ (bind k (var w) ∷ σ) ++ τ
    go (yes _) = refl
    go (no _) = refl

pub bindings_append : (k m n : ℕ) (θ : Substitution) → bindings k (m + n) θ ≡ bindings k m θ ++ bindings (k + m) n θ
bindings_append k zero n θ =
    let a : 0 + n ≡ n = omega arith in
    let b : k ≡ k + 0 = omega arith in
    ap (λ i. bindings k i θ) a ∙ ap (λ i. bindings i n θ) b
bindings_append k (suc m) n θ =
    let a : suc m + n ≡ suc (m + n) = omega arith in
    let b : suc k + m ≡ k + suc m = omega arith in
    ap (λ i. bindings k i θ) a
    ∙ ap (put_binding k (θ k)) (bindings_append (suc k) m n θ)
    ∙ put_append k (θ k) (bindings (suc k) m θ) (bindings (suc k + m) n θ)
    ∙ ap (λ i. bindings k (suc m) θ ++ bindings i n θ) b
