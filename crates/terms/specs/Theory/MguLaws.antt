-- There is at most one most general unifier in the sense of SPECIFICATION 5.1.
use Rattle.std.specs.Prelude.{◌≡◌, refl, List, [], ◌∷◌, ℕ, suc, ◌≤◌, ◌<◌}
use Rattle.std.proofs.Common.{sym, ◌∙◌, ap, inl, inr, arith}
use Rattle.std.proofs.Math.Logic.{if_pos, if_neg}
use Rattle.std.proofs.Math.Decide.{ℕ_discrete, dec_lt}
use Rattle.records.specs.Format.Syntax.{Term, Binding}
use Rattle.records.specs.Format.Syntax.Term.{var, app}
use Rattle.records.specs.Format.Syntax.Binding.{bind}
use Rattle.terms.specs.Theory.Substitution.{Substitution, substitute, substitute_all, as_substitution, Occurs}
use Rattle.terms.specs.Theory.SubstitutionLaws.{
  substitute_twice,
  substitute_agree,
  agree_substitute,
  substitute_var,
}
use Rattle.terms.specs.Theory.Mgu.{Binds, Rises, Unifies, IsMgu}

-- a rising list binds nothing below its start
pub rises_least : (n : ℕ) (σ : List Binding) → Rises n σ → (x : ℕ) (t : Term) → Binds σ x t → n ≤ x
rises_least n [] r x t h = absurd h
rises_least n (bind y u ∷ σ) r x t (inl e) = let p = e.0 in omega arith
rises_least n (bind y u ∷ σ) r x t (inr h) = let k = rises_least (suc y) σ r.1 x t h in omega arith

-- what v becomes: the term that it is bound to, or v itself
pub data Becomes (σ : List Binding) (v : ℕ) : Type 0 where
  binds : (t : Term) → Binds σ v t → as_substitution σ v ≡ t → Becomes σ v
  stays : ((t : Term) → Binds σ v t → ⊥) → as_substitution σ v ≡ var v → Becomes σ v

pub becomes : (σ : List Binding) (v : ℕ) → Becomes σ v
becomes [] v = stays (λ t h. h) refl
becomes (bind x t ∷ σ) v = go (ℕ_discrete v x) (becomes σ v)
  where
    go : Dec (v ≡ x) → Becomes σ v → Becomes (bind x t ∷ σ) v
    go (yes e) k = binds t (inl (e, refl)) (rw e (if_pos (ℕ_discrete x x) refl t (as_substitution σ x)))
    go (no h) (binds u m e) = binds u (inr m) (if_neg (ℕ_discrete v x) h t (as_substitution σ v) ∙ e)
    go (no h) (stays f e) =
        stays (λ u m. elim m [ inl q ↦ h q.0 | inr q ↦ f u q ]) (if_neg (ℕ_discrete v x) h t (as_substitution σ v) ∙ e)

-- a variable below the start of a rising list stays
pub below_stays : (n : ℕ) (σ : List Binding) → Rises n σ → (v : ℕ) → v < n → as_substitution σ v ≡ var v
below_stays n σ r v l = elim (becomes σ v) [
  | binds t h e ↦ (let k = rises_least n σ r v t h in absurd (omega arith))
  | stays f e ↦ e
]

-- no variable is bound to itself
abbrev Proper : List Binding → Type 0
Proper σ = (x : ℕ) → Binds σ x (var x) → ⊥

-- a variable that heads one list and lies below the other is bound to itself if both give it the same
head_itself : (x : ℕ) (t : Term) (σ τ : List Binding) → Rises (suc x) τ → as_substitution (bind x t ∷ σ) x ≡ as_substitution τ x → t ≡ var x
head_itself x t σ τ r e = sym (if_pos (ℕ_discrete x x) refl t (as_substitution σ x)) ∙ e ∙ below_stays (suc x) τ r x (omega arith)

-- rising lists that bind no variable to itself and do the same are the same
pub same_list : (n : ℕ) (σ τ : List Binding) → Rises n σ → Rises n τ → Proper σ → Proper τ
    → ((v : ℕ) → as_substitution σ v ≡ as_substitution τ v) → σ ≡ τ
same_list n [] [] r q a b e = refl
same_list n [] (bind y u ∷ τ) r q a b e = absurd (b y (inl (refl, sym (head_itself y u τ [] tt (sym (e y))))))
same_list n (bind x t ∷ σ) [] r q a b e = absurd (a x (inl (refl, sym (head_itself x t σ [] tt (e x)))))
same_list n (bind x t ∷ σ) (bind y u ∷ τ) r q a b e = go (dec_lt x y) (dec_lt y x) (same_list (suc x) σ τ r.1)
  where
    go : Dec (x < y) → Dec (y < x)
        → (Rises (suc x) τ → Proper σ → Proper τ → ((v : ℕ) → as_substitution σ v ≡ as_substitution τ v) → σ ≡ τ)
        → ◌≡◌ {A = List Binding} (bind x t ∷ σ) (bind y u ∷ τ)
    go (yes l) d ih = absurd (a x (inl (refl, sym (head_itself x t σ (bind y u ∷ τ) (omega arith, q.1) (e x)))))
    go (no l) (yes k) ih = absurd (b y (inl (refl, sym (head_itself y u τ (bind x t ∷ σ) (omega arith, r.1) (sym (e y))))))
    go (no l) (no k) ih =
        let p : x ≡ y = omega arith in
        let q' : Rises (suc x) τ = rw p q.1 in
        let tu : t ≡ u = sym (if_pos (ℕ_discrete x x) refl t (as_substitution σ x)) ∙ e x ∙ rw p (if_pos (ℕ_discrete y y) refl u (as_substitution τ y)) in
        let rest : (v : ℕ) → as_substitution σ v ≡ as_substitution τ v = λ v. elim (ℕ_discrete v x) [
          | yes z ↦ below_stays (suc x) σ r.1 v (omega arith) ∙ sym (below_stays (suc x) τ q' v (omega arith))
          | no z ↦
              sym (if_neg (ℕ_discrete v x) z t (as_substitution σ v)) ∙ e v ∙ if_neg (ℕ_discrete v y) (λ w. z (w ∙ sym p)) u (as_substitution τ v)
        ] in
        let tails : σ ≡ τ = ih q' (λ z h. a z (inr h)) (λ z h. b z (inr h)) rest in
        cc

module _ {s t : Term} where
  -- the second use of a most general unifier changes nothing
  pub idempotent : {σ : List Binding} → IsMgu s t σ → (v : ℕ) → substitute (as_substitution σ) (as_substitution σ v) ≡ as_substitution σ v
  idempotent {σ} m v = go (becomes σ v)
    where
      go : Becomes σ v → substitute (as_substitution σ) (as_substitution σ v) ≡ as_substitution σ v
      go (stays f e) = rw e e
      go (binds u h e) = rw e (substitute_agree (as_substitution σ) var u each ∙ substitute_var u)
        where
          each : (w : ℕ) → Occurs w u → as_substitution σ w ≡ var w
          each w o = elim (becomes σ w) [ binds u' h' e' ↦ absurd (m.apart v w u u' h h' o) | stays f e' ↦ e' ]

  -- a unifier is not changed by a most general one before it
  pub absorbed : {σ : List Binding} → IsMgu s t σ → (θ : Substitution) → Unifies s t θ → (v : ℕ) → substitute θ (as_substitution σ v) ≡ θ v
  absorbed {σ} m θ h v =
      let (δ, e) = m.general θ h in
      substitute_agree θ (λ w. substitute δ (as_substitution σ w)) (as_substitution σ v) (λ w _. e w)
      ∙ sym (substitute_twice δ (as_substitution σ) (as_substitution σ v))
      ∙ ap (substitute δ) (idempotent m v)
      ∙ sym (e v)

  -- a variable that becomes a variable becomes no higher one
  pub lowest_stays : {σ : List Binding} → IsMgu s t σ → (v w : ℕ) → as_substitution σ v ≡ var w → w ≤ v
  lowest_stays {σ} m v w e = elim (becomes σ v) [
    | binds u h k ↦ let l : w < v = m.lowest v w (rw (sym e ∙ k) h) in omega arith
    | stays f k ↦ let l : v ≡ w = cc in omega arith
  ]

  proper : {σ : List Binding} → IsMgu s t σ → Proper σ
  proper m x h = let k = m.lowest x x h in omega arith

  -- two most general unifiers leave the same variables as they are
  stays_both : {σ τ : List Binding} → IsMgu s t σ → IsMgu s t τ → (w : ℕ) → as_substitution σ w ≡ var w → as_substitution τ w ≡ var w
  stays_both {σ} {τ} m n w e = go (as_substitution τ w) refl
    where
      go : (u : Term) → as_substitution τ w ≡ u → as_substitution τ w ≡ var w
      go (var u) k =
          let b : as_substitution σ u ≡ var w =
          sym (ap (substitute (as_substitution σ)) k) ∙ absorbed n (as_substitution σ) m.unifies w ∙ e in
          let l₁ = lowest_stays m u w b in
          let l₂ = lowest_stays n w u k in
          k ∙ ap var (omega arith)
      go (app f us) k =
          let b : app f (substitute_all (as_substitution σ) us) ≡ var w =
          sym (ap (substitute (as_substitution σ)) k) ∙ absorbed n (as_substitution σ) m.unifies w ∙ e in
          cc

  same_substitution : {σ τ : List Binding} → IsMgu s t σ → IsMgu s t τ → (v : ℕ) → as_substitution σ v ≡ as_substitution τ v
  same_substitution {σ} {τ} m n v =
      let u = as_substitution σ v in
      let each : (w : ℕ) → Occurs w u → as_substitution τ w ≡ var w =
      λ w o. stays_both m n w (agree_substitute (as_substitution σ) var u (idempotent m v ∙ sym (substitute_var u)) w o) in
      sym (substitute_var u) ∙ sym (substitute_agree (as_substitution τ) var u each) ∙ absorbed m (as_substitution τ) n.unifies v

  -- there is at most one
  pub unique : (σ τ : List Binding) → IsMgu s t σ → IsMgu s t τ → σ ≡ τ
  unique σ τ m n = same_list 0 σ τ m.rising n.rising (proper m) (proper n) (same_substitution m n)
