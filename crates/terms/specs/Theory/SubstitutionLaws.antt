-- Laws of substitution: composition, agreement, the variables of an image, the occurs check, and lengths, which never shrink.
use Rattle.std.specs.Prelude.{◌≡◌, refl, List, [], ◌∷◌, ◌++◌, ℕ, suc, ◌+◌, ◌≤◌}
use Rattle.std.proofs.Common.{ap, ap₂, inl, inr, arith, length-append}
use Rattle.records.specs.Format.Syntax.{Term, Terms, Bet, arity}
use Rattle.records.specs.Format.Syntax.Term.{var, app}
use Rattle.records.specs.Format.Syntax.Terms.{nil, cons}
use Rattle.records.specs.Format.Syntax.Bet.{unifier, or, by}
use Rattle.records.specs.Format.Encode.{term_bytes, terms_bytes}
use Rattle.terms.specs.Theory.Substitution.{Substitution, substitute, substitute_all, as_substitution, apply, Occurs, OccursIn, term_length, terms_length}

-- one substitution after another is a substitution
mutual
  pub substitute_twice : (θ σ : Substitution) (t : Term) → substitute θ (substitute σ t) ≡ substitute (λ v. substitute θ (σ v)) t
  substitute_twice θ σ (var v) = refl
  substitute_twice θ σ (app f ts) = ap (app f) (substitute_all_twice θ σ ts)

  pub substitute_all_twice : (θ σ : Substitution) (ts : Terms)
      → substitute_all θ (substitute_all σ ts) ≡ substitute_all (λ v. substitute θ (σ v)) ts
  substitute_all_twice θ σ nil = refl
  substitute_all_twice θ σ (cons t ts) = ap₂ cons (substitute_twice θ σ t) (substitute_all_twice θ σ ts)

-- substitutions that agree at the variables of a term agree at the term
mutual
  pub substitute_agree : (θ σ : Substitution) (t : Term) → ((v : ℕ) → Occurs v t → θ v ≡ σ v) → substitute θ t ≡ substitute σ t
  substitute_agree θ σ (var v) h = h v refl
  substitute_agree θ σ (app f ts) h = ap (app f) (substitute_all_agree θ σ ts h)

  pub substitute_all_agree : (θ σ : Substitution) (ts : Terms) → ((v : ℕ) → OccursIn v ts → θ v ≡ σ v)
      → substitute_all θ ts ≡ substitute_all σ ts
  substitute_all_agree θ σ nil h = refl
  substitute_all_agree θ σ (cons t ts) h =
      ap₂ cons (substitute_agree θ σ t (λ v o. h v (inl o))) (substitute_all_agree θ σ ts (λ v o. h v (inr o)))

-- and conversely
mutual
  pub agree_substitute : (θ σ : Substitution) (t : Term) → substitute θ t ≡ substitute σ t → (v : ℕ) → Occurs v t → θ v ≡ σ v
  agree_substitute θ σ (var w) e v o = rw o e
  agree_substitute θ σ (app f ts) e v o = agree_substitute_all θ σ ts (cc) v o

  agree_substitute_all : (θ σ : Substitution) (ts : Terms) → substitute_all θ ts ≡ substitute_all σ ts
      → (v : ℕ) → OccursIn v ts → θ v ≡ σ v
  agree_substitute_all θ σ nil e v o = absurd o
  agree_substitute_all θ σ (cons t ts) e v (inl o) = agree_substitute θ σ t (cc) v o
  agree_substitute_all θ σ (cons t ts) e v (inr o) = agree_substitute_all θ σ ts (cc) v o

-- the substitution that changes nothing
mutual
  pub substitute_var : (t : Term) → substitute var t ≡ t
  substitute_var (var v) = refl
  substitute_var (app f ts) = ap (app f) (substitute_all_var ts)

  pub substitute_all_var : (ts : Terms) → substitute_all var ts ≡ ts
  substitute_all_var nil = refl
  substitute_all_var (cons t ts) = ap₂ cons (substitute_var t) (substitute_all_var ts)

-- a variable of an image comes from a variable of the term
mutual
  pub occurs_substitute : (θ : Substitution) (t : Term) (v : ℕ) → Occurs v (substitute θ t) → (w : ℕ) × Occurs w t × Occurs v (θ w)
  occurs_substitute θ (var w) v o = (w, refl, o)
  occurs_substitute θ (app f ts) v o = occurs_substitute_all θ ts v o

  pub occurs_substitute_all : (θ : Substitution) (ts : Terms) (v : ℕ) → OccursIn v (substitute_all θ ts)
      → (w : ℕ) × OccursIn w ts × Occurs v (θ w)
  occurs_substitute_all θ nil v o = absurd o
  occurs_substitute_all θ (cons t ts) v (inl o) = let r = occurs_substitute θ t v o in (r.0, inl r.1, r.2)
  occurs_substitute_all θ (cons t ts) v (inr o) = let r = occurs_substitute_all θ ts v o in (r.0, inr r.1, r.2)

-- arguments stay as many
pub arity_substitute : (θ : Substitution) (ts : Terms) → arity (substitute_all θ ts) ≡ arity ts
arity_substitute θ nil = refl
arity_substitute θ (cons t ts) = ap suc (arity_substitute θ ts)

-- every term has at least the three bytes of a variable
pub term_length_least : (t : Term) → 3 ≤ term_length t
term_length_least (var v) = omega arith
term_length_least (app f ts) = omega arith

pub terms_length_cons : (t : Term) (ts : Terms) → terms_length (cons t ts) ≡ term_length t + terms_length ts
terms_length_cons t ts = length-append (term_bytes t) (terms_bytes ts)

-- an image is at least as long as the image of each variable that occurs
mutual
  pub occurs_length : (θ : Substitution) (v : ℕ) (t : Term) → Occurs v t → term_length (θ v) ≤ term_length (substitute θ t)
  occurs_length θ v (var w) o = rw o (omega arith)
  occurs_length θ v (app f ts) o = let h = occurs_in_length θ v ts o in omega arith

  pub occurs_in_length : (θ : Substitution) (v : ℕ) (ts : Terms) → OccursIn v ts → term_length (θ v) ≤ terms_length (substitute_all θ ts)
  occurs_in_length θ v nil o = absurd o
  occurs_in_length θ v (cons t ts) (inl o) =
      let h = occurs_length θ v t o in
      omega (arith, terms_length_cons (substitute θ t) (substitute_all θ ts))
  occurs_in_length θ v (cons t ts) (inr o) =
      let h = occurs_in_length θ v ts o in
      omega (arith, terms_length_cons (substitute θ t) (substitute_all θ ts))

-- no substitution makes a variable equal to a term around it
pub occurs_check : (θ : Substitution) (v f : ℕ) (ts : Terms) → OccursIn v ts → θ v ≡ app f (substitute_all θ ts) → ⊥
occurs_check θ v f ts o e =
    let h = occurs_in_length θ v ts o in
    let k : term_length (θ v) ≡ term_length (app f (substitute_all θ ts)) = ap term_length e in
    omega arith

-- lengths never shrink
mutual
  pub substitute_length : (θ : Substitution) (t : Term) → term_length t ≤ term_length (substitute θ t)
  substitute_length θ (var v) = term_length_least (θ v)
  substitute_length θ (app f ts) = let h = substitute_all_length θ ts in omega arith

  pub substitute_all_length : (θ : Substitution) (ts : Terms) → terms_length ts ≤ terms_length (substitute_all θ ts)
  substitute_all_length θ nil = omega arith
  substitute_all_length θ (cons t ts) =
      let h = substitute_length θ t in
      let k = substitute_all_length θ ts in
      omega (arith, terms_length_cons t ts, terms_length_cons (substitute θ t) (substitute_all θ ts))

-- the upper part of a stack after the lower part
pub apply_append : (upper lower : List Bet) (t : Term) → apply (upper ++ lower) t ≡ apply upper (apply lower t)
unfolding apply
apply_append [] lower t = refl
apply_append (unifier σ ∷ upper) lower t = ap (substitute (as_substitution σ)) (apply_append upper lower t)
apply_append (or h ∷ upper) lower t = apply_append upper lower t
apply_append (by g ∷ upper) lower t = apply_append upper lower t

pub apply_length : (bets : List Bet) (t : Term) → term_length t ≤ term_length (apply bets t)
unfolding apply
apply_length [] t = omega arith
apply_length (unifier σ ∷ bets) t =
    let h = apply_length bets t in
    let k = substitute_length (as_substitution σ) (apply bets t) in
    omega arith
apply_length (or h ∷ bets) t = apply_length bets t
apply_length (by g ∷ bets) t = apply_length bets t
