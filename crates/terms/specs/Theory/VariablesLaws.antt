-- Laws of the lists of variable numbers: occurrence in a term is standing in its list, and a rising list within another is no longer.
use Rattle.std.specs.Prelude.{◌≡◌, refl, ◌⊎◌, List, [], ◌∷◌, ◌++◌, ℕ, ◌+◌, ◌*◌, ◌≤◌, ◌<◌, length}
use Rattle.std.proofs.Common.{sym, ◌∙◌, inl, inr, arith, length-append}
use Rattle.std.proofs.Math.Logic.{ite}
use Rattle.std.proofs.Math.Decide.{ℕ_discrete}
use Rattle.records.specs.Format.Syntax.{Term, Terms}
use Rattle.records.specs.Format.Syntax.Term.{var, app}
use Rattle.records.specs.Format.Syntax.Terms.{nil, cons}
use Rattle.records.specs.Gate.RecordRules.{term_variables, terms_variables}
use Rattle.records.specs.Ends.Above.{above}
use Rattle.terms.specs.Theory.Substitution.{Occurs, OccursIn, Either, term_length, terms_length}
use Rattle.terms.specs.Theory.SubstitutionLaws.{terms_length_cons}
use Rattle.terms.specs.Theory.Variables.{Among, both_variables, without}

-- what stands in two lists, one after the other
pub among_left : (v : ℕ) (l m : List ℕ) → Among v l → Among v (l ++ m)
among_left v [] m h = absurd h
among_left v (w ∷ l) m (inl e) = inl e
among_left v (w ∷ l) m (inr h) = inr (among_left v l m h)

pub among_right : (v : ℕ) (l m : List ℕ) → Among v m → Among v (l ++ m)
among_right v [] m h = h
among_right v (w ∷ l) m h = inr (among_right v l m h)

pub among_either : (v : ℕ) (l m : List ℕ) → Among v (l ++ m) → Among v l ⊎ Among v m
among_either v [] m h = inr h
among_either v (w ∷ l) m (inl e) = inl (inl e)
among_either v (w ∷ l) m (inr h) = elim (among_either v l m h) [ inl k ↦ inl (inr k) | inr k ↦ inr k ]

-- a variable occurs in a term exactly when it stands in the list of its variables
mutual
  pub occurs_among : (v : ℕ) (t : Term) → Occurs v t → Among v (term_variables t)
  occurs_among v (var w) o = inl o
  occurs_among v (app f ts) o = occurs_in_among v ts o

  pub occurs_in_among : (v : ℕ) (ts : Terms) → OccursIn v ts → Among v (terms_variables ts)
  occurs_in_among v nil o = o
  occurs_in_among v (cons t ts) (inl o) = among_left v (term_variables t) (terms_variables ts) (occurs_among v t o)
  occurs_in_among v (cons t ts) (inr o) = among_right v (term_variables t) (terms_variables ts) (occurs_in_among v ts o)

mutual
  pub among_occurs : (v : ℕ) (t : Term) → Among v (term_variables t) → Occurs v t
  among_occurs v (var w) (inl e) = e
  among_occurs v (var w) (inr h) = absurd h
  among_occurs v (app f ts) h = among_occurs_in v ts h

  pub among_occurs_in : (v : ℕ) (ts : Terms) → Among v (terms_variables ts) → OccursIn v ts
  among_occurs_in v nil h = h
  among_occurs_in v (cons t ts) h = elim (among_either v (term_variables t) (terms_variables ts) h) [
    | inl k ↦ inl (among_occurs v t k)
    | inr k ↦ inr (among_occurs_in v ts k)
  ]

pub either_among : (v : ℕ) (s t : Term) → Either v s t → Among v (both_variables s t)
either_among v s t (inl o) = among_left v (term_variables s) (term_variables t) (occurs_among v s o)
either_among v s t (inr o) = among_right v (term_variables s) (term_variables t) (occurs_among v t o)

pub among_both : (v : ℕ) (s t : Term) → Among v (both_variables s t) → Either v s t
among_both v s t h = elim (among_either v (term_variables s) (term_variables t) h) [
  | inl k ↦ inl (among_occurs v s k)
  | inr k ↦ inr (among_occurs v t k)
]

-- `above` is above every number of the list, and no higher than a bound of them
pub among_above : (v : ℕ) (l : List ℕ) → Among v l → v < above l
among_above v [] h = absurd h
among_above v (w ∷ l) (inl e) = omega arith
among_above v (w ∷ l) (inr h) = let k = among_above v l h in omega arith

pub above_least : (n : ℕ) (l : List ℕ) → ((v : ℕ) → Among v l → v < n) → above l ≤ n
above_least n [] h = omega arith
above_least n (w ∷ l) h =
    let k = above_least n l (λ v m. h v (inr m)) in
    let j = h w (inl refl) in
    omega arith

pub either_above : (v : ℕ) (s t : Term) → Either v s t → v < above (both_variables s t)
either_above v s t o = among_above v (both_variables s t) (either_among v s t o)

-- a list without x is shorter, and keeps the others
pub without_shorter : (x : ℕ) (l : List ℕ) → Among x l → length (without x l) < length l
without_shorter x [] m = absurd m
without_shorter x (w ∷ l) m = go (ℕ_discrete x w) m (λ k. without_shorter x l k)
  where
    go : (d : Dec (x ≡ w)) → Among x (w ∷ l) → (Among x l → length (without x l) < length l)
        → length (ite d l (w ∷ without x l)) < length (w ∷ l)
    go (yes e) k ih = omega arith
    go (no n) (inl e) ih = absurd (n e)
    go (no n) (inr k) ih = let z = ih k in omega arith

pub without_keeps : (x v : ℕ) (l : List ℕ) → (v ≡ x → ⊥) → Among v l → Among v (without x l)
without_keeps x v [] n m = m
without_keeps x v (w ∷ l) n m = go (ℕ_discrete x w) m (λ k. without_keeps x v l n k)
  where
    go : (d : Dec (x ≡ w)) → Among v (w ∷ l) → (Among v l → Among v (without x l)) → Among v (ite d l (w ∷ without x l))
    go (yes e) (inl k) ih = absurd (n (k ∙ sym e))
    go (yes e) (inr k) ih = k
    go (no p) (inl k) ih = inl k
    go (no p) (inr k) ih = inr (ih k)

-- a variable takes three bytes
mutual
  pub variables_length : (t : Term) → 3 * length (term_variables t) ≤ term_length t
  variables_length (var v) = omega arith
  variables_length (app f ts) = let h = variables_in_length ts in omega arith

  pub variables_in_length : (ts : Terms) → 3 * length (terms_variables ts) ≤ terms_length ts
  variables_in_length nil = omega arith
  variables_in_length (cons t ts) =
      let h = variables_length t in
      let k = variables_in_length ts in
      omega (arith, length-append (term_variables t) (terms_variables ts), terms_length_cons t ts)

pub both_variables_length : (s t : Term) → 3 * length (both_variables s t) ≤ term_length s + term_length t
both_variables_length s t =
    omega (arith, length-append (term_variables s) (term_variables t), variables_length s, variables_length t)
