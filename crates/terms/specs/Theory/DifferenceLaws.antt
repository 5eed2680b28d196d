-- What the leftmost difference of two terms says of the substitutions that make them equal.
use Rattle.std.specs.Prelude.{◌≡◌, refl, ◌⊎◌, ℕ, ◌<◌}
use Rattle.std.proofs.Common.{sym, ap, ap₂, inl, inr, arith}
use Rattle.std.proofs.Math.Logic.{ite}
use Rattle.std.proofs.Math.Decide.{ℕ_discrete}
use Rattle.records.specs.Format.Never.{never}
use Rattle.records.specs.Format.Syntax.{Term, Terms}
use Rattle.records.specs.Format.Syntax.Term.{var, app}
use Rattle.records.specs.Format.Syntax.Terms.{nil, cons}
use Rattle.terms.specs.Theory.Substitution.{Substitution, substitute, substitute_all, Occurs, OccursIn, Either, occurs_in?}
use Rattle.terms.specs.Theory.SubstitutionLaws.{occurs_check}
use Rattle.terms.specs.Theory.Mgu.{Unifies}
use Rattle.terms.specs.Theory.Unify.{Compared, less, same, more, compare, Difference, alike, clash, differ, of_variables, first_difference, difference, differences}

-- x must become u: where Equal θ is that θ makes the two things equal, and In v that v occurs in one of them
pub record Differs (Equal : Substitution → Type 0) (In : ℕ → Type 0) (x : ℕ) (u : Term) : Type 0 where
  pub forced : (θ : Substitution) → Equal θ → θ x ≡ substitute θ u
  pub fresh : Occurs x u → ⊥
  pub lower : (y : ℕ) → u ≡ var y → y < x
  pub here : In x
  pub inside : (v : ℕ) → Occurs v u → In v

-- what a difference says: the two things are the same, or no substitution makes them equal, or x must become u
abbrev pub Says : Type 0 → (Substitution → Type 0) → (ℕ → Type 0) → Difference → Type 0
Says Same Equal In alike = Same
Says Same Equal In clash = (θ : Substitution) → Equal θ → ⊥
Says Same Equal In (differ x u) = Differs Equal In x u

-- a difference of two parts is a difference of the two wholes
differs_whole : {E F : Substitution → Type 0} {M N : ℕ → Type 0} → ((θ : Substitution) → F θ → E θ) → ((v : ℕ) → M v → N v)
    → (x : ℕ) (u : Term) → Differs E M x u → Differs F N x u
differs_whole e i x u h = record {
  forced = λ θ k. h.forced θ (e θ k);
  fresh = h.fresh;
  lower = h.lower;
  here = i x h.here;
  inside = λ v o. i v (h.inside v o);
}

says_whole : {S T : Type 0} {E F : Substitution → Type 0} {M N : ℕ → Type 0} → (S → T) → ((θ : Substitution) → F θ → E θ) → ((v : ℕ) → M v → N v)
    → (d : Difference) → Says S E M d → Says T F N d
says_whole f e i alike h = f h
says_whole f e i clash h = λ θ k. h θ (e θ k)
says_whole f e i (differ x u) h = differs_whole e i x u h

variables_say : (x y : ℕ) (c : Compared x y)
    → Says (var x ≡ var y) (λ θ. θ x ≡ θ y) (λ v. (v ≡ x) ⊎ (v ≡ y)) (of_variables x y c)
variables_say x y (less h) = record {
  forced = λ θ k. sym k;
  fresh = λ o. omega arith;
  lower = λ z e. let k : x ≡ z = cc in omega arith;
  here = inr refl;
  inside = λ v o. inl o;
}
variables_say x y (same e) = ap var e
variables_say x y (more h) = record {
  forced = λ θ k. k;
  fresh = λ o. omega arith;
  lower = λ z e. let k : y ≡ z = cc in omega arith;
  here = inl refl;
  inside = λ v o. inr o;
}

-- a variable and a larger term
variable_says : (x f : ℕ) (ts : Terms) (d : Dec (OccursIn x ts)) (Same : Type 0)
    → Says Same (λ θ. θ x ≡ app f (substitute_all θ ts)) (λ v. (v ≡ x) ⊎ OccursIn v ts) (ite d clash (differ x (app f ts)))
variable_says x f ts (yes o) Same = λ θ k. occurs_check θ x f ts o k
variable_says x f ts (no n) Same = record {
  forced = λ θ k. k;
  fresh = n;
  lower = λ y e. never cc;
  here = inl refl;
  inside = λ v o. inr o;
}

-- what a difference says of two argument lists
abbrev ArgumentsSay : Terms → Terms → Difference → Type 0
ArgumentsSay ts us d = Says (ts ≡ us) (λ θ. substitute_all θ ts ≡ substitute_all θ us) (λ v. OccursIn v ts ⊎ OccursIn v us) d

symbols_say : (f g : ℕ) (ts us : Terms) (c : Dec (f ≡ g)) (d : Difference) → ArgumentsSay ts us d
    → Says (app f ts ≡ app g us) (Unifies (app f ts) (app g us)) (λ v. Either v (app f ts) (app g us)) (ite c d clash)
symbols_say f g ts us (yes e) d h = says_whole (λ p. ap₂ app e p) (λ θ p. cc) (λ v o. o) d h
symbols_say f g ts us (no n) d h = λ θ p. n (cc)

arguments_say : (t u : Term) (ts us : Terms) (d e : Difference)
    → Says (t ≡ u) (Unifies t u) (λ v. Either v t u) d → ArgumentsSay ts us e → ArgumentsSay (cons t ts) (cons u us) (first_difference d e)
arguments_say t u ts us alike e a b =
    says_whole (λ p. ap₂ cons a p) (λ θ p. cc) (λ v o. elim o [ inl q ↦ inl (inr q) | inr q ↦ inr (inr q) ]) e b
arguments_say t u ts us clash e a b = λ θ p. a θ (cc)
arguments_say t u ts us (differ x w) e a b =
    differs_whole (λ θ p. cc) (λ v o. elim o [ inl q ↦ inl (inl q) | inr q ↦ inr (inl q) ]) x w a

swap : {A B : Type 0} → A ⊎ B → B ⊎ A
swap (inl a) = inr a
swap (inr b) = inl b

-- the leftmost difference of two terms, and of two argument lists
mutual
  pub difference_says : (s t : Term) → Says (s ≡ t) (Unifies s t) (λ v. Either v s t) (difference s t)
  difference_says (var x) (var y) = variables_say x y (compare x y)
  difference_says (var x) (app g us) = variable_says x g us (occurs_in? x us) (var x ≡ app g us)
  difference_says (app f ts) (var y) =
      says_whole (λ p. p) (λ θ p. sym p) (λ v o. swap o) (difference (app f ts) (var y))
      (variable_says y f ts (occurs_in? y ts) (app f ts ≡ var y))
  difference_says (app f ts) (app g us) = symbols_say f g ts us (ℕ_discrete f g) (differences ts us) (differences_say ts us)

  pub differences_say : (ts us : Terms) → ArgumentsSay ts us (differences ts us)
  differences_say nil nil = refl
  differences_say nil (cons u us) = λ θ p. never cc
  differences_say (cons t ts) nil = λ θ p. never cc
  differences_say (cons t ts) (cons u us) =
      arguments_say t u ts us (difference t u) (differences ts us) (difference_says t u) (differences_say ts us)
