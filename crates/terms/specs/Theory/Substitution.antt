-- Substitution: what a unifier does to a term, and S(T), what a bet stack makes of a term (SPECIFICATION 3).
-- Choices: a substitution is a function from variables to terms, and a list of bindings is read as one; it is applied once and to all variables
-- at the same time; which variables occur in a term is stated as a type and can be decided.
use Rattle.std.specs.Prelude.{◌≡◌, ◌⊎◌, List, [], ◌∷◌, ℕ, length}
use Rattle.std.proofs.Common.{inl, inr}
use Rattle.std.proofs.Math.Logic.{ite}
use Rattle.std.proofs.Math.Decide.{ℕ_discrete}
use Rattle.records.specs.Format.Syntax.{Term, Terms, Binding, Bet}
use Rattle.records.specs.Format.Syntax.Term.{var, app}
use Rattle.records.specs.Format.Syntax.Terms.{nil, cons}
use Rattle.records.specs.Format.Syntax.Binding.{bind}
use Rattle.records.specs.Format.Syntax.Bet.{unifier, or, by}
use Rattle.records.specs.Format.Encode.{term_bytes, terms_bytes}

-- the term that each variable becomes
abbrev pub Substitution : Type 0
Substitution = ℕ → Term

-- every variable of a term, or of an argument list, becomes its term
abbrev mutual
  pub substitute : Substitution → Term → Term
  substitute θ (var v) = θ v
  substitute θ (app f ts) = app f (substitute_all θ ts)

  pub substitute_all : Substitution → Terms → Terms
  substitute_all θ nil = nil
  substitute_all θ (cons t ts) = cons (substitute θ t) (substitute_all θ ts)

-- one substitution and then another
abbrev pub and_then : Substitution → Substitution → Substitution
and_then σ θ v = substitute θ (σ v)

-- a bound variable becomes the term of its binding, any other stays
abbrev pub as_substitution : List Binding → Substitution
as_substitution [] v = var v
as_substitution (bind x t ∷ σ) v = ite (ℕ_discrete v x) t (as_substitution σ v)

-- S(T) (SPECIFICATION 3.2): unifiers are applied from the bottom of the stack up, and the list has the top first; other bets have no effect
unfoldable pub apply : List Bet → Term → Term
apply [] t = t
apply (unifier σ ∷ bets) t = substitute (as_substitution σ) (apply bets t)
apply (or h ∷ bets) t = apply bets t
apply (by g ∷ bets) t = apply bets t

-- the variable v occurs in a term, or in an argument list
abbrev mutual
  pub Occurs : ℕ → Term → Type 0
  Occurs v (var w) = v ≡ w
  Occurs v (app f ts) = OccursIn v ts

  pub OccursIn : ℕ → Terms → Type 0
  OccursIn v nil = ⊥
  OccursIn v (cons t ts) = Occurs v t ⊎ OccursIn v ts

-- v occurs in one of two terms
abbrev pub Either : ℕ → Term → Term → Type 0
Either v s t = Occurs v s ⊎ Occurs v t

-- one of two decidable facts
abbrev pub either? : {A B : Type 0} → Dec A → Dec B → Dec (A ⊎ B)
either? (yes a) e = yes (inl a)
either? (no h) (yes b) = yes (inr b)
either? (no h) (no k) = no (λ x. elim x [ inl a ↦ h a | inr b ↦ k b ])

-- whether v occurs
abbrev mutual
  pub occurs? : (v : ℕ) (t : Term) → Dec (Occurs v t)
  occurs? v (var w) = ℕ_discrete v w
  occurs? v (app f ts) = occurs_in? v ts

  pub occurs_in? : (v : ℕ) (ts : Terms) → Dec (OccursIn v ts)
  occurs_in? v nil = no (λ o. o)
  occurs_in? v (cons t ts) = either? (occurs? v t) (occurs_in? v ts)

-- the length of a term in bytes, and of an argument list
abbrev pub term_length : Term → ℕ
term_length t = length (term_bytes t)

abbrev pub terms_length : Terms → ℕ
terms_length ts = length (terms_bytes ts)
