-- The unifier as a function: while two terms differ, their leftmost difference says which variable must become which term, or that no
-- substitution helps (Robinson). Each turn removes a variable, so there are at most as many turns as variables.
use Rattle.std.proofs.Math.Logic.{ite}
use Rattle.std.specs.Prelude.{◌≡◌, List, [], ◌∷◌, ℕ, zero, suc, ◌<◌, length}
use Rattle.std.proofs.Math.Option.{Option, none, some}
use Rattle.std.proofs.Math.Decide.{ℕ_discrete, dec_lt}
use Rattle.std.proofs.Common.{arith}
use Rattle.records.specs.Format.Syntax.{Term, Terms, Binding}
use Rattle.records.specs.Format.Syntax.Term.{var, app}
use Rattle.records.specs.Format.Syntax.Terms.{nil, cons}
use Rattle.records.specs.Format.Syntax.Binding.{bind}
use Rattle.records.specs.Ends.Above.{above}
use Rattle.terms.specs.Theory.Substitution.{Substitution, substitute, as_substitution, occurs_in?}
use Rattle.terms.specs.Theory.Variables.{both_variables}

-- how two numbers compare
pub data Compared (x y : ℕ) : Type 0 where
  less : x < y → Compared x y
  same : x ≡ y → Compared x y
  more : y < x → Compared x y

-- by the two decisions
abbrev compared : (x y : ℕ) → Dec (x < y) → Dec (y < x) → Compared x y
compared x y (yes h) d = less h
compared x y (no h) (yes k) = more k
compared x y (no h) (no k) = same (omega arith)

-- x against y
abbrev pub compare : (x y : ℕ) → Compared x y
compare x y = compared x y (dec_lt x y) (dec_lt y x)

-- The leftmost difference of two terms: none, one that no substitution removes, or a variable and the term that it must become.
pub data Difference : Type 0 where
  alike : Difference
  clash : Difference
  differ : ℕ → Term → Difference

-- of two variables the higher one becomes the lower one
abbrev pub of_variables : (x y : ℕ) → Compared x y → Difference
of_variables x y (less h) = differ y (var x)
of_variables x y (same e) = alike
of_variables x y (more h) = differ x (var y)

-- the first difference of two places, the left one first
abbrev pub first_difference : Difference → Difference → Difference
first_difference alike d = d
first_difference clash d = clash
first_difference (differ x u) d = differ x u

-- a variable and a larger term: a clash if it occurs there
abbrev mutual
  pub difference : Term → Term → Difference
  difference (var x) (var y) = of_variables x y (compare x y)
  difference (var x) (app g us) = ite (occurs_in? x us) clash (differ x (app g us))
  difference (app f ts) (var y) = ite (occurs_in? y ts) clash (differ y (app f ts))
  difference (app f ts) (app g us) = ite (ℕ_discrete f g) (differences ts us) clash

  pub differences : Terms → Terms → Difference
  differences nil nil = alike
  differences nil (cons u us) = clash
  differences (cons t ts) nil = clash
  differences (cons t ts) (cons u us) = first_difference (difference t u) (differences ts us)

-- x becomes u
abbrev pub single : ℕ → Term → Substitution
single x u = as_substitution (bind x u ∷ [])

-- b first, then what is found
abbrev pub followed : Substitution → Option Substitution → Option Substitution
followed b none = none
followed b (some τ) = some (λ v. substitute τ (b v))

-- remove the leftmost difference d of s and t, and so on, n times at most
abbrev pub remove : ℕ → Difference → Term → Term → Option Substitution
remove zero alike s t = some var
remove zero clash s t = none
remove zero (differ x u) s t = none
remove (suc n) alike s t = some var
remove (suc n) clash s t = none
remove (suc n) (differ x u) s t =
    followed (single x u)
    (remove n (difference (substitute (single x u) s) (substitute (single x u) t)) (substitute (single x u) s) (substitute (single x u) t))

-- the binding of k to t in front of σ, unless t is k itself
abbrev pub put_binding : ℕ → Term → List Binding → List Binding
put_binding k (var w) σ = ite (ℕ_discrete w k) σ (bind k (var w) ∷ σ)
put_binding k (app f ts) σ = bind k (app f ts) ∷ σ

-- the bindings of θ for the n variables from k on
abbrev pub bindings : ℕ → ℕ → Substitution → List Binding
bindings k zero θ = []
bindings k (suc n) θ = put_binding k (θ k) (bindings (suc k) n θ)

-- the bindings of a found substitution for the variables below n
abbrev pub bindings_below : ℕ → Option Substitution → Option (List Binding)
bindings_below n none = none
bindings_below n (some θ) = some (bindings 0 n θ)

-- a substitution that unifies s and t, if there is one
abbrev pub unifying : Term → Term → Option Substitution
unifying s t = remove (length (both_variables s t)) (difference s t) s t

-- the unifier of s and t, none if they have none
unfoldable pub unify : Term → Term → Option (List Binding)
unify s t = bindings_below (above (both_variables s t)) (unifying s t)
