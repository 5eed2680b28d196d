-- The bench sheet's lines on terms, computed from the definitions.
use Rattle.std.specs.Prelude.{◌≡◌, refl, List, [], ◌∷◌}
use Rattle.std.proofs.Math.Option.{none, some}
use Rattle.std.proofs.Math.Decide.{ℕ_discrete, dec_lt}
use Rattle.records.specs.Format.Syntax.{Term, Goal, Definition}
use Rattle.records.specs.Format.Syntax.Term.{var, app}
use Rattle.records.specs.Format.Syntax.Terms.{nil, cons}
use Rattle.records.specs.Format.Syntax.Goal.{equal, disj}
use Rattle.records.specs.Format.Syntax.Half.{first}
use Rattle.records.specs.Format.Syntax.Ancestor.{called}
use Rattle.records.specs.Format.Syntax.Binding.{bind}
use Rattle.records.specs.Format.Syntax.Bet.{unifier, or, by}
use Rattle.records.specs.Format.Syntax.Definition.{definition}
use Rattle.terms.specs.Theory.Substitution.{apply}
use Rattle.terms.specs.Theory.Unify.{unify}
use Rattle.terms.specs.Theory.Outcome.{value, value_under, unified, unified_under}
use Rattle.terms.specs.Body.Body.{too_many, undefined, defined, next_variable, definition_of, body}

-- the constants a and b, and f of one and of two terms
abbrev a : Term
a = app 0 nil

abbrev b : Term
b = app 1 nil

abbrev f₁ : Term → Term
f₁ t = app 2 (cons t nil)

abbrev f₂ : Term → Term → Term
f₂ t u = app 2 (cons t (cons u nil))

-- V0=f(V0) fails
variable_inside : unify (var 0) (f₁ (var 0)) ≡ none
unfolding unify ℕ_discrete dec_lt
variable_inside = refl

-- V3=V7 binds 7 to 3, and so does V7=V3
lowest_number_stays : unify (var 3) (var 7) ≡ some (bind 7 (var 3) ∷ [])
unfolding unify ℕ_discrete dec_lt
lowest_number_stays = refl

lowest_number_stays_right : unify (var 7) (var 3) ≡ some (bind 7 (var 3) ∷ [])
unfolding unify ℕ_discrete dec_lt
lowest_number_stays_right = refl

-- f(V0,V0)=f(V1,a) binds 0 and 1 to a
both_bound : unify (f₂ (var 0) (var 0)) (f₂ (var 1) a) ≡ some (bind 0 a ∷ bind 1 a ∷ [])
unfolding unify ℕ_discrete dec_lt
both_bound = refl

-- S(T): the bottom unifier first, the top last
bottom_first : apply (unifier (bind 1 a ∷ []) ∷ or first ∷ unifier (bind 0 (f₁ (var 1)) ∷ []) ∷ []) (f₂ (var 0) (var 1)) ≡ f₂ (f₁ a) a
unfolding apply ℕ_discrete
bottom_first = refl

-- the value of V0 under the same bets, and an equality under them
value_of_zero : value (unifier (bind 1 a ∷ []) ∷ unifier (bind 0 (f₁ (var 1)) ∷ []) ∷ []) 0 ≡ some (f₁ a)
unfolding value_under apply ℕ_discrete
value_of_zero = refl

equal_under : unified_under (unifier (bind 0 b ∷ []) ∷ []) (var 0) (var 1) ≡ unified (bind 1 b ∷ [])
unfolding unified_under value_under apply unify ℕ_discrete dec_lt
equal_under = refl

-- p(V) has body V=a;V=b
abbrev p_program : List Definition
p_program = definition 0 1 0 (disj (equal (var 0) a) (equal (var 0) b)) ∷ []

body_of_p : body p_program 0 (cons (var 5) nil) [] [] ≡ defined (disj (equal (var 5) a) (equal (var 5) b))
unfolding body definition_of next_variable
body_of_p = refl

-- without a definition of this arity
no_definition : body p_program 0 nil [] [] ≡ undefined
unfolding body definition_of next_variable
no_definition = refl

-- a local is numbered above all of the call event: with variable 65,534 there is a number for one local, with 65,535 there is none
abbrev one_local : List Definition
one_local = definition 0 1 1 (equal (var 0) (var 1)) ∷ []

local_numbered : body one_local 0 (cons (f₁ (var 2)) nil) (called 7 (cons (var 65534) nil) ∷ []) [] ≡ defined (equal (f₁ (var 2)) (var 65535))
unfolding body definition_of next_variable
local_numbered = refl

local_too_many : body one_local 0 (cons (var 65535) nil) [] [] ≡ too_many
unfolding body definition_of next_variable
local_too_many = refl

-- SPECIFICATION 11.18: a goal holds variable 4, a bet holds 9, and nothing holds a greater one: the locals are 10 and 11. A bet holds a variable that it
-- binds, that stands in a term which it binds, or in the goal of a BY.
abbrev two_locals : List Definition
two_locals = definition 0 1 2 (equal (f₁ (var 1)) (f₂ (var 0) (var 2))) ∷ []

abbrev from_10 : Goal
from_10 = equal (f₁ (var 10)) (f₂ (var 4) (var 11))

above_bound : body two_locals 0 (cons (var 4) nil) [] (unifier (bind 9 a ∷ []) ∷ []) ≡ defined from_10
unfolding body definition_of next_variable
above_bound = refl

above_term : body two_locals 0 (cons (var 4) nil) [] (or first ∷ unifier (bind 3 (f₁ (var 9)) ∷ []) ∷ []) ≡ defined from_10
unfolding body definition_of next_variable
above_term = refl

above_by : body two_locals 0 (cons (var 4) nil) [] (unifier [] ∷ by (equal (var 9) a) ∷ []) ≡ defined from_10
unfolding body definition_of next_variable
above_by = refl

-- a bet that holds 65,535 leaves no number for a local, and is nothing to a definition without locals
bet_too_many : body one_local 0 (cons a nil) [] (unifier (bind 65535 a ∷ []) ∷ []) ≡ too_many
unfolding body definition_of next_variable
bet_too_many = refl

no_local_needed : body p_program 0 (cons a nil) [] (unifier (bind 65535 a ∷ []) ∷ []) ≡ defined (disj (equal a a) (equal a b))
unfolding body definition_of next_variable
no_local_needed = refl
