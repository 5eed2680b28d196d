-- Laws of an atom's body: the body of a well-formed atom is well formed, and its variables are the atom's and new ones.
use Rattle.std.specs.Prelude.{◌≡◌, ◌⊎◌, List, [], ◌∷◌, ◌++◌, Bool, true, false, cond, ℕ, zero, suc, ◌+◌, ◌≤◌, ◌<◌, eqb, ltb}
use Rattle.std.proofs.Math.Path.{refl}
use Rattle.std.proofs.Common.{sym, ◌∙◌, ap, inl, inr, arith}
use Rattle.std.proofs.Math.Option.{Option, none, some}
use borrow.Author.Tests.{eqb-true, ltb-true, lt-ltb, ltb-false}
use Rattle.records.specs.Gate.RecordRulesLaws.{and_both}
use Rattle.records.specs.Format.Never.{never}
use Rattle.records.specs.Format.Syntax.{Terms, Goal, Ancestor, Binding, Bet, Definition, arity}
use Rattle.records.specs.Format.Syntax.Terms.{nil, cons}
use Rattle.records.specs.Format.Syntax.Goal.{truth, failure, equal, conj, disj, atom}
use Rattle.records.specs.Format.Syntax.Ancestor.{called, in_conj, in_disj}
use Rattle.records.specs.Format.Syntax.Binding.{bind}
use Rattle.records.specs.Format.Syntax.Bet.{unifier, or, by}
use Rattle.records.specs.Format.Syntax.Definition.{definition}
use Rattle.records.specs.Format.Encode.{each}
use Rattle.records.specs.Format.Formed.{TermFormed, TermsFormed, AtomFormed, GoalFormed, All, AncestorFormed, BindingFormed, BetFormed, DefinitionFormed}
use Rattle.records.specs.Gate.RecordRules.{term_variables, terms_variables, goal_variables, ancestor_variables, every, rising, keys, definition_rules, program_rules}
use Rattle.terms.specs.Theory.Substitution.{Substitution, substitute, substitute_all, Occurs, OccursIn}
use Rattle.terms.specs.Theory.SubstitutionLaws.{occurs_substitute, occurs_substitute_all, arity_substitute}
use Rattle.terms.specs.Theory.FormedLaws.{substitute_formed, substitute_all_formed, occurs_formed, occurs_in_formed}
use Rattle.terms.specs.Theory.Variables.{Among}
use Rattle.terms.specs.Theory.VariablesLaws.{
  among_left,
  among_right,
  among_either,
  occurs_among,
  occurs_in_among,
  among_occurs,
  among_occurs_in,
  among_above,
  above_least,
}
use Rattle.terms.specs.Theory.TestLaws.{every_all, all_among}
use Rattle.terms.specs.Body.Body.{
  ancestors_variables,
  pair_variables,
  bet_variables,
  bets_variables,
  event_variables,
  next_variable,
  numbered,
  substitute_goal,
  defines,
  definition_of,
  too_many,
  undefined,
  defined,
  locals_beyond,
  body_of,
  body,
}

-- every variable that occurs in the goal becomes a well-formed term: so does the whole
pub substitute_goal_formed : (θ : Substitution) (g : Goal) → ((v : ℕ) → Among v (goal_variables g) → TermFormed (θ v)) → GoalFormed g
    → GoalFormed (substitute_goal θ g)
substitute_goal_formed θ truth h k = tt
substitute_goal_formed θ failure h k = tt
substitute_goal_formed θ (equal t u) h k = (
  substitute_formed θ t (λ v o. h v (among_left v (term_variables t) (term_variables u) (occurs_among v t o))) k.0,
  substitute_formed θ u (λ v o. h v (among_right v (term_variables t) (term_variables u) (occurs_among v u o))) k.1,
)
substitute_goal_formed θ (conj a b) h k = (
  substitute_goal_formed θ a (λ v o. h v (among_left v (goal_variables a) (goal_variables b) o)) k.0,
  substitute_goal_formed θ b (λ v o. h v (among_right v (goal_variables a) (goal_variables b) o)) k.1,
)
substitute_goal_formed θ (disj a b) h k = (
  substitute_goal_formed θ a (λ v o. h v (among_left v (goal_variables a) (goal_variables b) o)) k.0,
  substitute_goal_formed θ b (λ v o. h v (among_right v (goal_variables a) (goal_variables b) o)) k.1,
)
substitute_goal_formed θ (atom p ts) h k =
    (k.0, rw (arity_substitute θ ts) k.1, substitute_all_formed θ ts (λ v o. h v (occurs_in_among v ts o)) k.2)

-- a variable of a well-formed goal, or of well-formed ancestors, fits two bytes
pub goal_variable_formed : (g : Goal) → GoalFormed g → (v : ℕ) → Among v (goal_variables g) → v < 65536
goal_variable_formed truth k v h = absurd h
goal_variable_formed failure k v h = absurd h
goal_variable_formed (equal t u) k v h = elim (among_either v (term_variables t) (term_variables u) h) [
  | inl o ↦ occurs_formed v t k.0 (among_occurs v t o)
  | inr o ↦ occurs_formed v u k.1 (among_occurs v u o)
]
goal_variable_formed (conj a b) k v h = elim (among_either v (goal_variables a) (goal_variables b) h) [
  | inl o ↦ goal_variable_formed a k.0 v o
  | inr o ↦ goal_variable_formed b k.1 v o
]
goal_variable_formed (disj a b) k v h = elim (among_either v (goal_variables a) (goal_variables b) h) [
  | inl o ↦ goal_variable_formed a k.0 v o
  | inr o ↦ goal_variable_formed b k.1 v o
]
goal_variable_formed (atom p ts) k v h = occurs_in_formed v ts k.2 (among_occurs_in v ts h)

-- so does one of a row whose items have such variables
each_formed : {A : Type 0} {Formed : A → Type 0} (variables : A → List ℕ) → ((a : A) → Formed a → (v : ℕ) → Among v (variables a) → v < 65536)
    → (l : List A) → All Formed l → (v : ℕ) → Among v (each variables l) → v < 65536
each_formed variables f [] k v h = absurd h
each_formed variables f (a ∷ l) k v h = elim (among_either v (variables a) (each variables l) h) [
  | inl o ↦ f a k.0 v o
  | inr o ↦ each_formed variables f l k.1 v o
]

ancestor_variable_formed : (a : Ancestor) → AncestorFormed a → (v : ℕ) → Among v (ancestor_variables a) → v < 65536
ancestor_variable_formed (called p ts) k v h = goal_variable_formed (atom p ts) k v h
ancestor_variable_formed (in_conj s a b) k v h = goal_variable_formed (conj a b) k v h
ancestor_variable_formed (in_disj s a b) k v h = goal_variable_formed (disj a b) k v h

pair_variable_formed : (b : Binding) → BindingFormed b → (v : ℕ) → Among v (pair_variables b) → v < 65536
pair_variable_formed (bind x t) k v (inl e) = rw e k.0
pair_variable_formed (bind x t) k v (inr o) = occurs_formed v t k.1 (among_occurs v t o)

bet_variable_formed : (b : Bet) → BetFormed b → (v : ℕ) → Among v (bet_variables b) → v < 65536
bet_variable_formed (unifier σ) k v h = each_formed pair_variables pair_variable_formed σ k.1 v h
bet_variable_formed (or n) k v h = absurd h
bet_variable_formed (by g) k v h = goal_variable_formed g k v h

-- the first new variable is above each that stands in the event,
pub next_above : (g : Goal) (u : List Ancestor) (s : List Bet) (v : ℕ) → Among v (event_variables g u s) → v < next_variable g u s
unfolding next_variable
next_above g u s v h = among_above v (event_variables g u s) h

-- and at most 65,536 in a well-formed one
pub next_variable_formed : (g : Goal) (u : List Ancestor) (s : List Bet) → GoalFormed g → All AncestorFormed u → All BetFormed s → next_variable g u s ≤ 65536
unfolding next_variable
next_variable_formed g u s h k l =
    above_least 65536 (event_variables g u s) (λ v o. elim (among_either v (goal_variables g) (ancestors_variables u ++ bets_variables s) o) [
      | inl p ↦ goal_variable_formed g h v p
      | inr p ↦ elim (among_either v (ancestors_variables u) (bets_variables s) p) [
        | inl q ↦ each_formed ancestor_variables ancestor_variable_formed u k v q
        | inr q ↦ each_formed bet_variables bet_variable_formed s l v q
      ]
    ])

-- arguments and new variables are well formed
numbered_formed : (ts : Terms) (m l i : ℕ) → TermsFormed ts → (0 < l → m + l ≤ 65536) → i < arity ts + l → TermFormed (numbered ts m i)
numbered_formed nil m l i h b k = let z = b (omega arith) in omega arith
numbered_formed (cons t ts) m l zero h b k = h.0
numbered_formed (cons t ts) m l (suc i) h b k = numbered_formed ts m l i h.1 b (omega arith)

locals_within : (m l : ℕ) → locals_beyond m l ≡ false → 0 < l → m + l ≤ 65536
locals_within m l h k = ltb-false 65536 (m + l) (rw (lt-ltb 0 l k) at h)

-- what is found is a definition of the program, of this predicate and arity
pub definition_found : (Φ : Definition → Type 0) (ds : List Definition) (p n : ℕ) (d : Definition) → definition_of ds p n ≡ some d → All Φ ds
    → Φ d × (defines p n d ≡ true)
unfolding definition_of
definition_found Φ [] p n d e h = never cc
definition_found Φ (c ∷ ds) p n d e h = go (defines p n c) refl e (λ q. definition_found Φ ds p n d q h.1)
  where
    go : (b : Bool) → defines p n c ≡ b → cond b (some c) (definition_of ds p n) ≡ some d
        → (definition_of ds p n ≡ some d → Φ d × (defines p n d ≡ true)) → Φ d × (defines p n d ≡ true)
    go true q f ih = let z : c ≡ d = cc in (rw z at h.0, ap (defines p n) (sym z) ∙ q)
    go false q f ih = ih f

-- a body is made from the definition of its atom's predicate, for whose locals there are numbers
pub record MadeFrom (program : List Definition) (p : ℕ) (ts : Terms) (m : ℕ) (g : Goal) : Type 0 where
  pub predicate : ℕ
  pub heads : ℕ
  pub locals : ℕ
  pub goal : Goal
  pub found : definition_of program p (arity ts) ≡ some (definition predicate heads locals goal)
  pub numbers : locals_beyond m locals ≡ false
  pub is : substitute_goal (numbered ts m) goal ≡ g

-- whatever number m its locals start at
module _ (program : List Definition) (p : ℕ) (ts : Terms) (m : ℕ) where
  pub numbered_made : (g : Goal) → body_of (definition_of program p (arity ts)) ts m ≡ defined g → MadeFrom program p ts m g
  numbered_made g e = go (definition_of program p (arity ts)) refl e
    where
      given : (q n l : ℕ) (b : Goal) → definition_of program p (arity ts) ≡ some (definition q n l b) → (c : Bool) → locals_beyond m l ≡ c
          → cond c too_many (defined (substitute_goal (numbered ts m) b)) ≡ defined g → MadeFrom program p ts m g
      given q n l b i true z f = never cc
      given q n l b i false z f = record { predicate = q; heads = n; locals = l; goal = b; found = i; numbers = z; is = cc }

      go : (o : Option Definition) → definition_of program p (arity ts) ≡ o → body_of o ts m ≡ defined g → MadeFrom program p ts m g
      go none i f = never cc
      go (some (definition q n l b)) i f = given q n l b i (locals_beyond m l) refl f

  -- and where there is no body there is no definition
  pub numbered_missing : body_of (definition_of program p (arity ts)) ts m ≡ undefined → definition_of program p (arity ts) ≡ none
  numbered_missing e = go (definition_of program p (arity ts)) e
    where
      given : (b : Goal) (c : Bool) → cond c too_many (defined (substitute_goal (numbered ts m) b)) ≡ undefined → ⊥
      given b true f = never cc
      given b false f = never cc

      go : (o : Option Definition) → body_of o ts m ≡ undefined → o ≡ none
      go none f = refl
      go (some (definition q n l b)) f = absurd (given b (locals_beyond m l) f)

module _ (program : List Definition) (p : ℕ) (ts : Terms) (u : List Ancestor) (s : List Bet) where
  pub body_made : (g : Goal) → body program p ts u s ≡ defined g → MadeFrom program p ts (next_variable (atom p ts) u s) g
  unfolding body
  body_made g e = numbered_made program p ts (next_variable (atom p ts) u s) g e

  pub body_missing : body program p ts u s ≡ undefined → definition_of program p (arity ts) ≡ none
  unfolding body
  body_missing e = numbered_missing program p ts (next_variable (atom p ts) u s) e

-- the body of a well-formed atom under a program that passes questions 3 and 4
pub body_formed : (program : List Definition) (p : ℕ) (ts : Terms) (u : List Ancestor) (s : List Bet) (g : Goal)
    → All DefinitionFormed program → program_rules program ≡ true → AtomFormed p ts → body program p ts u s ≡ defined g → GoalFormed g
unfolding program_rules
body_formed program p ts u s g d r a e = rw w.is at (substitute_goal_formed (numbered ts m) b (λ v i. let y = small v i in
    numbered_formed ts m l v a.2 (locals_within m l w.numbers) (omega arith)) (definition_found DefinitionFormed program p (arity ts) c w.found d).0.3)
  where
    m : ℕ
    m = next_variable (atom p ts) u s

    w : MadeFrom program p ts m g
    w = body_made program p ts u s g e

    n : ℕ
    n = w.heads

    l : ℕ
    l = w.locals

    b : Goal
    b = w.goal

    c : Definition
    c = definition w.predicate n l b

    ruled : (definition_rules c ≡ true) × (defines p (arity ts) c ≡ true)
    ruled = definition_found (λ c. definition_rules c ≡ true) program p (arity ts) c w.found
        (every_all definition_rules program (and_both (rising (keys program)) (every definition_rules program) r).1)

    same : arity ts ≡ n
    same = eqb-true (arity ts) n (and_both (eqb p w.predicate) (eqb (arity ts) n) ruled.1).1

    small : (v : ℕ) → Among v (goal_variables b) → v < arity ts + l
    small v i = let z = ltb-true v (n + l) (all_among (λ x. ltb x (n + l) ≡ true) (goal_variables b) (every_all (λ x. ltb x (n + l)) (goal_variables b) ruled.0) v i) in omega (arith, same)

-- a variable of a goal under a substitution stands in what one of the goal's variables became
among_substitute : (θ : Substitution) (g : Goal) (v : ℕ) → Among v (goal_variables (substitute_goal θ g)) → (w : ℕ) × Occurs v (θ w)
among_substitute θ truth v h = absurd h
among_substitute θ failure v h = absurd h
among_substitute θ (equal t u) v h = elim (among_either v (term_variables (substitute θ t)) (term_variables (substitute θ u)) h) [
  | inl o ↦ let r = occurs_substitute θ t v (among_occurs v (substitute θ t) o) in (r.0, r.2)
  | inr o ↦ let r = occurs_substitute θ u v (among_occurs v (substitute θ u) o) in (r.0, r.2)
]
among_substitute θ (conj a b) v h = elim (among_either v (goal_variables (substitute_goal θ a)) (goal_variables (substitute_goal θ b)) h) [
  | inl o ↦ among_substitute θ a v o
  | inr o ↦ among_substitute θ b v o
]
among_substitute θ (disj a b) v h = elim (among_either v (goal_variables (substitute_goal θ a)) (goal_variables (substitute_goal θ b)) h) [
  | inl o ↦ among_substitute θ a v o
  | inr o ↦ among_substitute θ b v o
]
among_substitute θ (atom p ts) v h = let r = occurs_substitute_all θ ts v (among_occurs_in v (substitute_all θ ts) h) in (r.0, r.2)

-- an argument, or a number from m on
numbered_variable : (ts : Terms) (m i v : ℕ) → Occurs v (numbered ts m i) → OccursIn v ts ⊎ (m ≤ v)
numbered_variable nil m i v o = inr (let e : v ≡ m + i = o in omega arith)
numbered_variable (cons t ts) m zero v o = inl (inl o)
numbered_variable (cons t ts) m (suc i) v o = elim (numbered_variable ts m i v o) [ inl r ↦ inl (inr r) | inr r ↦ inr r ]

-- Locals are new: a variable of an atom's body stands in the atom, or nowhere in the event that calls it: not in its goal, its ancestors or its bets.
pub locals_new : (program : List Definition) (p : ℕ) (ts : Terms) (u : List Ancestor) (s : List Bet) (g : Goal) → body program p ts u s ≡ defined g
    → (v : ℕ) → Among v (goal_variables g) → Among v (terms_variables ts) ⊎ (Among v (event_variables (atom p ts) u s) → ⊥)
locals_new program p ts u s g e v h =
    let w = body_made program p ts u s g e in
    let r = among_substitute (numbered ts (next_variable (atom p ts) u s)) w.goal v (rw (sym w.is) at h) in
    elim (numbered_variable ts (next_variable (atom p ts) u s) r.0 v r.1) [
      | inl o ↦ inl (occurs_in_among v ts o)
      | inr o ↦ inr (λ k. let z = next_above (atom p ts) u s v k in omega arith)
    ]

-- Question 9 at the last number: an event that holds 65,535, be it in a bet, leaves none for a local, whatever is called; without locals none is needed.
module _ (program : List Definition) (p : ℕ) (ts : Terms) (u : List Ancestor) (s : List Bet) {q n : ℕ} {b : Goal} where
  pub none_left : {l : ℕ} → Among 65535 (event_variables (atom p ts) u s) → definition_of program p (arity ts) ≡ some (definition q n l b) → 0 < l
      → body program p ts u s ≡ too_many
  unfolding body
  none_left {l} h d k =
      let z = next_above (atom p ts) u s 65535 h in rw (d, lt-ltb 0 l k, lt-ltb 65536 (next_variable (atom p ts) u s + l) (omega arith)) refl

  pub none_needed : definition_of program p (arity ts) ≡ some (definition q n 0 b)
      → body program p ts u s ≡ defined (substitute_goal (numbered ts (next_variable (atom p ts) u s)) b)
  unfolding body
  none_needed d = rw d refl
