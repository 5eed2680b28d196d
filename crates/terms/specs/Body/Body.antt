-- The body of an atom (SPECIFICATION 4): its definition's goal with the head's variables become the atom's arguments, as they stand and all
-- at once, and the locals become new variables.
-- Choices: the first new variable is one definition over the whole call event, so a body depends on the program and on that event alone.
use Rattle.std.specs.Prelude.{List, [], ◌∷◌, ◌++◌, Bool, ◌&&◌, cond, ℕ, zero, suc, ◌+◌, eqb, ltb}
use Rattle.std.proofs.Math.Option.{Option, none, some}
use Rattle.records.specs.Format.Syntax.{Terms, Goal, Ancestor, Binding, Bet, Definition, arity}
use Rattle.records.specs.Format.Syntax.Term.{var}
use Rattle.records.specs.Format.Syntax.Terms.{nil, cons}
use Rattle.records.specs.Format.Syntax.Goal.{truth, failure, equal, conj, disj, atom}
use Rattle.records.specs.Format.Syntax.Binding.{bind}
use Rattle.records.specs.Format.Syntax.Bet.{unifier, or, by}
use Rattle.records.specs.Format.Syntax.Definition.{definition}
use Rattle.records.specs.Format.Encode.{each}
use Rattle.records.specs.Gate.RecordRules.{term_variables, goal_variables, ancestor_variables}
use Rattle.records.specs.Ends.Above.{above}
use Rattle.terms.specs.Theory.Substitution.{Substitution, substitute, substitute_all}

-- the variables of an ancestor stack
abbrev pub ancestors_variables : List Ancestor → List ℕ
ancestors_variables u = each ancestor_variables u

-- the variables of a pair: the one that is bound, and those of the term that it is bound to
abbrev pub pair_variables : Binding → List ℕ
pair_variables (bind v t) = v ∷ term_variables t

-- the variables of a bet, and of a bet stack
abbrev pub bet_variables : Bet → List ℕ
bet_variables (unifier σ) = each pair_variables σ
bet_variables (or n) = []
bet_variables (by g) = goal_variables g

abbrev pub bets_variables : List Bet → List ℕ
bets_variables s = each bet_variables s

-- the variables of a goal, its ancestors and its bets
abbrev pub event_variables : Goal → List Ancestor → List Bet → List ℕ
event_variables g ancestors bets = goal_variables g ++ (ancestors_variables ancestors ++ bets_variables bets)

-- m: one above the greatest variable of the call event's goal, ancestors and bets, 0 where they hold none
unfoldable pub next_variable : Goal → List Ancestor → List Bet → ℕ
next_variable g ancestors bets = above (event_variables g ancestors bets)

-- the i-th head variable becomes the i-th argument, the i-th variable behind them m + i
abbrev pub numbered : Terms → ℕ → Substitution
numbered nil m i = var (m + i)
numbered (cons t ts) m zero = t
numbered (cons t ts) m (suc i) = numbered ts m i

-- every variable of a goal becomes its term
abbrev pub substitute_goal : Substitution → Goal → Goal
substitute_goal θ truth = truth
substitute_goal θ failure = failure
substitute_goal θ (equal t u) = equal (substitute θ t) (substitute θ u)
substitute_goal θ (conj a b) = conj (substitute_goal θ a) (substitute_goal θ b)
substitute_goal θ (disj a b) = disj (substitute_goal θ a) (substitute_goal θ b)
substitute_goal θ (atom p ts) = atom p (substitute_all θ ts)

-- it defines the predicate p of arity n
abbrev pub defines : ℕ → ℕ → Definition → Bool
defines p n (definition q m l g) = eqb p q && eqb n m

-- the definition of a predicate and an arity
unfoldable pub definition_of : List Definition → ℕ → ℕ → Option Definition
definition_of [] p n = none
definition_of (d ∷ ds) p n = cond (defines p n d) (some d) (definition_of ds p n)

-- what the atom's body is: question 9 says no, there is no definition, or it is this goal
pub data Body : Type 0 where
  too_many : Body
  undefined : Body
  defined : Goal → Body
  deriving Discrete as Body-discrete

-- some of the locals from m on would be above 65,535
abbrev pub locals_beyond : ℕ → ℕ → Bool
locals_beyond m locals = ltb 0 locals && ltb 65536 (m + locals)

-- the body by the definition found, with the first new variable m
abbrev pub body_of : Option Definition → Terms → ℕ → Body
body_of none ts m = undefined
body_of (some (definition p n l g)) ts m = cond (locals_beyond m l) too_many (defined (substitute_goal (numbered ts m) g))

-- the body of the atom p(ts), called under these stacks
unfoldable pub body : List Definition → ℕ → Terms → List Ancestor → List Bet → Body
body program p ts ancestors bets = body_of (definition_of program p (arity ts)) ts (next_variable (atom p ts) ancestors bets)
