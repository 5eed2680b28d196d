-- What the clauses of a text say (SPECIFICATION 13.3): from trees with names to clauses with numbers, and the list of names.
-- Choices: a name's number is its place in the list of all names, and a variable's its place among those met so far in its clause, so that no number is
-- handed on; ns is always the list of names, vs the variables met before.
use Rattle.std.specs.Prelude.{Bool, false, cond, ◌||◌, not, List, [], ◌∷◌, ◌++◌, ℕ, zero, suc, length}
use Rattle.records.specs.Ends.Same.{same_bytes}
use Rattle.records.specs.Format.Encode.{word, each}
use Rattle.records.specs.Format.Syntax.{Term, Terms, Goal, Clause}
use Rattle.records.specs.Format.Syntax.Term.{var, app}
use Rattle.records.specs.Format.Syntax.Terms.{nil, cons}
use Rattle.records.specs.Format.Syntax.Goal.{truth, failure, equal, conj, disj, atom}
use Rattle.records.specs.Format.Syntax.Clause.{clause}
use Rattle.text.specs.Grammar.{TermTree, ArgumentTrees, GoalTree, ConjunctionTree, PrimaryTree, ClauseTree, is_variable, is_true, is_fail}
use Rattle.text.specs.Grammar.TermTree.{alone, applied}
use Rattle.text.specs.Grammar.ArgumentTrees.{last, more}
use Rattle.text.specs.Grammar.GoalTree.{only, either}
use Rattle.text.specs.Grammar.ConjunctionTree.{sole, both}
use Rattle.text.specs.Grammar.PrimaryTree.{equality, atomic, bracketed}
use Rattle.text.specs.Grammar.ClauseTree.{fact, implied}

-- Places. The place of a word in a list, from 0; behind the last where the list has it not.
abbrev pub place : List ℕ → List (List ℕ) → ℕ
place w [] = zero
place w (v ∷ l) = cond (same_bytes w v) zero (suc (place w l))

abbrev pub listed : List ℕ → List (List ℕ) → Bool
listed w [] = false
listed w (v ∷ l) = same_bytes w v || listed w l

-- Names. A word that is new goes to the end of the list; so the list is in order of first appearance.
abbrev pub with_name : List (List ℕ) → List ℕ → List (List ℕ)
with_name ns w = cond (listed w ns) ns (ns ++ (w ∷ []))

abbrev pub with_names : List (List ℕ) → List (List ℕ) → List (List ℕ)
with_names ns [] = ns
with_names ns (w ∷ ws) = with_names (with_name ns w) ws

-- the names that take a number, in the order of the text, each as often as it stands there: not variables, and not true and fail alone as goals
abbrev mutual
  pub names_of_term : TermTree → List (List ℕ)
  names_of_term (alone w) = cond (is_variable w) [] (w ∷ [])
  names_of_term (applied w ts) = w ∷ names_of_arguments ts

  pub names_of_arguments : ArgumentTrees → List (List ℕ)
  names_of_arguments (last t) = names_of_term t
  names_of_arguments (more t ts) = names_of_term t ++ names_of_arguments ts

abbrev pub names_of_atom : TermTree → List (List ℕ)
names_of_atom (alone w) = cond (is_true w || is_fail w) [] (w ∷ [])
names_of_atom (applied w ts) = w ∷ names_of_arguments ts

abbrev pub names_of_head : TermTree → List (List ℕ)
names_of_head (alone w) = w ∷ []
names_of_head (applied w ts) = w ∷ names_of_arguments ts

abbrev mutual
  pub names_of_goal : GoalTree → List (List ℕ)
  names_of_goal (only c) = names_of_conjunction c
  names_of_goal (either c g) = names_of_conjunction c ++ names_of_goal g

  pub names_of_conjunction : ConjunctionTree → List (List ℕ)
  names_of_conjunction (sole p) = names_of_primary p
  names_of_conjunction (both p c) = names_of_primary p ++ names_of_conjunction c

  pub names_of_primary : PrimaryTree → List (List ℕ)
  names_of_primary (equality t u) = names_of_term t ++ names_of_term u
  names_of_primary (atomic a) = names_of_atom a
  names_of_primary (bracketed g) = names_of_goal g

abbrev pub names_of_clause : ClauseTree → List (List ℕ)
names_of_clause (fact h) = names_of_head h
names_of_clause (implied h g) = names_of_head h ++ names_of_goal g

abbrev pub names_of_clauses : List ClauseTree → List (List ℕ)
names_of_clauses [] = []
names_of_clauses (c ∷ cs) = names_of_clause c ++ names_of_clauses cs

-- Variables. A lone underscore is new each time; any other variable is new where it was not met before.
abbrev pub lone : List ℕ → Bool
lone w = same_bytes w (95 ∷ [])

abbrev pub number_in : List (List ℕ) → List ℕ → ℕ
number_in vs w = cond (lone w) (length vs) (place w vs)

abbrev pub met : List (List ℕ) → List ℕ → List (List ℕ)
met vs w = cond (lone w || not (listed w vs)) (vs ++ (w ∷ [])) vs

abbrev pub all_met : List (List ℕ) → List (List ℕ) → List (List ℕ)
all_met vs [] = vs
all_met vs (w ∷ ws) = all_met (met vs w) ws

-- the variables in the order of the text, each as often as it stands there
abbrev mutual
  pub variables_of_term : TermTree → List (List ℕ)
  variables_of_term (alone w) = cond (is_variable w) (w ∷ []) []
  variables_of_term (applied w ts) = variables_of_arguments ts

  pub variables_of_arguments : ArgumentTrees → List (List ℕ)
  variables_of_arguments (last t) = variables_of_term t
  variables_of_arguments (more t ts) = variables_of_term t ++ variables_of_arguments ts

-- of an atom or a head
abbrev pub variables_of_atom : TermTree → List (List ℕ)
variables_of_atom (alone w) = []
variables_of_atom (applied w ts) = variables_of_arguments ts

abbrev mutual
  pub variables_of_goal : GoalTree → List (List ℕ)
  variables_of_goal (only c) = variables_of_conjunction c
  variables_of_goal (either c g) = variables_of_conjunction c ++ variables_of_goal g

  pub variables_of_conjunction : ConjunctionTree → List (List ℕ)
  variables_of_conjunction (sole p) = variables_of_primary p
  variables_of_conjunction (both p c) = variables_of_primary p ++ variables_of_conjunction c

  pub variables_of_primary : PrimaryTree → List (List ℕ)
  variables_of_primary (equality t u) = variables_of_term t ++ variables_of_term u
  variables_of_primary (atomic a) = variables_of_atom a
  variables_of_primary (bracketed g) = variables_of_goal g

-- Terms: numbers are constants of that name.
abbrev mutual
  pub term_of : List (List ℕ) → List (List ℕ) → TermTree → Term
  term_of ns vs (alone w) = cond (is_variable w) (var (number_in vs w)) (app (place w ns) nil)
  term_of ns vs (applied w ts) = app (place w ns) (terms_of ns vs ts)

  pub terms_of : List (List ℕ) → List (List ℕ) → ArgumentTrees → Terms
  terms_of ns vs (last t) = cons (term_of ns vs t) nil
  terms_of ns vs (more t ts) = cons (term_of ns vs t) (terms_of ns (all_met vs (variables_of_term t)) ts)

-- the arguments of an atom or a head
abbrev pub arguments_of : List (List ℕ) → List (List ℕ) → TermTree → Terms
arguments_of ns vs (alone w) = nil
arguments_of ns vs (applied w ts) = terms_of ns vs ts

-- its name
abbrev pub name_of : TermTree → List ℕ
name_of (alone w) = w
name_of (applied w ts) = w

-- Goals: true and fail alone are the goals of that name; brackets leave nothing behind.
abbrev pub atom_of : List (List ℕ) → List (List ℕ) → TermTree → Goal
atom_of ns vs (alone w) = cond (is_true w) truth (cond (is_fail w) failure (atom (place w ns) nil))
atom_of ns vs (applied w ts) = atom (place w ns) (terms_of ns vs ts)

abbrev mutual
  pub goal_of : List (List ℕ) → List (List ℕ) → GoalTree → Goal
  goal_of ns vs (only c) = conjunction_of ns vs c
  goal_of ns vs (either c g) = disj (conjunction_of ns vs c) (goal_of ns (all_met vs (variables_of_conjunction c)) g)

  pub conjunction_of : List (List ℕ) → List (List ℕ) → ConjunctionTree → Goal
  conjunction_of ns vs (sole p) = primary_of ns vs p
  conjunction_of ns vs (both p c) = conj (primary_of ns vs p) (conjunction_of ns (all_met vs (variables_of_primary p)) c)

  pub primary_of : List (List ℕ) → List (List ℕ) → PrimaryTree → Goal
  primary_of ns vs (equality t u) = equal (term_of ns vs t) (term_of ns (all_met vs (variables_of_term t)) u)
  primary_of ns vs (atomic a) = atom_of ns vs a
  primary_of ns vs (bracketed g) = goal_of ns vs g

-- Clauses: the variables of the head come before those of the body; a fact's body is true.
abbrev pub head_variables : TermTree → List (List ℕ)
head_variables h = all_met [] (variables_of_atom h)

abbrev pub clause_of : List (List ℕ) → ClauseTree → Clause
clause_of ns (fact h) = clause (place (name_of h) ns) (length (head_variables h)) (arguments_of ns [] h) truth
clause_of ns (implied h g) =
    clause (place (name_of h) ns) (length (all_met (head_variables h) (variables_of_goal g))) (arguments_of ns [] h) (goal_of ns (head_variables h) g)

abbrev pub clauses_of : List (List ℕ) → List ClauseTree → List Clause
clauses_of ns [] = []
clauses_of ns (c ∷ cs) = clause_of ns c ∷ clauses_of ns cs

-- A text: the names of its clauses, and its clauses under them.
abbrev pub text_names : List ClauseTree → List (List ℕ)
text_names cs = with_names [] (names_of_clauses cs)

unfoldable pub text_clauses : List ClauseTree → List Clause
text_clauses cs = clauses_of (text_names cs) cs

-- A query is the body of one more clause behind those of a text: the text's names and then its own, its variables from 0 on.
abbrev pub query_names : List ClauseTree → GoalTree → List (List ℕ)
query_names cs g = with_names (text_names cs) (names_of_goal g)

unfoldable pub query_goal : List ClauseTree → GoalTree → Goal
query_goal cs g = goal_of (query_names cs g) [] g

abbrev pub query_variables : GoalTree → List (List ℕ)
query_variables g = all_met [] (variables_of_goal g)

-- the list of names as bytes: each after its two-byte length
unfoldable pub name_list : List (List ℕ) → List ℕ
name_list ns = each (λ w. word (length w) ++ w) ns
