-- Laws of the numbers of variables: the variables of a record's terms are the numbers of the tree's in their order, and of a clause they are 0, 1 and so on, with
-- none left out.
use Rattle.std.specs.Prelude.{◌≡◌, refl, Bool, true, false, cond, ◌||◌, not, List, [], ◌∷◌, ◌++◌, ℕ, ◌≤◌, ◌<◌, eqb, ltb, length}
use Rattle.std.proofs.Common.{sym, ap, ap₂, ◌∙◌, append-nil, arith, length-append, eq-eqb, lt-ltb, ltb-true, ltb-false}
use Rattle.std.proofs.Math.Bool.{or-true}
use Rattle.records.specs.Format.Syntax.{Clause}
use Rattle.records.specs.Format.Syntax.Term.{var, app}
use Rattle.records.specs.Format.Syntax.Terms.{nil}
use Rattle.records.specs.Format.Syntax.Goal.{truth, failure, atom}
use Rattle.records.specs.Format.Syntax.Clause.{clause}
use Rattle.records.specs.Gate.RecordRules.{term_variables, terms_variables, goal_variables, every, member, exactly, clause_rules}
use Rattle.records.specs.Gate.RecordRulesLaws.{each_number}
use Rattle.text.specs.Grammar.{TermTree, ArgumentTrees, GoalTree, ConjunctionTree, PrimaryTree, ClauseTree, is_variable, is_true, is_fail}
use Rattle.text.specs.Grammar.TermTree.{alone, applied}
use Rattle.text.specs.Grammar.ArgumentTrees.{last, more}
use Rattle.text.specs.Grammar.GoalTree.{only, either}
use Rattle.text.specs.Grammar.ConjunctionTree.{sole, both}
use Rattle.text.specs.Grammar.PrimaryTree.{equality, atomic, bracketed}
use Rattle.text.specs.Grammar.ClauseTree.{fact, implied}
use Rattle.reader.specs.Form.Meaning.{place, listed, lone, number_in, met, all_met, variables_of_term, variables_of_arguments, variables_of_atom, variables_of_goal, variables_of_conjunction, variables_of_primary, term_of, terms_of, arguments_of, atom_of, goal_of, conjunction_of, primary_of, head_variables, clause_of, clauses_of}
use Rattle.reader.specs.Form.Service.{variable_count}
use Rattle.reader.specs.Form.Numbers.{numbered, variables_of_clause, clause_variables}
use Rattle.reader.specs.Emit.EmitLaws.{all_met_append}
use Rattle.reader.specs.Items.WordsLaws.{all_met_grows}
use Rattle.reader.specs.Names.PlaceLaws.{place_listed, place_unlisted}

-- One variable: its number is below how many are met behind it, and is the next one where it is new.
number_by : (Φ : ℕ → List (List ℕ) → Type 0) (vs : List (List ℕ)) (w : List ℕ) → Φ (length vs) (vs ++ (w ∷ [])) → (place w vs < length vs → Φ (place w vs) vs) → Φ (number_in vs w) (met vs w)
number_by Φ vs w new old = go (lone w) (listed w vs) refl
  where
    go : (a b : Bool) → listed w vs ≡ b → Φ (cond a (length vs) (place w vs)) (cond (a || not b) (vs ++ (w ∷ [])) vs)
    go true b e = new
    go false true e = old (place_listed w vs e)
    go false false e = rw (place_unlisted w vs e) new

number_below : (vs : List (List ℕ)) (w : List ℕ) → number_in vs w < length (met vs w)
number_below vs w = number_by (λ n l. n < length l) vs w (omega (arith, length-append vs (w ∷ []))) (λ h. h)

number_next : (vs : List (List ℕ)) (w : List ℕ) (i : ℕ) → length vs ≤ i → i < length (met vs w) → i ≡ number_in vs w
number_next vs w i h = number_by (λ n l. i < length l → i ≡ n) vs w (λ k. omega (arith, length-append vs (w ∷ []))) (λ b k. absurd (omega arith))

-- All variables of a list: their numbers are below how many are met in the end, and each from how many were met at first on is taken.
numbered_below : (vs ws : List (List ℕ)) (n : ℕ) → length (all_met vs ws) ≤ n → every (λ x. ltb x n) (numbered vs ws) ≡ true
numbered_below vs [] n h = refl
numbered_below vs (w ∷ ws) n h =
    rw (lt-ltb (number_in vs w) n (omega (arith, number_below vs w, all_met_grows (met vs w) ws)), numbered_below (met vs w) ws n h)

numbered_all : (vs ws : List (List ℕ)) (i : ℕ) → length vs ≤ i → i < length (all_met vs ws) → member i (numbered vs ws) ≡ true
numbered_all vs [] i h k = absurd (omega arith)
numbered_all vs (w ∷ ws) i h k = go (ltb i (length (met vs w))) refl (λ later. numbered_all (met vs w) ws i later k)
  where
    go : (b : Bool) → ltb i (length (met vs w)) ≡ b → (length (met vs w) ≤ i → member i (numbered (met vs w) ws) ≡ true) → (eqb i (number_in vs w) || member i (numbered (met vs w) ws)) ≡ true
    go true e ih = rw (eq-eqb i (number_in vs w) (number_next vs w i h (ltb-true i _ e)))
    go false e ih = rw (ih (ltb-false i _ e)) (or-true (eqb i (number_in vs w)))

numbered_exactly : (ws : List (List ℕ)) → exactly (length (all_met [] ws)) (numbered [] ws) ≡ true
unfolding exactly
numbered_exactly ws =
    let n = length (all_met [] ws) in
    rw (numbered_below [] ws n (omega arith), each_number (λ i. member i (numbered [] ws)) 0 n (λ i h k. numbered_all [] ws i h (omega arith)))

-- Two lists of variables, one behind the other.
numbered_append : (vs a b : List (List ℕ)) → numbered vs (a ++ b) ≡ numbered vs a ++ numbered (all_met vs a) b
numbered_append vs [] b = refl
numbered_append vs (w ∷ a) b = ap (λ (l : List ℕ). number_in vs w ∷ l) (numbered_append (met vs w) a b)

numbered_two : (vs a b : List (List ℕ)) {k l : List ℕ} → k ≡ numbered vs a → l ≡ numbered (all_met vs a) b → k ++ l ≡ numbered vs (a ++ b)
numbered_two vs a b e d = ap₂ (λ (x y : List ℕ). x ++ y) e d ∙ sym (numbered_append vs a b)

-- The variables of a record's terms and goals.
module _ (ns : List (List ℕ)) where
  mutual
    term_numbered : (vs : List (List ℕ)) (t : TermTree) → term_variables (term_of ns vs t) ≡ numbered vs (variables_of_term t)
    term_numbered vs (alone w) = go (is_variable w)
      where
        go : (b : Bool) → term_variables (cond b (var (number_in vs w)) (app (place w ns) nil)) ≡ numbered vs (cond b (w ∷ []) [])
        go true = refl
        go false = refl
    term_numbered vs (applied w ts) = arguments_numbered vs ts

    arguments_numbered : (vs : List (List ℕ)) (ts : ArgumentTrees) → terms_variables (terms_of ns vs ts) ≡ numbered vs (variables_of_arguments ts)
    arguments_numbered vs (last t) = append-nil (term_variables (term_of ns vs t)) ∙ term_numbered vs t
    arguments_numbered vs (more t ts) =
        numbered_two vs (variables_of_term t) (variables_of_arguments ts) (term_numbered vs t) (arguments_numbered (all_met vs (variables_of_term t)) ts)

  head_numbered : (vs : List (List ℕ)) (h : TermTree) → terms_variables (arguments_of ns vs h) ≡ numbered vs (variables_of_atom h)
  head_numbered vs (alone w) = refl
  head_numbered vs (applied w ts) = arguments_numbered vs ts

  atom_numbered : (vs : List (List ℕ)) (a : TermTree) → goal_variables (atom_of ns vs a) ≡ numbered vs (variables_of_atom a)
  atom_numbered vs (alone w) = go (is_true w) (is_fail w)
    where
      go : (a b : Bool) → goal_variables (cond a truth (cond b failure (atom (place w ns) nil))) ≡ []
      go true b = refl
      go false true = refl
      go false false = refl
  atom_numbered vs (applied w ts) = arguments_numbered vs ts

  mutual
    goal_numbered : (vs : List (List ℕ)) (g : GoalTree) → goal_variables (goal_of ns vs g) ≡ numbered vs (variables_of_goal g)
    goal_numbered vs (only c) = conjunction_numbered vs c
    goal_numbered vs (either c g) =
        numbered_two vs (variables_of_conjunction c) (variables_of_goal g) (conjunction_numbered vs c) (goal_numbered (all_met vs (variables_of_conjunction c)) g)

    conjunction_numbered : (vs : List (List ℕ)) (c : ConjunctionTree) → goal_variables (conjunction_of ns vs c) ≡ numbered vs (variables_of_conjunction c)
    conjunction_numbered vs (sole p) = primary_numbered vs p
    conjunction_numbered vs (both p c) =
        numbered_two vs (variables_of_primary p) (variables_of_conjunction c) (primary_numbered vs p) (conjunction_numbered (all_met vs (variables_of_primary p)) c)

    primary_numbered : (vs : List (List ℕ)) (p : PrimaryTree) → goal_variables (primary_of ns vs p) ≡ numbered vs (variables_of_primary p)
    primary_numbered vs (equality t u) =
        numbered_two vs (variables_of_term t) (variables_of_term u) (term_numbered vs t) (term_numbered (all_met vs (variables_of_term t)) u)
    primary_numbered vs (atomic a) = atom_numbered vs a
    primary_numbered vs (bracketed g) = goal_numbered vs g

  -- all variables of a query are below how many it has,
  pub query_below : (g : GoalTree) (n : ℕ) → length (all_met [] (variables_of_goal g)) ≤ n → every (λ x. ltb x n) (goal_variables (goal_of ns [] g)) ≡ true
  query_below g n h = rw (goal_numbered [] g) (numbered_below [] (variables_of_goal g) n h)

  clause_numbered : (c : ClauseTree) → clause_variables (clause_of ns c) ≡ numbered [] (variables_of_clause c)
  clause_numbered (fact h) = append-nil (terms_variables (arguments_of ns [] h)) ∙ head_numbered [] h
  clause_numbered (implied h g) = numbered_two [] (variables_of_atom h) (variables_of_goal g) (head_numbered [] h) (goal_numbered (head_variables h) g)

  clause_count : (c : ClauseTree) → variable_count (clause_of ns c) ≡ length (all_met [] (variables_of_clause c))
  clause_count (fact h) = refl
  clause_count (implied h g) = ap length (sym (all_met_append [] (variables_of_atom h) (variables_of_goal g)))

  -- all of a clause are,
  pub clause_below : (c : ClauseTree) (n : ℕ) → variable_count (clause_of ns c) ≤ n → every (λ x. ltb x n) (clause_variables (clause_of ns c)) ≡ true
  clause_below c n h = rw (clause_numbered c) (numbered_below [] (variables_of_clause c) n (omega (arith, clause_count c)))

  -- and there none is left out (question 4)
  clause_kept : (c : ClauseTree) → clause_rules (clause_of ns c) ≡ true
  clause_kept c = rules_are (clause_of ns c) ∙ rw (clause_count c, clause_numbered c) (numbered_exactly (variables_of_clause c))
    where
      rules_are : (x : Clause) → clause_rules x ≡ exactly (variable_count x) (clause_variables x)
      rules_are (clause p v ts g) = refl

  pub clauses_kept : (cs : List ClauseTree) → every clause_rules (clauses_of ns cs) ≡ true
  clauses_kept [] = refl
  clauses_kept (c ∷ cs) = rw (clause_kept c) (clauses_kept cs)
