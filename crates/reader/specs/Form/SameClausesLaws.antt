-- A query changes nothing of the text before it: under the names of both, the clauses are those of the text alone.
use Rattle.std.specs.Prelude.{◌≡◌, refl, Bool, true, false, cond, ◌||◌, List, [], ◌∷◌, ◌++◌, ℕ, length}
use Rattle.std.proofs.Common.{ap, ap₂, ◌∙◌}
use Rattle.std.proofs.Math.Bool.{or-true}
use Rattle.records.specs.Ends.SameLaws.{same_refl}
use Rattle.records.specs.Format.Syntax.{Term, Terms, Goal}
use Rattle.records.specs.Format.Syntax.Term.{var, app}
use Rattle.records.specs.Format.Syntax.Terms.{nil, cons}
use Rattle.records.specs.Format.Syntax.Goal.{truth, failure, equal, conj, disj, atom}
use Rattle.records.specs.Format.Syntax.Clause.{clause}
use Rattle.text.specs.Grammar.{TermTree, ArgumentTrees, GoalTree, ConjunctionTree, PrimaryTree, ClauseTree, is_variable, is_true, is_fail}
use Rattle.text.specs.Grammar.TermTree.{alone, applied}
use Rattle.text.specs.Grammar.ArgumentTrees.{last, more}
use Rattle.text.specs.Grammar.GoalTree.{only, either}
use Rattle.text.specs.Grammar.ConjunctionTree.{sole, both}
use Rattle.text.specs.Grammar.PrimaryTree.{equality, atomic, bracketed}
use Rattle.text.specs.Grammar.ClauseTree.{fact, implied}
use Rattle.reader.specs.Form.Meaning.{place, listed, names_of_term, names_of_arguments, names_of_atom, names_of_head, names_of_goal, names_of_conjunction, names_of_primary, names_of_clause, names_of_clauses, number_in, all_met, variables_of_term, variables_of_conjunction, variables_of_primary, variables_of_goal, term_of, terms_of, arguments_of, atom_of, goal_of, conjunction_of, primary_of, name_of, head_variables, clause_of, clauses_of, text_names, text_clauses, query_names}
use Rattle.reader.specs.Form.ListLaws.{listed_append, text_listed, text_place_kept}

-- two lists, and a tree whose names have the same numbers under both
module _ (ms ns : List (List ℕ)) where
  abbrev Agree : List (List ℕ) → Type 0
  Agree ws = (w : List ℕ) → listed w ws ≡ true → place w ms ≡ place w ns

  agree_left : (a b : List (List ℕ)) → Agree (a ++ b) → Agree a
  agree_left a b e w h = e w (rw (listed_append w a b, h))

  agree_right : (a b : List (List ℕ)) → Agree (a ++ b) → Agree b
  agree_right a b e w h = e w (rw (listed_append w a b, h) (or-true (listed w a)))

  agree_first : (w : List ℕ) (l : List (List ℕ)) → Agree (w ∷ l) → place w ms ≡ place w ns
  agree_first w l e = e w (rw (same_refl w))

  agree_rest : (w : List ℕ) (l : List (List ℕ)) → Agree (w ∷ l) → Agree l
  agree_rest w l e = agree_right (w ∷ []) l e

  mutual
    term_same : (vs : List (List ℕ)) (t : TermTree) → Agree (names_of_term t) → term_of ms vs t ≡ term_of ns vs t
    term_same vs (alone w) e = go (is_variable w) e
      where
        go : (b : Bool) → Agree (cond b [] (w ∷ [])) → cond b (var (number_in vs w)) (app (place w ms) nil) ≡ cond b (var (number_in vs w)) (app (place w ns) nil)
        go true e = refl
        go false e = ap (λ (n : ℕ). app n nil) (agree_first w [] e)
    term_same vs (applied w ts) e = ap₂ app (agree_first w (names_of_arguments ts) e) (arguments_same vs ts (agree_rest w (names_of_arguments ts) e))

    arguments_same : (vs : List (List ℕ)) (ts : ArgumentTrees) → Agree (names_of_arguments ts) → terms_of ms vs ts ≡ terms_of ns vs ts
    arguments_same vs (last t) e = ap (λ (x : Term). cons x nil) (term_same vs t e)
    arguments_same vs (more t ts) e =
        let a = names_of_term t in let b = names_of_arguments ts in
        ap₂ cons (term_same vs t (agree_left a b e)) (arguments_same (all_met vs (variables_of_term t)) ts (agree_right a b e))

  atom_same : (vs : List (List ℕ)) (a : TermTree) → Agree (names_of_atom a) → atom_of ms vs a ≡ atom_of ns vs a
  atom_same vs (alone w) e = go (is_true w) (is_fail w) e
    where
      go : (x y : Bool) → Agree (cond (x || y) [] (w ∷ [])) → cond x truth (cond y failure (atom (place w ms) nil)) ≡ cond x truth (cond y failure (atom (place w ns) nil))
      go true y e = refl
      go false true e = refl
      go false false e = ap (λ (n : ℕ). atom n nil) (agree_first w [] e)
  atom_same vs (applied w ts) e = ap₂ atom (agree_first w (names_of_arguments ts) e) (arguments_same vs ts (agree_rest w (names_of_arguments ts) e))

  mutual
    goal_same : (vs : List (List ℕ)) (g : GoalTree) → Agree (names_of_goal g) → goal_of ms vs g ≡ goal_of ns vs g
    goal_same vs (only c) e = conjunction_same vs c e
    goal_same vs (either c g) e =
        let a = names_of_conjunction c in let b = names_of_goal g in
        ap₂ disj (conjunction_same vs c (agree_left a b e)) (goal_same (all_met vs (variables_of_conjunction c)) g (agree_right a b e))

    conjunction_same : (vs : List (List ℕ)) (c : ConjunctionTree) → Agree (names_of_conjunction c) → conjunction_of ms vs c ≡ conjunction_of ns vs c
    conjunction_same vs (sole p) e = primary_same vs p e
    conjunction_same vs (both p c) e =
        let a = names_of_primary p in let b = names_of_conjunction c in
        ap₂ conj (primary_same vs p (agree_left a b e)) (conjunction_same (all_met vs (variables_of_primary p)) c (agree_right a b e))

    primary_same : (vs : List (List ℕ)) (p : PrimaryTree) → Agree (names_of_primary p) → primary_of ms vs p ≡ primary_of ns vs p
    primary_same vs (equality t u) e =
        let a = names_of_term t in let b = names_of_term u in
        ap₂ equal (term_same vs t (agree_left a b e)) (term_same (all_met vs (variables_of_term t)) u (agree_right a b e))
    primary_same vs (atomic x) e = atom_same vs x e
    primary_same vs (bracketed g) e = goal_same vs g e

  head_same : (h : TermTree) → Agree (names_of_head h) → (place (name_of h) ms ≡ place (name_of h) ns) × (arguments_of ms [] h ≡ arguments_of ns [] h)
  head_same (alone w) e = (agree_first w [] e, refl)
  head_same (applied w ts) e = (agree_first w (names_of_arguments ts) e, arguments_same [] ts (agree_rest w (names_of_arguments ts) e))

  clause_same : (c : ClauseTree) → Agree (names_of_clause c) → clause_of ms c ≡ clause_of ns c
  clause_same (fact h) e =
      let f = head_same h e in
      ap₂ (λ (p : ℕ) (ts : Terms). clause p (length (head_variables h)) ts truth) f.0 f.1
  clause_same (implied h g) e =
      let vh = head_variables h in
      let f = head_same h (agree_left (names_of_head h) (names_of_goal g) e) in
      let v = length (all_met vh (variables_of_goal g)) in
      ap₂ (λ (p : ℕ) (ts : Terms). clause p v ts (goal_of ms vh g)) f.0 f.1
      ∙ ap (λ (x : Goal). clause (place (name_of h) ns) v (arguments_of ns [] h) x) (goal_same vh g (agree_right (names_of_head h) (names_of_goal g) e))

  clauses_same : (cs : List ClauseTree) → Agree (names_of_clauses cs) → clauses_of ms cs ≡ clauses_of ns cs
  clauses_same [] e = refl
  clauses_same (c ∷ cs) e =
      let a = names_of_clause c in let b = names_of_clauses cs in
      ap₂ ◌∷◌ (clause_same c (agree_left a b e)) (clauses_same cs (agree_right a b e))

pub text_clauses_kept : (cs : List ClauseTree) (g : GoalTree) → clauses_of (query_names cs g) cs ≡ text_clauses cs
unfolding text_clauses
text_clauses_kept cs g = clauses_same (query_names cs g) (text_names cs) cs (λ w h. text_place_kept cs g w (text_listed w cs ∙ h))
