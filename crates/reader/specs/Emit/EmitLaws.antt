-- What is written of the items of a tree is what the tree says: its bytes in front of those behind it, with the flags and counts as they were.
use Rattle.std.specs.Prelude.{◌≡◌, Bool, cond, ◌||◌, ◌&&◌, ℕ, suc, length}
use Rattle.std.proofs.Math.Path.{refl, ap}
use Rattle.std.proofs.Common.{◌∙◌}
use Rattle.std.proofs.Math.Bool.{true, false, not, or-false}
use mathlib.Core.List.{List, [], ◌∷◌, ◌++◌, append_assoc, append-nil}
use Rattle.std.proofs.Math.Dec.{leb}
use Rattle.records.specs.Format.Encode.{each, term_bytes, terms_bytes, goal_bytes, clause_bytes}
use Rattle.records.specs.Format.Syntax.{Goal, arity}
use Rattle.records.specs.Format.Syntax.Goal.{truth, failure, atom}
use Rattle.records.specs.Format.Syntax.Term.{var, app}
use Rattle.records.specs.Format.Syntax.Terms.{nil}
use Rattle.records.specs.Format.Syntax.Clause.{clause}
use Rattle.records.specs.Gate.RecordRules.{every}
use Rattle.text.specs.Grammar.{TermTree, ArgumentTrees, GoalTree, ConjunctionTree, PrimaryTree, ClauseTree, is_variable, is_true, is_fail}
use Rattle.text.specs.Grammar.TermTree.{alone, applied}
use Rattle.text.specs.Grammar.ArgumentTrees.{last, more}
use Rattle.text.specs.Grammar.GoalTree.{only, either}
use Rattle.text.specs.Grammar.ConjunctionTree.{sole, both}
use Rattle.text.specs.Grammar.PrimaryTree.{equality, atomic, bracketed}
use Rattle.text.specs.Grammar.ClauseTree.{fact, implied}
use Rattle.reader.specs.Form.Meaning.{place, number_in, all_met, met, variables_of_term, variables_of_arguments, variables_of_atom, variables_of_goal, variables_of_conjunction, variables_of_primary, term_of, terms_of, atom_of, goal_of, conjunction_of, primary_of, clause_of, clauses_of, head_variables, arguments_of, name_of}
use Rattle.reader.specs.Form.Service.{term_within, terms_within, goal_within, arities_within}
use Rattle.reader.specs.Items.Items.{Item, item, term_items, arguments_items, left_items, atom_items, head_items, goal_items, conjunction_items, primary_items, clause_items, clauses_items}
use Rattle.reader.specs.Emit.Cells.{cell, cells, Emission, emission, emitted, emit_cell, due, whole, primary, reopened}
use Rattle.reader.specs.declared.emit.Behind.{Behind}
use Rattle.reader.specs.declared.roles.Role.TheVariants.{Variable, Constant, Functor, GoalVariable, GoalConstant, GoalFunctor, Truth, Failure, Head, HeadFunctor, Shut, Next, And, Or, Equal, Close, Neck, Fact, Rule}

pub all_met_append : (vs a b : List (List ℕ)) → all_met vs (a ++ b) ≡ all_met (all_met vs a) b
all_met_append vs [] b = refl
all_met_append vs (w ∷ a) b = all_met_append (met vs w) a b

-- two parts are over together where one is
over_both : (a b o : Bool) → (not a || (not b || o)) ≡ (not (a && b) || o)
over_both true b o = refl
over_both false b o = refl

over_true : (a o : Bool) → (not a || o) ≡ (not (a && true) || o)
over_true true o = refl
over_true false o = refl

module _ (ns : List (List ℕ)) where
  -- what is written of the items r behind the variables vs
  abbrev after : List (List ℕ) → List Item → Emission
  after vs r = emitted (cells ns vs r)

  module _ {n : ℕ} {bs : List Behind} {c s q : Bool} {v : ℕ} where
    mutual
      unfolding emitted cells

      emit_term : (t : TermTree) (vs : List (List ℕ)) (r : List Item) {l : List ℕ} {o : Bool} {ks : List ℕ} → after (all_met vs (variables_of_term t)) r ≡ emission l o n ks bs c s q v
          → after vs (term_items t r) ≡ emission (term_bytes (term_of ns vs t) ++ l) (not (term_within (term_of ns vs t)) || o) n ks bs c s q v
      emit_term (alone w) vs r {l} {o} {ks} e = go (is_variable w) e
        where
          go : (b : Bool) → after (all_met vs (cond b (w ∷ []) [])) r ≡ emission l o n ks bs c s q v
              → after vs (item (cond b Variable Constant) w ∷ r) ≡ emission (term_bytes (cond b (var (number_in vs w)) (app (place w ns) nil)) ++ l) (not (term_within (cond b (var (number_in vs w)) (app (place w ns) nil))) || o) n ks bs c s q v
          go true e = ap (emit_cell (cell Variable 0 (number_in vs w))) e
          go false e = ap (emit_cell (cell Constant (place w ns) 0)) e
      emit_term (applied w ts) vs r {l} {o} {ks} e =
          ap (emit_cell (cell Functor (place w ns) 0)) (emit_arguments ts vs r e)
          ∙ ap (λ (x : Bool). emission (term_bytes (term_of ns vs (applied w ts)) ++ l) x n ks bs c s q v) (over_both (leb (arity (terms_of ns vs ts)) 16) (terms_within (terms_of ns vs ts)) o)

      emit_arguments : (ts : ArgumentTrees) (vs : List (List ℕ)) (r : List Item) {l : List ℕ} {o : Bool} {ks : List ℕ} → after (all_met vs (variables_of_arguments ts)) r ≡ emission l o n ks bs c s q v
          → after vs (arguments_items ts r) ≡ emission (terms_bytes (terms_of ns vs ts) ++ l) (not (terms_within (terms_of ns vs ts)) || o) n (arity (terms_of ns vs ts) ∷ ks) bs c s q v
      emit_arguments (last t) vs r {l} {o} {ks} e =
          emit_term t vs (item Shut [] ∷ r) (ap (emit_cell (cell Shut 0 0)) e)
          ∙ rw (append-nil, over_true (term_within (term_of ns vs t)) o) refl
      emit_arguments (more t ts) vs r {l} {o} {ks} e =
          let vt = all_met vs (variables_of_term t) in
          let d : after (all_met vt (variables_of_arguments ts)) r ≡ emission l o n ks bs c s q v = rw (all_met_append vs (variables_of_term t) (variables_of_arguments ts)) at e in
          emit_term t vs (item Next [] ∷ arguments_items ts r) (ap (emit_cell (cell Next 0 0)) (emit_arguments ts vt r d))
          ∙ rw (append_assoc (term_bytes (term_of ns vs t)), over_both (term_within (term_of ns vs t)) (terms_within (terms_of ns vt ts)) o) refl

  module _ {n : ℕ} {bs : List Behind} {c s : Bool} {v : ℕ} where
    -- the left side of an equality
    emit_left : (t : TermTree) (vs : List (List ℕ)) (r : List Item) {l : List ℕ} {o : Bool} {ks : List ℕ} → after (all_met vs (variables_of_term t)) r ≡ emission l o n ks bs c s true v
        → after vs (left_items t r) ≡ emission (due c 0x13 (0x12 ∷ (term_bytes (term_of ns vs t) ++ l))) (not (term_within (term_of ns vs t)) || o) n ks bs false s false v
    unfolding emitted cells
    emit_left (alone w) vs r {l} {o} {ks} e = go (is_variable w) e
      where
        go : (b : Bool) → after (all_met vs (cond b (w ∷ []) [])) r ≡ emission l o n ks bs c s true v
            → after vs (item (cond b GoalVariable GoalConstant) w ∷ r) ≡ emission (due c 0x13 (0x12 ∷ (term_bytes (cond b (var (number_in vs w)) (app (place w ns) nil)) ++ l))) (not (term_within (cond b (var (number_in vs w)) (app (place w ns) nil))) || o) n ks bs false s false v
        go true e = ap (emit_cell (cell GoalVariable 0 (number_in vs w))) e
        go false e = ap (emit_cell (cell GoalConstant (place w ns) 0)) e
    emit_left (applied w ts) vs r {l} {o} {ks} e =
        ap (emit_cell (cell GoalFunctor (place w ns) 0)) (emit_arguments ts vs r e)
        ∙ ap (λ (x : Bool). emission (due c 0x13 (0x12 ∷ (term_bytes (term_of ns vs (applied w ts)) ++ l))) x n ks bs false s false v) (over_both (leb (arity (terms_of ns vs ts)) 16) (terms_within (terms_of ns vs ts)) o)

    emit_atom : (a : TermTree) (vs : List (List ℕ)) (r : List Item) {l : List ℕ} {o : Bool} {ks : List ℕ} → after (all_met vs (variables_of_atom a)) r ≡ emission l o n ks bs c s false v
        → after vs (atom_items a r) ≡ emission (due c 0x13 (goal_bytes (atom_of ns vs a) ++ l)) (not (goal_within (atom_of ns vs a)) || o) n ks bs false s false v
    unfolding emitted cells
    emit_atom (alone w) vs r {l} {o} {ks} e = go (is_true w) (is_fail w)
      where
        go : (x y : Bool) → after vs (item (cond x Truth (cond y Failure GoalConstant)) w ∷ r)
            ≡ emission (due c 0x13 (goal_bytes (cond x truth (cond y failure (atom (place w ns) nil))) ++ l)) (not (goal_within (cond x truth (cond y failure (atom (place w ns) nil)))) || o) n ks bs false s false v
        go true y = ap (emit_cell (cell Truth 0 0)) e
        go false true = ap (emit_cell (cell Failure 0 0)) e
        go false false = ap (emit_cell (cell GoalConstant (place w ns) 0)) e
    emit_atom (applied w ts) vs r {l} {o} {ks} e =
        ap (emit_cell (cell GoalFunctor (place w ns) 0)) (emit_arguments ts vs r e)
        ∙ ap (λ (x : Bool). emission (due c 0x13 (goal_bytes (atom_of ns vs (applied w ts)) ++ l)) x n ks bs false s false v) (over_both (leb (arity (terms_of ns vs ts)) 16) (terms_within (terms_of ns vs ts)) o)

  mutual
    unfolding emitted cells

    -- with a semicolon still to be looked at, a goal is whole
    emit_goal : (g : GoalTree) (vs : List (List ℕ)) (r : List Item) {l : List ℕ} {o : Bool} {n : ℕ} {ks : List ℕ} {bs : List Behind} {v : ℕ}
        → after (all_met vs (variables_of_goal g)) r ≡ emission l o n ks bs false false false v
        → whole (after vs (goal_items g r)) ≡ emission (goal_bytes (goal_of ns vs g) ++ l) (not (goal_within (goal_of ns vs g)) || o) n ks bs false false false v
    emit_goal (only c) vs r e = ap whole (emit_conjunction c vs r e)
    emit_goal (either c g) vs r {l} {o} {n} {ks} {bs} {v} e =
        let vc = all_met vs (variables_of_conjunction c) in
        let d : after (all_met vc (variables_of_goal g)) r ≡ emission l o n ks bs false false false v = rw (all_met_append vs (variables_of_conjunction c) (variables_of_goal g)) at e in
        ap whole (emit_conjunction c vs (item Or [] ∷ goal_items g r) (or_cell (after vc (goal_items g r)) (emit_goal g vc r d)))
        ∙ rw (append_assoc (goal_bytes (conjunction_of ns vs c)), over_both (goal_within (conjunction_of ns vs c)) (goal_within (goal_of ns vc g)) o) refl
      where
        or_cell : (x : Emission) {l : List ℕ} {o : Bool} {n : ℕ} {ks : List ℕ} {bs : List Behind} {v : ℕ} → whole x ≡ emission l o n ks bs false false false v → emit_cell (cell Or 0 0) x ≡ emission l o n ks bs false true false v
        or_cell (emission l o n ks bs c s q v) h = ap with_semicolon h
          where
            with_semicolon : Emission → Emission
            with_semicolon (emission l o n ks bs c s q v) = emission l o n ks bs c true q v

    emit_conjunction : (c : ConjunctionTree) (vs : List (List ℕ)) (r : List Item) {l : List ℕ} {o : Bool} {n : ℕ} {ks : List ℕ} {bs : List Behind} {s : Bool} {v : ℕ}
        → after (all_met vs (variables_of_conjunction c)) r ≡ emission l o n ks bs false s false v
        → after vs (conjunction_items c r) ≡ emission (goal_bytes (conjunction_of ns vs c) ++ l) (not (goal_within (conjunction_of ns vs c)) || o) n ks bs false s false v
    emit_conjunction (sole p) vs r e = emit_primary p vs r e
    emit_conjunction (both p c) vs r {l} {o} {n} {ks} {bs} {s} {v} e =
        let vp = all_met vs (variables_of_primary p) in
        let d : after (all_met vp (variables_of_conjunction c)) r ≡ emission l o n ks bs false s false v = rw (all_met_append vs (variables_of_primary p) (variables_of_conjunction c)) at e in
        emit_primary p vs (item And [] ∷ conjunction_items c r) (ap (emit_cell (cell And 0 0)) (emit_conjunction c vp r d))
        ∙ rw (append_assoc (goal_bytes (primary_of ns vs p)), over_both (goal_within (primary_of ns vs p)) (goal_within (conjunction_of ns vp c)) o) refl

    emit_primary : (p : PrimaryTree) (vs : List (List ℕ)) (r : List Item) {l : List ℕ} {o : Bool} {n : ℕ} {ks : List ℕ} {bs : List Behind} {c s : Bool} {v : ℕ}
        → after (all_met vs (variables_of_primary p)) r ≡ emission l o n ks bs c s false v
        → after vs (primary_items p r) ≡ emission (due c 0x13 (goal_bytes (primary_of ns vs p) ++ l)) (not (goal_within (primary_of ns vs p)) || o) n ks bs false s false v
    emit_primary (equality t u) vs r {l} {o} {n} {ks} {bs} {c} {s} {v} e =
        let vt = all_met vs (variables_of_term t) in
        let d : after (all_met vt (variables_of_term u)) r ≡ emission l o n ks bs c s false v = rw (all_met_append vs (variables_of_term t) (variables_of_term u)) at e in
        emit_left t vs (item Equal [] ∷ term_items u r) (ap (emit_cell (cell Equal 0 0)) (emit_term u vt r d))
        ∙ rw (append_assoc (term_bytes (term_of ns vs t)), over_both (term_within (term_of ns vs t)) (term_within (term_of ns vt u)) o) refl
    emit_primary (atomic a) vs r e = emit_atom a vs r e
    emit_primary (bracketed g) vs r {l} {o} {n} {ks} {bs} {c} {s} {v} e =
        ap (λ (x : Emission). primary (reopened x)) (emit_goal g vs (item Close [] ∷ r) (ap (emit_cell (cell Close 0 0)) e))

  -- a head in front of what the clause has behind it
  emit_head : (h : TermTree) (vs : List (List ℕ)) (r : List Item) {l : List ℕ} {o : Bool} {n v : ℕ} → after (all_met vs (variables_of_atom h)) r ≡ emission l o n [] [] false false false v
      → (g : Goal) (m : List ℕ) (b : Bool) → l ≡ goal_bytes g ++ m → o ≡ (not (goal_within g) || b)
      → after vs (head_items h r)
      ≡ emission (clause_bytes (clause (place (name_of h) ns) v (arguments_of ns vs h) g) ++ m) (not (arities_within (clause (place (name_of h) ns) v (arguments_of ns vs h) g)) || b) n [] [] false false false 0
  unfolding emitted cells
  emit_head (alone w) vs r {v = v} e g m b i j = ap (emit_cell (cell Head (place w ns) 0)) e ∙ rw (i, j) refl
  emit_head (applied w ts) vs r {l} {o} {n} {v} e g m b i j =
      let k = leb (arity (terms_of ns vs ts)) 16 in
      let x = terms_within (terms_of ns vs ts) in
      ap (emit_cell (cell HeadFunctor (place w ns) 0)) (emit_arguments ts vs r e)
      ∙ rw (i, j, append_assoc (terms_bytes (terms_of ns vs ts)), over_both k x (not (goal_within g) || b), over_both (k && x) (goal_within g) b) refl

  emit_clause : (x : ClauseTree) (r : List Item) {l : List ℕ} {o : Bool} {n : ℕ} → after [] r ≡ emission l o n [] [] false false false 0
      → after [] (clause_items x r) ≡ emission (clause_bytes (clause_of ns x) ++ l) (not (arities_within (clause_of ns x)) || o) (suc n) [] [] false false false 0
  unfolding emitted cells
  emit_clause (fact h) r {l} {o} {n} e =
      emit_head h [] (item Fact [] ∷ r) (ap (emit_cell (cell Fact 0 (length (head_variables h)))) e) truth l o refl refl
  emit_clause (implied h g) r {l} {o} {n} e =
      let vh = head_variables h in
      emit_head h [] (item Neck [] ∷ goal_items g (item Rule [] ∷ r))
      (emit_goal g vh (item Rule [] ∷ r) (ap (emit_cell (cell Rule 0 (length (all_met vh (variables_of_goal g))))) e)) (goal_of ns vh g) l o refl refl

  -- all clauses of a text
  pub emit_clauses : (cs : List ClauseTree)
      → emitted (cells ns [] (clauses_items cs)) ≡ emission (each clause_bytes (clauses_of ns cs)) (not (every arities_within (clauses_of ns cs))) (length cs) [] [] false false false 0
  unfolding emitted cells
  emit_clauses [] = refl
  emit_clauses (x ∷ cs) = emit_clause x (clauses_items cs) (emit_clauses cs) ∙ rw (not_and (arities_within (clause_of ns x)) (every arities_within (clauses_of ns cs))) refl
    where
      not_and : (a b : Bool) → (not a || not b) ≡ not (a && b)
      not_and true b = refl
      not_and false b = refl

  -- a query's goal
  pub emit_query : (g : GoalTree) → whole (emitted (cells ns [] (goal_items g []))) ≡ emission (goal_bytes (goal_of ns [] g)) (not (goal_within (goal_of ns [] g))) 0 [] [] false false false 0
  unfolding emitted cells
  emit_query g = emit_goal g [] [] refl ∙ rw (append-nil, or-false (not (goal_within (goal_of ns [] g)))) refl
