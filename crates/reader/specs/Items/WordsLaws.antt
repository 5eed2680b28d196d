-- Laws of the tables: the names and the variables of a tree's items are the tree's.
use Rattle.std.specs.Prelude.{◌≡◌, refl, Bool, true, false, cond, ◌||◌, ◌&&◌, not, length}
use Rattle.std.proofs.Math.Path.{sym, ap}
use Rattle.std.proofs.Common.{◌∙◌, le-leb, leb-true, leb-false, length-append}
use Rattle.std.proofs.Math.Bool.{and-true, and_assoc}
use mathlib.Core.List.{List, [], ◌∷◌, ◌++◌, append_assoc, append-nil}
use Prim.Native.Nat.{ℕ, ◌≤◌, max}
use native.Mathlib.Omega.{arith}
use Rattle.std.proofs.Math.Dec.{leb}
use Rattle.std.proofs.lemmas.Bool.{lt-leb}
use Rattle.records.specs.Gate.RecordRules.{every}
use Rattle.text.specs.Grammar.{TermTree, ArgumentTrees, GoalTree, ConjunctionTree, PrimaryTree, ClauseTree, is_variable, is_true, is_fail}
use Rattle.text.specs.Grammar.TermTree.{alone, applied}
use Rattle.text.specs.Grammar.ArgumentTrees.{last, more}
use Rattle.text.specs.Grammar.GoalTree.{only, either}
use Rattle.text.specs.Grammar.ConjunctionTree.{sole, both}
use Rattle.text.specs.Grammar.PrimaryTree.{equality, atomic, bracketed}
use Rattle.text.specs.Grammar.ClauseTree.{fact, implied}
use Rattle.reader.specs.Form.Meaning.{listed, lone, met, all_met, names_of_term, names_of_arguments, names_of_atom, names_of_head, names_of_goal, names_of_conjunction, names_of_primary, names_of_clause, names_of_clauses, variables_of_term, variables_of_arguments, variables_of_atom, variables_of_goal, variables_of_conjunction, variables_of_primary, head_variables, clause_of, clauses_of}
use Rattle.reader.specs.Form.Service.{variable_count, variables_within}
use Rattle.reader.specs.Items.Items.{Item, item, term_items, arguments_items, left_items, atom_items, head_items, goal_items, conjunction_items, primary_items, clause_items, clauses_items}
use Rattle.reader.specs.Items.Words.{names_of_items, most_met}
use Rattle.reader.specs.Emit.Cells.{met_behind}
use Rattle.reader.specs.Emit.EmitLaws.{all_met_append}
use Rattle.reader.specs.declared.roles.Role.TheVariants.{Variable, Constant, GoalVariable, GoalConstant, Truth, Failure, Shut, Next, And, Or, Equal, Close, Neck, Fact, Rule}

-- Names.
mutual
  names_term : (t : TermTree) (r : List Item) → names_of_items (term_items t r) ≡ names_of_term t ++ names_of_items r
  names_term (alone w) r = go (is_variable w)
    where
      go : (b : Bool) → names_of_items (item (cond b Variable Constant) w ∷ r) ≡ cond b [] (w ∷ []) ++ names_of_items r
      go true = refl
      go false = refl
  names_term (applied w ts) r = ap (λ (l : List (List ℕ)). w ∷ l) (names_arguments ts r)

  names_arguments : (ts : ArgumentTrees) (r : List Item) → names_of_items (arguments_items ts r) ≡ names_of_arguments ts ++ names_of_items r
  names_arguments (last t) r = names_term t (item Shut [] ∷ r)
  names_arguments (more t ts) r =
      names_term t (item Next [] ∷ arguments_items ts r)
      ∙ ap (λ (l : List (List ℕ)). names_of_term t ++ l) (names_arguments ts r) ∙ sym (append_assoc (names_of_term t) (names_of_arguments ts) (names_of_items r))

names_left : (t : TermTree) (r : List Item) → names_of_items (left_items t r) ≡ names_of_term t ++ names_of_items r
names_left (alone w) r = go (is_variable w)
  where
    go : (b : Bool) → names_of_items (item (cond b GoalVariable GoalConstant) w ∷ r) ≡ cond b [] (w ∷ []) ++ names_of_items r
    go true = refl
    go false = refl
names_left (applied w ts) r = ap (λ (l : List (List ℕ)). w ∷ l) (names_arguments ts r)

names_atom : (t : TermTree) (r : List Item) → names_of_items (atom_items t r) ≡ names_of_atom t ++ names_of_items r
names_atom (alone w) r = go (is_true w) (is_fail w)
  where
    go : (a b : Bool) → names_of_items (item (cond a Truth (cond b Failure GoalConstant)) w ∷ r) ≡ cond (a || b) [] (w ∷ []) ++ names_of_items r
    go true b = refl
    go false true = refl
    go false false = refl
names_atom (applied w ts) r = ap (λ (l : List (List ℕ)). w ∷ l) (names_arguments ts r)

names_head : (t : TermTree) (r : List Item) → names_of_items (head_items t r) ≡ names_of_head t ++ names_of_items r
names_head (alone w) r = refl
names_head (applied w ts) r = ap (λ (l : List (List ℕ)). w ∷ l) (names_arguments ts r)

mutual
  names_goal : (g : GoalTree) (r : List Item) → names_of_items (goal_items g r) ≡ names_of_goal g ++ names_of_items r
  names_goal (only c) r = names_conjunction c r
  names_goal (either c g) r =
      names_conjunction c (item Or [] ∷ goal_items g r)
      ∙ ap (λ (l : List (List ℕ)). names_of_conjunction c ++ l) (names_goal g r) ∙ sym (append_assoc (names_of_conjunction c) (names_of_goal g) (names_of_items r))

  names_conjunction : (c : ConjunctionTree) (r : List Item) → names_of_items (conjunction_items c r) ≡ names_of_conjunction c ++ names_of_items r
  names_conjunction (sole p) r = names_primary p r
  names_conjunction (both p c) r =
      names_primary p (item And [] ∷ conjunction_items c r)
      ∙ ap (λ (l : List (List ℕ)). names_of_primary p ++ l) (names_conjunction c r) ∙ sym (append_assoc (names_of_primary p) (names_of_conjunction c) (names_of_items r))

  names_primary : (p : PrimaryTree) (r : List Item) → names_of_items (primary_items p r) ≡ names_of_primary p ++ names_of_items r
  names_primary (equality t u) r =
      names_left t (item Equal [] ∷ term_items u r)
      ∙ ap (λ (l : List (List ℕ)). names_of_term t ++ l) (names_term u r) ∙ sym (append_assoc (names_of_term t) (names_of_term u) (names_of_items r))
  names_primary (atomic a) r = names_atom a r
  names_primary (bracketed g) r = names_goal g (item Close [] ∷ r)

names_clause : (c : ClauseTree) (r : List Item) → names_of_items (clause_items c r) ≡ names_of_clause c ++ names_of_items r
names_clause (fact h) r = names_head h (item Fact [] ∷ r)
names_clause (implied h g) r =
    names_head h (item Neck [] ∷ goal_items g (item Rule [] ∷ r))
    ∙ ap (λ (l : List (List ℕ)). names_of_head h ++ l) (names_goal g (item Rule [] ∷ r)) ∙ sym (append_assoc (names_of_head h) (names_of_goal g) (names_of_items r))

pub names_clauses : (cs : List ClauseTree) → names_of_items (clauses_items cs) ≡ names_of_clauses cs
names_clauses [] = refl
names_clauses (c ∷ cs) = names_clause c (clauses_items cs) ∙ ap (λ (l : List (List ℕ)). names_of_clause c ++ l) (names_clauses cs)

pub names_query : (g : GoalTree) → names_of_items (goal_items g []) ≡ names_of_goal g
names_query g = names_goal g [] ∙ append-nil (names_of_goal g)

-- Variables. Meeting one more never makes the list shorter.
met_grows : (vs : List (List ℕ)) (w : List ℕ) → length vs ≤ length (met vs w)
met_grows vs w = go (lone w || not (listed w vs))
  where
    go : (b : Bool) → length vs ≤ length (cond b (vs ++ (w ∷ [])) vs)
    go true = omega (arith, length-append vs (w ∷ []))
    go false = omega arith

pub all_met_grows : (vs ws : List (List ℕ)) → length vs ≤ length (all_met vs ws)
all_met_grows vs [] = omega arith
all_met_grows vs (w ∷ ws) = omega (arith, met_grows vs w, all_met_grows (met vs w) ws)

-- what a tree's items make of the most: where the list is no longer than it was counted before, the most is counted behind the tree
record Counts (f : List Item → List Item) (ws : List (List ℕ)) : Type 0 where
  most : (m : ℕ) (vs : List (List ℕ)) (r : List Item) → length vs ≤ m → most_met m vs (f r) ≡ most_met (max m (length (all_met vs ws))) (all_met vs ws) r

-- nothing met
counts_none : {i : Item} → ((vs : List (List ℕ)) → met_behind vs i ≡ vs) → Counts (λ r. i ∷ r) []
unfolding most_met
counts_none {i} e = record { most = λ m vs r h. ap (λ (x : List (List ℕ)). most_met (max m (length x)) x r) (e vs) }

-- one behind the other
counts_then : {f g : List Item → List Item} {a b : List (List ℕ)} → Counts f a → Counts g b → Counts (λ r. f (g r)) (a ++ b)
counts_then {f} {g} {a} {b} x y = record {
  most = λ m vs r h.
      let k = max m (length (all_met vs a)) in
      let q : max k (length (all_met (all_met vs a) b)) ≡ max m (length (all_met (all_met vs a) b)) = omega (arith, all_met_grows (all_met vs a) b) in
      x.most m vs (g r) h ∙ y.most k (all_met vs a) r (omega arith) ∙ rw (all_met_append vs a b, q) refl;
}

-- one met
counts_one : {w : List ℕ} → Counts (λ r. item Variable w ∷ r) (w ∷ [])
unfolding most_met
counts_one = record { most = λ m vs r h. refl }

counts_goal_one : {w : List ℕ} → Counts (λ r. item GoalVariable w ∷ r) (w ∷ [])
unfolding most_met
counts_goal_one = record { most = λ m vs r h. refl }

-- what meets nothing, in front and behind
counts_front : {i : Item} {f : List Item → List Item} {a : List (List ℕ)} → ((vs : List (List ℕ)) → met_behind vs i ≡ vs) → Counts f a → Counts (λ r. i ∷ f r) a
counts_front e x = counts_then (counts_none e) x

counts_back : {i : Item} {f : List Item → List Item} {a : List (List ℕ)} → Counts f a → ((vs : List (List ℕ)) → met_behind vs i ≡ vs) → Counts (λ r. f (i ∷ r)) a
counts_back {i} {f} {a} x e = rw (append-nil a) at (counts_then x (counts_none {i = i} e))

mutual
  counts_term : (t : TermTree) → Counts (term_items t) (variables_of_term t)
  counts_term (alone w) = go (is_variable w)
    where
      go : (b : Bool) → Counts (λ r. item (cond b Variable Constant) w ∷ r) (cond b (w ∷ []) [])
      go true = counts_one
      go false = counts_none (λ vs. refl)
  counts_term (applied w ts) = counts_front (λ vs. refl) (counts_arguments ts)

  counts_arguments : (ts : ArgumentTrees) → Counts (arguments_items ts) (variables_of_arguments ts)
  counts_arguments (last t) = counts_back (counts_term t) (λ vs. refl)
  counts_arguments (more t ts) = counts_then (counts_term t) (counts_front (λ vs. refl) (counts_arguments ts))

counts_left : (t : TermTree) → Counts (left_items t) (variables_of_term t)
counts_left (alone w) = go (is_variable w)
  where
    go : (b : Bool) → Counts (λ r. item (cond b GoalVariable GoalConstant) w ∷ r) (cond b (w ∷ []) [])
    go true = counts_goal_one
    go false = counts_none (λ vs. refl)
counts_left (applied w ts) = counts_front (λ vs. refl) (counts_arguments ts)

counts_atom : (t : TermTree) → Counts (atom_items t) (variables_of_atom t)
counts_atom (alone w) = go (is_true w) (is_fail w)
  where
    go : (a b : Bool) → Counts (λ r. item (cond a Truth (cond b Failure GoalConstant)) w ∷ r) []
    go true b = counts_none (λ vs. refl)
    go false true = counts_none (λ vs. refl)
    go false false = counts_none (λ vs. refl)
counts_atom (applied w ts) = counts_front (λ vs. refl) (counts_arguments ts)

counts_head : (t : TermTree) → Counts (head_items t) (variables_of_atom t)
counts_head (alone w) = counts_none (λ vs. refl)
counts_head (applied w ts) = counts_front (λ vs. refl) (counts_arguments ts)

mutual
  counts_goal : (g : GoalTree) → Counts (goal_items g) (variables_of_goal g)
  counts_goal (only c) = counts_conjunction c
  counts_goal (either c g) = counts_then (counts_conjunction c) (counts_front (λ vs. refl) (counts_goal g))

  counts_conjunction : (c : ConjunctionTree) → Counts (conjunction_items c) (variables_of_conjunction c)
  counts_conjunction (sole p) = counts_primary p
  counts_conjunction (both p c) = counts_then (counts_primary p) (counts_front (λ vs. refl) (counts_conjunction c))

  counts_primary : (p : PrimaryTree) → Counts (primary_items p) (variables_of_primary p)
  counts_primary (equality t u) = counts_then (counts_left t) (counts_front (λ vs. refl) (counts_term u))
  counts_primary (atomic a) = counts_atom a
  counts_primary (bracketed g) = counts_front (λ vs. refl) (counts_back (counts_goal g) (λ vs. refl))

-- the most of two is at most 64 where both are
most_within : (m v : ℕ) → leb (max m v) 64 ≡ (leb m 64 && leb v 64)
most_within m v = go (leb m 64) refl (leb v 64) refl
  where
    go : (a : Bool) → leb m 64 ≡ a → (b : Bool) → leb v 64 ≡ b → leb (max m v) 64 ≡ (a && b)
    go true i true j = le-leb (max m v) 64 (omega (arith, leb-true m 64 i, leb-true v 64 j))
    go true i false j = lt-leb (max m v) 64 (omega (arith, leb-false v 64 j))
    go false i b j = lt-leb (max m v) 64 (omega (arith, leb-false m 64 i))

module _ (ns : List (List ℕ)) where
  -- behind a clause none are met, and the most counts its own
  most_clause : (c : ClauseTree) (m : ℕ) (r : List Item) → most_met m [] (clause_items c r) ≡ most_met (max m (variable_count (clause_of ns c))) [] r
  unfolding most_met
  most_clause (fact h) m r =
      let vh = head_variables h in
      let q : max (max m (length vh)) 0 ≡ max m (length vh) = omega arith in
      (counts_head h).most m [] (item Fact [] ∷ r) (omega arith) ∙ ap (λ (k : ℕ). most_met k [] r) q
  most_clause (implied h g) m r =
      let vg = all_met (head_variables h) (variables_of_goal g) in
      let q : max (max m (length vg)) 0 ≡ max m (length vg) = omega arith in
      (counts_then (counts_head h) (counts_front {i = item Neck []} (λ vs. refl) (counts_goal g))).most m [] (item Rule [] ∷ r) (omega arith)
      ∙ rw (all_met_append [] (variables_of_atom h) (variables_of_goal g)) (ap (λ (k : ℕ). most_met k [] r) q)

  pub most_clauses : (cs : List ClauseTree) (m : ℕ) → leb (most_met m [] (clauses_items cs)) 64 ≡ (leb m 64 && every variables_within (clauses_of ns cs))
  unfolding most_met
  most_clauses [] m = sym (and-true (leb m 64))
  most_clauses (c ∷ cs) m =
      ap (λ (k : ℕ). leb k 64) (most_clause c m (clauses_items cs)) ∙ most_clauses cs (max m (variable_count (clause_of ns c)))
      ∙ ap (λ (b : Bool). b && every variables_within (clauses_of ns cs)) (most_within m (variable_count (clause_of ns c)))
      ∙ and_assoc (leb m 64) (leb (variable_count (clause_of ns c)) 64) (every variables_within (clauses_of ns cs))

pub most_query : (g : GoalTree) → most_met 0 [] (goal_items g []) ≡ length (all_met [] (variables_of_goal g))
unfolding most_met
most_query g = (counts_goal g).most 0 [] [] (omega arith) ∙ omega arith
