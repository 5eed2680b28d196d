-- Question 4 item by item, over the variables that a traversal meets: what the code for the record rules goes by.
use Rattle.std.specs.Prelude.{ℕ, ◌+◌, ◌≡◌, Bool, length, drop, Option, Some, None}
use Rattle.std.proofs.Common.{arith, ◌∙◌}
use Rattle.std.proofs.Math.Path.{refl, sym, ap}
use Rattle.std.proofs.Math.Bool.{true}
use mathlib.Core.List.{List, [], ◌∷◌, ◌++◌, append-nil}
use Rattle.std.proofs.Math.Dec.{leb}
use Rattle.std.proofs.Math.Seq.{drop-drop}
use Rattle.records.specs.Format.Never.{never}
use Rattle.records.specs.Format.Syntax.{Term, Terms, Goal, Binding, Bet, arity}
use Rattle.records.specs.Format.Syntax.Term.{var, app}
use Rattle.records.specs.Format.Syntax.Terms.{nil, cons}
use Rattle.records.specs.Format.Syntax.Goal.{truth, failure, equal, conj, disj, atom}
use Rattle.records.specs.Format.Syntax.Binding.{bind}
use Rattle.records.specs.Format.Syntax.Definition.{definition}
use Rattle.records.specs.Format.Syntax.Clause.{clause}
use Rattle.records.specs.Gate.RecordRules.{term_variables, terms_variables, goal_variables, exactly, unifier_rules, bet_rules, definition_rules, clause_rules}
use Rattle.records.specs.Format.Heads.{word_head, bet_head, definition_head, clause_head, word_at, bet_head_at, definition_head_at, clause_head_at}
use Rattle.records.specs.Format.Reader.{Read, Parts, also, terms_of, goals_of, read}
use Rattle.records.specs.Format.Reader.Read.{unread, found}
use Rattle.records.specs.Format.Reader.Parts.{parts}
use Rattle.records.specs.Format.ReaderLaws.{sound}
use Rattle.records.specs.Format.Items.{many, first_term, first_goal, read_binding, bet_by, read_bet, read_definition, read_clause}
use Rattle.records.specs.Ends.Traversal.{Node, node_variables, term_nodes, terms_nodes, goal_nodes, parts_nodes, traversed, traverse, place_of, end_of}
use Rattle.records.specs.Ends.Steps.{On, met}
use Rattle.records.specs.Ends.Above.{above}
use Rattle.records.specs.Ends.AboveLaws.{every_below}
use Rattle.records.specs.Gate.Rows.{Ends, holds, kept_at}
use Rattle.records.specs.declared.heads.BetHead.{BetHead}
use Rattle.records.specs.declared.heads.BetHead.TheVariants.{Unifier, Or, By}
use Rattle.records.specs.declared.heads.Signature.{Signature}

-- the variables among the nodes of a tree are its variables
pub variables_append : (k l : List Node) → node_variables (k ++ l) ≡ node_variables k ++ node_variables l
variables_append [] l = refl
variables_append (Node.variable v ∷ k) l = ap (λ (x : List ℕ). v ∷ x) (variables_append k l)
variables_append (Node.other x ∷ k) l = variables_append k l

mutual
  pub term_met : (t : Term) → node_variables (term_nodes t) ≡ term_variables t
  term_met (var v) = refl
  term_met (app f ts) = terms_met ts

  pub terms_met : (ts : Terms) → node_variables (terms_nodes ts) ≡ terms_variables ts
  terms_met nil = refl
  terms_met (cons t ts) = rw (variables_append, term_met t, terms_met ts)

pub goal_met : (g : Goal) → node_variables (goal_nodes g) ≡ goal_variables g
goal_met truth = refl
goal_met failure = refl
goal_met (equal t u) = rw (variables_append, term_met t, term_met u)
goal_met (conj a b) = rw (variables_append, goal_met a, goal_met b)
goal_met (disj a b) = rw (variables_append, goal_met a, goal_met b)
goal_met (atom p ts) = terms_met ts

-- the parts that were read, by their number
one_term : (p : Parts) → arity (terms_of p) ≡ 1 → length (goals_of p) ≡ 0 → node_variables (parts_nodes p) ≡ term_variables (first_term p)
one_term (parts nil gs) e d = absurd (omega arith)
one_term (parts (cons t nil) []) e d = rw (append-nil, append-nil) (term_met t)
one_term (parts (cons t nil) (a ∷ gs)) e d = absurd (omega arith)
one_term (parts (cons t (cons u ts)) gs) e d = absurd (omega arith)

one_goal : (p : Parts) → length (goals_of p) ≡ 1 → node_variables (parts_nodes p) ≡ terms_variables (terms_of p) ++ goal_variables (first_goal p)
one_goal (parts ts []) d = absurd (omega arith)
one_goal (parts ts (a ∷ [])) d = rw (append-nil, variables_append, terms_met ts, goal_met a)
one_goal (parts ts (a ∷ b ∷ gs)) d = absurd (omega arith)

no_terms : (ts : Terms) → arity ts ≡ 0 → terms_variables ts ≡ []
no_terms nil e = refl
no_terms (cons t ts) e = absurd (omega arith)

module _ (s : List ℕ) (at : ℕ) where
  -- what an item's head announces was read, as a traversal
  through : {A : Type 0} (f : Parts → A) (k t g : ℕ) → Ends (place_of at (also f k (read (drop k (drop at s)) t g))) → On (traverse s (at + k) t g)
  unfolding traverse
  through f k t g h = rw (← drop-drop k at s) (go (read (drop k (drop at s)) t g) h)
    where
      go : (o : Read Parts) → Ends (place_of at (also f k o)) → On (traversed (at + k) o)
      go unread w = w
      go (found p n) w = tt

  -- a rule on what was read, by the variables met
  ruled : {A : Type 0} (f : Parts → A) (kept : A → Bool) (rule : List ℕ → Bool) (k t g : ℕ) → ((p : Parts) → arity (terms_of p) ≡ t → length (goals_of p) ≡ g → kept (f p) ≡ rule (node_variables (parts_nodes p)))
      → Ends (place_of at (also f k (read (drop k (drop at s)) t g))) → holds kept (also f k (read (drop k (drop at s)) t g)) ≡ rule (met (traverse s (at + k) t g))
  unfolding traverse
  ruled f kept rule k t g q h = rw (← drop-drop k at s) (go (read (drop k (drop at s)) t g) refl h)
    where
      go : (o : Read Parts) → read (drop k (drop at s)) t g ≡ o → Ends (place_of at (also f k o)) → holds kept (also f k o) ≡ rule (met (traversed (at + k) o))
      go unread e w = absurd w
      go (found p n) e w = let v = sound (drop k (drop at s)) t g p n e in q p v.terms v.goals

  -- a definition: only the head's variables and the locals occur
  pub definition_through : {h : Option Signature} {d : Signature} → h ≡ definition_head_at s at → h ≡ Some d → Ends (end_of read_definition s at) → On (traverse s (at + 4) 0 1)
  unfolding end_of read_definition definition_head_at
  definition_through {h} {d} is e w = through (λ q. definition d.predicate d.arity d.count (first_goal q)) 4 0 1 (rw (sym is ∙ e) at w)

  pub definition_kept : {h : Option Signature} {d : Signature} → h ≡ definition_head_at s at → h ≡ Some d → Ends (end_of read_definition s at)
      → kept_at definition_rules read_definition s at ≡ leb (above (met (traverse s (at + 4) 0 1))) (d.arity + d.count)
  unfolding kept_at end_of read_definition definition_head_at
  definition_kept {h} {d} is e w =
      let x : definition_head (drop at s) ≡ Some d = sym is ∙ e in
      rw x (ruled (λ q. definition d.predicate d.arity d.count (first_goal q)) definition_rules (λ l. leb (above l) (d.arity + d.count)) 4 0 1
      (λ q t g. every_below (d.arity + d.count) (goal_variables (first_goal q)) ∙ ap (λ (l : List ℕ). leb (above l) (d.arity + d.count)) (sym (one_goal q g ∙ ap (λ (l : List ℕ). l ++ goal_variables (first_goal q)) (no_terms (terms_of q) t))))
      (rw x at w))

  -- a clause: exactly its variables occur
  pub clause_through : {h : Option Signature} {d : Signature} → h ≡ clause_head_at s at → h ≡ Some d → Ends (end_of read_clause s at) → On (traverse s (at + 4) d.arity 1)
  unfolding end_of read_clause clause_head_at
  clause_through {h} {d} is e w = through (λ q. clause d.predicate d.count (terms_of q) (first_goal q)) 4 d.arity 1 (rw (sym is ∙ e) at w)

  pub clause_kept : {h : Option Signature} {d : Signature} → h ≡ clause_head_at s at → h ≡ Some d → Ends (end_of read_clause s at)
      → kept_at clause_rules read_clause s at ≡ exactly d.count (met (traverse s (at + 4) d.arity 1))
  unfolding kept_at end_of read_clause clause_head_at
  clause_kept {h} {d} is e w =
      let x : clause_head (drop at s) ≡ Some d = sym is ∙ e in
      rw x (ruled (λ q. clause d.predicate d.count (terms_of q) (first_goal q)) clause_rules (exactly d.count) 4 d.arity 1 (λ q t g. ap (exactly d.count) (sym (one_goal q g))) (rw x at w))

  -- a pair: its variable, and those of its term
  pub record Pair (v : ℕ) (b : Binding) : Type 0 where
    pub term : Term
    pub is : b ≡ bind v term
    pub through : On (traverse s (at + 2) 1 0)
    pub variables : met (traverse s (at + 2) 1 0) ≡ term_variables term

  pub pair_read : {h : Option ℕ} {v n : ℕ} {b : Binding} → h ≡ word_at s at → h ≡ Some v → read_binding (drop at s) ≡ found b n → Pair v b
  unfolding read_binding word_at traverse
  pair_read {h} {v} {n} {b} is e q =
      let x : word_head (drop at s) ≡ Some v = sym is ∙ e in
      go (read (drop 2 (drop at s)) 1 0) refl (rw x at q)
    where
      go : (o : Read Parts) → read (drop 2 (drop at s)) 1 0 ≡ o → also (λ p. bind v (first_term p)) 2 o ≡ found b n → Pair v b
      go unread p z = never cc
      go (found p m) e z =
          let w = sound (drop 2 (drop at s)) 1 0 p m e in
          let d : read (drop (at + 2) s) 1 0 ≡ found p m = ap (λ (l : List ℕ). read l 1 0) (sym (drop-drop 2 at s)) ∙ e in
          let a : bind v (first_term p) ≡ b = cc in
          record { term = first_term p; is = sym a; through = rw d tt; variables = rw d (one_term p w.terms w.goals) }

  -- a bet: a unifier's rules are those of its pairs, and no other bet has any
  pub unifier_through : {h : Option BetHead} {n : ℕ} → h ≡ bet_head_at s at → h ≡ (Some (Unifier n)) → Ends (end_of read_bet s at) → Ends (end_of (many read_binding n) s (at + 3))
  unfolding end_of read_bet bet_head_at
  unifier_through {h} {n} is e w = rw (← drop-drop 3 at s) (go (many read_binding n (drop 3 (drop at s))) (rw (sym is ∙ e) at w))
    where
      go : (o : Read (List Binding)) → Ends (place_of at (also Bet.unifier 3 o)) → Ends (place_of (at + 3) o)
      go unread z = z
      go (found l m) z = tt

  pub unifier_kept : {h : Option BetHead} {n : ℕ} → h ≡ bet_head_at s at → h ≡ (Some (Unifier n)) → kept_at bet_rules read_bet s at ≡ kept_at unifier_rules (many read_binding n) s (at + 3)
  unfolding kept_at read_bet bet_head_at
  unifier_kept {h} {n} is e =
      let x : bet_head (drop at s) ≡ (Some (Unifier n)) = sym is ∙ e in
      rw (x, ← drop-drop 3 at s) (go (many read_binding n (drop 3 (drop at s))))
    where
      go : (o : Read (List Binding)) → holds bet_rules (also Bet.unifier 3 o) ≡ holds unifier_rules o
      go unread = refl
      go (found l m) = refl

  pub other_kept : {h : Option BetHead} → h ≡ bet_head_at s at → (i : Option BetHead) → h ≡ i → ((n : ℕ) → i ≡ (Some (Unifier n)) → ⊥) → kept_at bet_rules read_bet s at ≡ true
  unfolding kept_at read_bet bet_head_at
  other_kept is i e none = rw (sym is ∙ e) (go i none)
    where
      by_goal : (o : Read Parts) → holds bet_rules (also (λ q. Bet.by (first_goal q)) 1 o) ≡ true
      by_goal unread = refl
      by_goal (found p m) = refl

      go : (j : Option BetHead) → ((n : ℕ) → j ≡ (Some (Unifier n)) → ⊥) → holds bet_rules (bet_by j (drop at s)) ≡ true
      go (Some (Unifier n)) h = absurd (h n refl)
      go (Some (Or k)) h = refl
      go (Some By) h = by_goal (read (drop 1 (drop at s)) 0 1)
      go None h = refl
