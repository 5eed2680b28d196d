-- Laws of a traversal: it goes a node at a time by the heads, and a traversal over some terms goes on into the traversal over what follows them.
use Rattle.std.specs.Prelude.{ℕ, zero, suc, ◌+◌, ◌≡◌, List, [], ◌∷◌, ◌++◌, length, drop, Option, Some, None}
use Rattle.std.proofs.Common.{add-zero, arith, ◌∙◌, append_assoc, append-nil}
use Rattle.std.proofs.Math.Nat.{add_assoc}
use Rattle.std.proofs.Math.Path.{refl, ap}
use Rattle.std.proofs.Math.Seq.{drop-drop}
use Rattle.records.specs.Format.Syntax.{Terms, Goal, arity}
use Rattle.records.specs.Format.Syntax.Terms.{nil, cons}
use Rattle.records.specs.Format.Syntax.Goal.{truth, failure, conj, disj}
use Rattle.records.specs.Format.Encode.{word}
use Rattle.records.specs.Format.Heads.{term_head, goal_head, term_head_at, goal_head_at}
use Rattle.records.specs.Format.Reader.{Read, Parts, also, terms_of, goals_of, leading, back, over_variable, over_symbol, over_goal, over_atom, over_equal, over_pair, node, read}
use Rattle.records.specs.Format.Reader.Read.{unread, found}
use Rattle.records.specs.Format.Reader.Parts.{parts}
use Rattle.records.specs.Format.ReaderLaws.{read_node, sound, ReadSound, front_arity, none_back, none_left}
use Rattle.records.specs.Ends.Traversal.{Node, Traversal, terms_nodes, goal_nodes, goals_nodes, parts_nodes, traversed, traverse, before}
use Rattle.records.specs.Ends.Traversal.Node.{variable, other}
use Rattle.records.specs.Ends.Traversal.Traversal.{off, on}
use Rattle.records.specs.declared.heads.TermHead.{TermHead}
use Rattle.records.specs.declared.heads.TermHead.TheVariants.{Variable, Symbol}
use Rattle.records.specs.declared.heads.GoalHead.{GoalHead}
use Rattle.records.specs.declared.heads.GoalHead.TheVariants.{Truth, Failure, Equal, Conj, Disj, Atom}

-- one node, by its heads
abbrev pub step : List ℕ → ℕ → ℕ → ℕ → Option TermHead → Option GoalHead → Traversal
step s at zero zero h i = on [] at
step s at (suc t) g (Some (Variable v)) i = before (variable v) (traverse s (at + 3) t g)
step s at (suc t) g (Some (Symbol f k)) i = before (other (0x02 ∷ (word f ++ (k ∷ [])))) (traverse s (at + 4) (k + t) g)
step s at (suc t) g None i = off
step s at zero (suc g) h (Some Truth) = before (other (0x10 ∷ [])) (traverse s (at + 1) zero g)
step s at zero (suc g) h (Some Failure) = before (other (0x11 ∷ [])) (traverse s (at + 1) zero g)
step s at zero (suc g) h (Some Equal) = before (other (0x12 ∷ [])) (traverse s (at + 1) 2 g)
step s at zero (suc g) h (Some Conj) = before (other (0x13 ∷ [])) (traverse s (at + 1) zero (suc (suc g)))
step s at zero (suc g) h (Some Disj) = before (other (0x14 ∷ [])) (traverse s (at + 1) zero (suc (suc g)))
step s at zero (suc g) h (Some (Atom p k)) = before (other (0x15 ∷ (word p ++ (k ∷ [])))) (traverse s (at + 4) k g)
step s at zero (suc g) h None = off

-- what a node makes of what was read after it, as a traversal
module _ (s : List ℕ) (at : ℕ) where
  made : (x : Node) (f : Parts → Parts) (k t g : ℕ) → ((p : Parts) (n : ℕ) → ReadSound (drop k (drop at s)) t g p n → parts_nodes (f p) ≡ x ∷ parts_nodes p)
      → traversed at (also f k (read (drop k (drop at s)) t g)) ≡ before x (traverse s (at + k) t g)
  unfolding traverse
  made x f k t g q = rw (← drop-drop k at s) (go (read (drop k (drop at s)) t g) refl)
    where
      go : (o : Read Parts) → read (drop k (drop at s)) t g ≡ o → traversed at (also f k o) ≡ before x (traversed (at + k) o)
      go unread e = refl
      go (found p n) e = rw (q p n (sound (drop k (drop at s)) t g p n e), add_assoc at k n)

nodes_split : (k : ℕ) (ts : Terms) → terms_nodes (leading k ts) ++ terms_nodes (back k ts) ≡ terms_nodes ts
nodes_split zero ts = refl
nodes_split (suc k) nil = refl
nodes_split (suc k) (cons t ts) = rw (append_assoc, nodes_split k ts)

symbol_nodes : (f k t : ℕ) (p : Parts) → arity (terms_of p) ≡ k + t → parts_nodes (over_symbol f k p) ≡ other (0x02 ∷ (word f ++ (k ∷ []))) ∷ parts_nodes p
symbol_nodes f k t (parts ts gs) e =
    ap (λ (n : ℕ). other (0x02 ∷ (word f ++ (n ∷ []))) ∷ ((terms_nodes (leading k ts) ++ terms_nodes (back k ts)) ++ goals_nodes gs)) (front_arity k t ts e)
    ∙ ap (λ (l : List Node). other (0x02 ∷ (word f ++ (k ∷ []))) ∷ (l ++ goals_nodes gs)) (nodes_split k ts)

goal_nodes_first : (x : Node) (a : Goal) (p : Parts) → goal_nodes a ≡ x ∷ [] → arity (terms_of p) ≡ 0 → parts_nodes (over_goal a p) ≡ x ∷ parts_nodes p
goal_nodes_first x a (parts ts gs) e z = rw (none_left ts z, e)

equal_nodes : (p : Parts) → arity (terms_of p) ≡ 2 → parts_nodes (over_equal p) ≡ other (0x12 ∷ []) ∷ parts_nodes p
equal_nodes (parts nil gs) e = absurd (omega arith)
equal_nodes (parts (cons t nil) gs) e = absurd (omega arith)
equal_nodes (parts (cons t (cons u nil)) gs) e = simp (append_assoc, append-nil)
equal_nodes (parts (cons t (cons u (cons v ts))) gs) e = absurd (omega arith)

pair_nodes : (op : Goal → Goal → Goal) (x : Node) → ((a b : Goal) → goal_nodes (op a b) ≡ x ∷ (goal_nodes a ++ goal_nodes b)) → (g : ℕ) (p : Parts) → arity (terms_of p) ≡ 0
    → length (goals_of p) ≡ suc (suc g) → parts_nodes (over_pair op p) ≡ x ∷ parts_nodes p
pair_nodes op x q g (parts ts []) e d = absurd (omega arith)
pair_nodes op x q g (parts ts (a ∷ [])) e d = absurd (omega arith)
pair_nodes op x q g (parts ts (a ∷ b ∷ gs)) e d = rw (none_left ts e, q a b) (simp append_assoc)

atom_nodes : (f k : ℕ) (p : Parts) → arity (terms_of p) ≡ k → parts_nodes (over_atom f k p) ≡ other (0x15 ∷ (word f ++ (k ∷ []))) ∷ parts_nodes p
atom_nodes f k (parts ts gs) e =
    let w = none_back k ts e in
    rw (w.0, w.1, e)

module _ (s : List ℕ) (at : ℕ) where
  step_at : (t g : ℕ) (h : Option TermHead) (i : Option GoalHead)
      → traversed at (node t g h i (read (drop 1 (drop at s))) (read (drop 3 (drop at s))) (read (drop 4 (drop at s)))) ≡ step s at t g h i
  step_at zero zero h i = ap (on []) (add-zero at)
  step_at (suc t) g (Some (Variable v)) i = made s at (variable v) (over_variable v) 3 t g (λ p n w. refl)
  step_at (suc t) g (Some (Symbol f k)) i = made s at _ (over_symbol f k) 4 (k + t) g (λ p n w. symbol_nodes f k t p w.terms)
  step_at (suc t) g None i = refl
  step_at zero (suc g) h (Some Truth) = made s at _ (over_goal truth) 1 zero g (λ p n w. goal_nodes_first _ truth p refl w.terms)
  step_at zero (suc g) h (Some Failure) = made s at _ (over_goal failure) 1 zero g (λ p n w. goal_nodes_first _ failure p refl w.terms)
  step_at zero (suc g) h (Some Equal) = made s at _ over_equal 1 2 g (λ p n w. equal_nodes p w.terms)
  step_at zero (suc g) h (Some Conj) = made s at _ (over_pair conj) 1 zero (suc (suc g)) (λ p n w. pair_nodes conj _ (λ _ _. refl) g p w.terms w.goals)
  step_at zero (suc g) h (Some Disj) = made s at _ (over_pair disj) 1 zero (suc (suc g)) (λ p n w. pair_nodes disj _ (λ _ _. refl) g p w.terms w.goals)
  step_at zero (suc g) h (Some (Atom f k)) = made s at _ (over_atom f k) 4 k g (λ p n w. atom_nodes f k p w.terms)
  step_at zero (suc g) h None = refl

  -- the one law of a traversal
  pub traverse_step : (t g : ℕ) → traverse s at t g ≡ step s at t g (term_head_at s at) (goal_head_at s at)
  unfolding traverse term_head_at goal_head_at
  traverse_step t g = ap (traversed at) (read_node (drop at s) t g) ∙ step_at t g (term_head (drop at s)) (goal_head (drop at s))
