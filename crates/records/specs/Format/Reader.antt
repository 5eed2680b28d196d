-- The executable reader of terms and goals: from bytes, with t terms and then g goals still to come, to those terms and goals and the number of
-- bytes that they take. It goes down the bytes, so it needs no fuel: a symbol of arity k adds k to the terms to come, a conjunction 2 to the goals.
use Rattle.std.specs.Prelude.{ℕ, zero, suc, ◌+◌, List, [], ◌∷◌, Option, Some, None}
use Rattle.records.specs.Format.Syntax.{Terms, Goal}
use Rattle.records.specs.Format.Syntax.Term.{var, app}
use Rattle.records.specs.Format.Syntax.Terms.{nil, cons}
use Rattle.records.specs.Format.Syntax.Goal.{truth, failure, equal, conj, disj, atom}
use Rattle.records.specs.Format.Heads.{term_head, goal_head}
use Rattle.records.specs.declared.heads.TermHead.{TermHead}
use Rattle.records.specs.declared.heads.TermHead.TheVariants.{Variable, Symbol}
use Rattle.records.specs.declared.heads.GoalHead.{GoalHead}
use Rattle.records.specs.declared.heads.GoalHead.TheVariants.{Truth, Failure, Equal, Conj, Disj, Atom}

-- what a reader finds: nothing, or a value and the number of bytes that it takes
pub data Read (A : Type 0) : Type 0 where
  unread : Read A
  found : A → ℕ → Read A

-- what is made of a value that was found after k bytes
abbrev pub also : {A B : Type 0} → (A → B) → ℕ → Read A → Read B
also f k unread = unread
also f k (found a n) = found (f a) (k + n)

-- terms, and then goals
pub data Parts : Type 0 where
  parts : Terms → List Goal → Parts

abbrev pub terms_of : Parts → Terms
terms_of (parts ts gs) = ts

abbrev pub goals_of : Parts → List Goal
goals_of (parts ts gs) = gs

-- the first k of some terms, and those after them
abbrev pub leading : ℕ → Terms → Terms
leading zero ts = nil
leading (suc k) nil = nil
leading (suc k) (cons t ts) = cons t (leading k ts)

abbrev pub back : ℕ → Terms → Terms
back zero ts = ts
back (suc k) nil = nil
back (suc k) (cons t ts) = back k ts

-- a node over what was read after its head
abbrev pub over_variable : ℕ → Parts → Parts
over_variable v p = parts (cons (var v) (terms_of p)) (goals_of p)

abbrev pub over_symbol : ℕ → ℕ → Parts → Parts
over_symbol f k p = parts (cons (app f (leading k (terms_of p))) (back k (terms_of p))) (goals_of p)

abbrev pub over_goal : Goal → Parts → Parts
over_goal g p = parts (terms_of p) (g ∷ goals_of p)

abbrev pub over_atom : ℕ → ℕ → Parts → Parts
over_atom f k p = parts (back k (terms_of p)) (atom f (leading k (terms_of p)) ∷ goals_of p)

abbrev pub equal_of : Terms → List Goal → Parts
equal_of nil gs = parts nil gs
equal_of (cons t nil) gs = parts nil gs
equal_of (cons t (cons u ts)) gs = parts ts (equal t u ∷ gs)

abbrev pub over_equal : Parts → Parts
over_equal p = equal_of (terms_of p) (goals_of p)

abbrev pub pair_of : (Goal → Goal → Goal) → Terms → List Goal → Parts
pair_of op ts [] = parts ts []
pair_of op ts (a ∷ []) = parts ts []
pair_of op ts (a ∷ b ∷ gs) = parts ts (op a b ∷ gs)

abbrev pub over_pair : (Goal → Goal → Goal) → Parts → Parts
over_pair op p = pair_of op (terms_of p) (goals_of p)

-- what reads on with so many terms and goals to come
abbrev pub ReadOn : Type 0
ReadOn = ℕ → ℕ → Read Parts

-- one node by its heads; r1, r3 and r4 read on after 1, 3 and 4 bytes
abbrev pub node : ℕ → ℕ → Option TermHead → Option GoalHead → ReadOn → ReadOn → ReadOn → Read Parts
node zero zero h i r1 r3 r4 = found (parts nil []) 0
node (suc t) g (Some (Variable v)) i r1 r3 r4 = also (over_variable v) 3 (r3 t g)
node (suc t) g (Some (Symbol f k)) i r1 r3 r4 = also (over_symbol f k) 4 (r4 (k + t) g)
node (suc t) g None i r1 r3 r4 = unread
node zero (suc g) h (Some Truth) r1 r3 r4 = also (over_goal truth) 1 (r1 zero g)
node zero (suc g) h (Some Failure) r1 r3 r4 = also (over_goal failure) 1 (r1 zero g)
node zero (suc g) h (Some Equal) r1 r3 r4 = also over_equal 1 (r1 2 g)
node zero (suc g) h (Some Conj) r1 r3 r4 = also (over_pair conj) 1 (r1 zero (suc (suc g)))
node zero (suc g) h (Some Disj) r1 r3 r4 = also (over_pair disj) 1 (r1 zero (suc (suc g)))
node zero (suc g) h (Some (Atom p k)) r1 r3 r4 = also (over_atom p k) 4 (r4 k g)
node zero (suc g) h None r1 r3 r4 = unread

abbrev stop : ReadOn
stop t g = unread

unfoldable pub read : List ℕ → ℕ → ℕ → Read Parts
read [] t g = node t g None None stop stop stop
read (b ∷ []) t g = node t g (term_head (b ∷ [])) (goal_head (b ∷ [])) (read []) (read []) (read [])
read (b ∷ x ∷ []) t g = node t g (term_head (b ∷ x ∷ [])) (goal_head (b ∷ x ∷ [])) (read (x ∷ [])) (read []) (read [])
read (b ∷ x ∷ y ∷ []) t g = node t g (term_head (b ∷ x ∷ y ∷ [])) (goal_head (b ∷ x ∷ y ∷ [])) (read (x ∷ y ∷ [])) (read []) (read [])
read (b ∷ x ∷ y ∷ k ∷ l) t g =
    node t g (term_head (b ∷ x ∷ y ∷ k ∷ l)) (goal_head (b ∷ x ∷ y ∷ k ∷ l)) (read (x ∷ y ∷ k ∷ l)) (read (k ∷ l)) (read l)
