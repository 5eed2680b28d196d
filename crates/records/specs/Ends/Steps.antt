-- A traversal that is known to go through, step by step: what a by-value cursor sees, and any fold over the variables that it meets.
use Rattle.std.specs.Prelude.{ℕ, zero, suc, ◌+◌, ◌-◌, ◌≤◌, ◌<◌, max, ◌≡◌, List, [], ◌∷◌, length, Option, Some, None}
use Rattle.records.specs.Format.Heads.{term_head_at, goal_head_at}
use Rattle.records.specs.Format.HeadLaws.{Known}
use Rattle.records.specs.Ends.Traversal.{Traversal, node_variables, traverse, before}
use Rattle.records.specs.Ends.Traversal.Node.{variable, other}
use Rattle.records.specs.Ends.Traversal.Traversal.{off, on}
use Rattle.records.specs.Ends.Above.{above}
use Rattle.records.specs.declared.heads.TermHead.{TermHead}
use Rattle.records.specs.declared.heads.TermHead.TheVariants.{Variable, Symbol}
use Rattle.records.specs.declared.heads.GoalHead.{GoalHead}
use Rattle.records.specs.declared.heads.GoalHead.TheVariants.{Truth, Failure, Equal, Conj, Disj, Atom}
use Rattle.records.specs.declared.traverse.Cursor.{Cursor}
use Rattle.records.specs.declared.traverse.NodeStep.{NodeStep}
use Rattle.records.specs.declared.traverse.NodeStep.TheVariants.{Variable as Met, Other}
use Rattle.records.specs.declared.traverse.Top.{Top}

-- the traversal goes through
abbrev pub On : Traversal → Type 0
On off = ⊥
On (on l e) = Unit {0}

-- its variables, and where it ends
abbrev pub met : Traversal → List ℕ
met off = []
met (on l e) = node_variables l

abbrev pub end_place : Traversal → ℕ
end_place off = 0
end_place (on l e) = e

-- the place after a goal's head of so many bytes, with the terms and goals that it announces
abbrev pub after_goal : ℕ → ℕ → ℕ → ℕ → ℕ → Option NodeStep
after_goal pos size terms more goals = Some (Other (record { pos = pos + size; terms = terms; goals = more + (goals - 1) }))

-- one node, by its heads
abbrev pub step_by : ℕ → ℕ → ℕ → Option TermHead → Option GoalHead → Option NodeStep
step_by p zero zero h i = None
step_by p (suc t) g (Some (Variable v)) i = Some (Met v (record { pos = p + 3; terms = suc t - 1; goals = g }))
step_by p (suc t) g (Some (Symbol f k)) i = Some (Other (record { pos = p + 4; terms = k + (suc t - 1); goals = g }))
step_by p (suc t) g None i = None
step_by p zero (suc g) h (Some Truth) = after_goal p 1 0 0 (suc g)
step_by p zero (suc g) h (Some Failure) = after_goal p 1 0 0 (suc g)
step_by p zero (suc g) h (Some Equal) = after_goal p 1 2 0 (suc g)
step_by p zero (suc g) h (Some Conj) = after_goal p 1 0 2 (suc g)
step_by p zero (suc g) h (Some Disj) = after_goal p 1 0 2 (suc g)
step_by p zero (suc g) h (Some (Atom f k)) = after_goal p 4 k 0 (suc g)
step_by p zero (suc g) h None = None

unfoldable pub next_step : List ℕ → ℕ → ℕ → ℕ → Option NodeStep
next_step s p t g = step_by p t g (term_head_at s p) (goal_head_at s p)

-- the traversal from a cursor on
abbrev pub traverse_from : List ℕ → Cursor → Traversal
traverse_from s c = traverse s c.pos c.terms c.goals

-- what a step says of the traversal w from p on
abbrev pub Goes : List ℕ → ℕ → Traversal → Option NodeStep → Type 0
Goes s p w (Some (Met v c)) = (w ≡ before (variable v) (traverse_from s c)) × (p < c.pos) × (v < 65536)
Goes s p w (Some (Other c)) = ((x : List ℕ) × (w ≡ before (other x) (traverse_from s c))) × (p < c.pos)
Goes s p w None = w ≡ on [] p

-- what a step does to the traversal from c on
module _ (s : List ℕ) (known : Known s) (c : Cursor) (h : On (traverse_from s c)) {r : Option NodeStep} (is : r ≡ next_step s c.pos c.terms c.goals) where
  pub record To (d : Cursor) : Type 0 where
    pub through : On (traverse_from s d)
    pub end : end_place (traverse_from s c) ≡ end_place (traverse_from s d)
    pub forth : c.pos < d.pos
    pub within : d.pos ≤ length s

-- a fold with an accumulator: `along f a l` is what becomes of a over the variables of l
abbrev pub along : {A : Type 0} → (A → ℕ → A) → A → List ℕ → A
along f a [] = a
along f a (v ∷ l) = along f (f a v) l

-- what a fold knows on its way: the traversal from c on is what is left of the traversal w, with a gathered before
pub record Underway {A : Type 0} (f : A → ℕ → A) (s : List ℕ) (w : Traversal) (a₀ : A) (c : Cursor) (a : A) : Type 0 where
  pub through : On (traverse_from s c)
  pub same_end : end_place w ≡ end_place (traverse_from s c)
  pub same_value : along f a₀ (met w) ≡ along f a (met (traverse_from s c))

-- a number, raised above one more
abbrev pub raised : ℕ → ℕ → ℕ
raised m v = max m (v + 1)

-- the least number above all variables of a traversal, and where it ends
pub record Tops (w : Traversal) (r : Top) : Type 0 where
  pub top : r.top ≡ above (met w)
  pub end : r.end ≡ end_place w
