-- What a step of a traversal is, from the head that was found.
use Rattle.std.specs.Prelude.{Option, Some, None}
use Prim.Native.Nat.{ℕ, zero, suc, ◌+◌, ◌-◌, ◌<◌}
use native.Mathlib.Omega.{arith}
use mathlib.Core.Path.{◌≡◌, refl, sym, ap, ◌∙◌}
use mathlib.Core.List.{List}
use Rattle.records.specs.Format.Heads.{term_head_at, goal_head_at}
use Rattle.records.specs.Ends.Traversal.{traverse}
use Rattle.records.specs.Ends.Steps.{On, after_goal, step_by, next_step}
use Rattle.records.specs.declared.heads.TermHead.{TermHead}
use Rattle.records.specs.declared.heads.TermHead.TheVariants.{Variable, Symbol}
use Rattle.records.specs.declared.heads.GoalHead.{GoalHead}
use Rattle.records.specs.declared.heads.GoalHead.TheVariants.{Truth, Failure, Equal, Conj, Disj, Atom}
use Rattle.records.specs.declared.traverse.NodeStep.{NodeStep}
use Rattle.records.specs.declared.traverse.NodeStep.TheVariants.{Variable as Met, Other}

abbrev pub term_step : ℕ → ℕ → ℕ → Option TermHead → Option NodeStep
term_step p t g (Some (Variable v)) = Some (Met v (record { pos = p + 3; terms = t - 1; goals = g }))
term_step p t g (Some (Symbol f k)) = Some (Other (record { pos = p + 4; terms = k + (t - 1); goals = g }))
term_step p t g None = None

abbrev pub goal_step : ℕ → ℕ → Option GoalHead → Option NodeStep
goal_step p g (Some Truth) = after_goal p 1 0 0 g
goal_step p g (Some Failure) = after_goal p 1 0 0 g
goal_step p g (Some Equal) = after_goal p 1 2 0 g
goal_step p g (Some Conj) = after_goal p 1 0 2 g
goal_step p g (Some Disj) = after_goal p 1 0 2 g
goal_step p g (Some (Atom f k)) = after_goal p 4 k 0 g
goal_step p g None = None

module _ (s : List ℕ) (p : ℕ) where
  term_case : (t g : ℕ) (i : Option TermHead) (j : Option GoalHead) → 0 < t → term_step p t g i ≡ step_by p t g i j
  term_case zero g i j h = absurd (omega arith)
  term_case (suc t) g (Some (Variable v)) j h = refl
  term_case (suc t) g (Some (Symbol f k)) j h = refl
  term_case (suc t) g None j h = refl

  goal_case : (g : ℕ) (i : Option TermHead) (j : Option GoalHead) → 0 < g → goal_step p g j ≡ step_by p 0 g i j
  goal_case zero i j h = absurd (omega arith)
  goal_case (suc g) i (Some Truth) h = refl
  goal_case (suc g) i (Some Failure) h = refl
  goal_case (suc g) i (Some Equal) h = refl
  goal_case (suc g) i (Some Conj) h = refl
  goal_case (suc g) i (Some Disj) h = refl
  goal_case (suc g) i (Some (Atom f k)) h = refl
  goal_case (suc g) i None h = refl

  pub term_arm : {h : Option TermHead} (t g : ℕ) → 0 < t → h ≡ term_head_at s p → (i : Option TermHead) → h ≡ i → term_step p t g i ≡ next_step s p t g
  unfolding next_step
  term_arm t g z is i e = ap (term_step p t g) (sym e ∙ is) ∙ term_case t g (term_head_at s p) (goal_head_at s p) z

  pub goal_arm : {h : Option GoalHead} (g : ℕ) → 0 < g → h ≡ goal_head_at s p → (i : Option GoalHead) → h ≡ i → goal_step p g i ≡ next_step s p 0 g
  unfolding next_step
  goal_arm g z is i e = ap (goal_step p g) (sym e ∙ is) ∙ goal_case g (term_head_at s p) (goal_head_at s p) z

  pub done_arm : (t g : ℕ) → t ≡ 0 → g ≡ 0 → None ≡ next_step s p t g
  unfolding next_step
  done_arm t g e d = rw (e, d) refl

  -- no terms are to come
  pub goals_only : (t g : ℕ) → t ≡ 0 → On (traverse s p t g) → On (traverse s p 0 g)
  goals_only t g e h = rw e at h

  pub goals_step : {r : Option NodeStep} (t g : ℕ) → t ≡ 0 → r ≡ next_step s p 0 g → r ≡ next_step s p t g
  goals_step t g e q = rw e q
