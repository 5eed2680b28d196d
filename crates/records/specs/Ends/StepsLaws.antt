-- Laws of a traversal step by step: where a step leads, what it leaves of the traversal, and how a fold over the variables goes on.
use Rattle.std.specs.Prelude.{ℕ, zero, suc, ◌+◌, ◌-◌, ◌*◌, ◌≤◌, ◌<◌, max, ◌≡◌, List, [], ◌∷◌, Option, Some, None}
use Rattle.std.proofs.Common.{arith, sym, ap, ◌∙◌}
use Rattle.std.proofs.Math.Path.{refl}
use Rattle.std.proofs.Math.ListN.{length}
use Rattle.records.specs.Format.Heads.{term_head_at, goal_head_at}
use Rattle.records.specs.Format.HeadLaws.{Known}
use Rattle.records.specs.Ends.HeadRoom.{TermRoom, GoalRoom}
use Rattle.records.specs.Ends.HeadRoomLaws.{term_room, goal_room}
use Rattle.records.specs.Ends.Traversal.{Node, Traversal, traverse, before, traversal_end, end_at}
use Rattle.records.specs.Ends.Traversal.Node.{variable, other}
use Rattle.records.specs.Ends.Traversal.Traversal.{off, on}
use Rattle.records.specs.Ends.TraversalLaws.{step, traverse_step}
use Rattle.records.specs.Ends.EndLaws.{end_bound}
use Rattle.records.specs.Ends.Above.{above}
use Rattle.records.specs.Ends.Steps.{On, met, end_place, step_by, next_step, traverse_from, Goes, To, along, Underway, raised}
use Rattle.records.specs.declared.heads.TermHead.{TermHead}
use Rattle.records.specs.declared.heads.TermHead.TheVariants.{Variable, Symbol}
use Rattle.records.specs.declared.heads.GoalHead.{GoalHead}
use Rattle.records.specs.declared.heads.GoalHead.TheVariants.{Truth, Failure, Equal, Conj, Disj, Atom}
use Rattle.records.specs.declared.traverse.Cursor.{Cursor}
use Rattle.records.specs.declared.traverse.NodeStep.{NodeStep}
use Rattle.records.specs.declared.traverse.NodeStep.TheVariants.{Variable as Met, Other}

moved : (s x : List ℕ) (q t g t' g' : ℕ) → t ≡ t' → g ≡ g' → (y : List ℕ) × (before (other x) (traverse s q t g) ≡ before (other y) (traverse s q t' g'))
moved s x q t g t' g' e d = (x, rw (e, d))

module _ (s : List ℕ) (known : Known s) (p : ℕ) where
  -- where a traversal goes through, so does the rest, and each term and goal to come takes a byte
  pub on_bound : (t g : ℕ) → On (traverse s p t g) → (p + (3 * t + g) ≤ end_place (traverse s p t g)) × (end_place (traverse s p t g) ≤ length s + (p - length s))
  unfolding end_at
  on_bound t g h = go (traverse s p t g) refl h
    where
      go : (w : Traversal) → traverse s p t g ≡ w → On w → (p + (3 * t + g) ≤ end_place w) × (end_place w ≤ length s + (p - length s))
      go off e z = absurd z
      go (on l e) q z = end_bound s p known t g e (ap traversal_end q)

  goes_by : (t g : ℕ) (h : Option TermHead) (i : Option GoalHead) → TermRoom s p h → GoalRoom s p i → On (step s p t g h i) → Goes s p (step s p t g h i) (step_by p t g h i)
  goes_by zero zero h i x y z = refl
  goes_by (suc t) g (Some (Variable v)) i x y z = (ap (λ (n : ℕ). before (variable v) (traverse s (p + 3) n g)) (omega arith), omega arith, x.1)
  goes_by (suc t) g (Some (Symbol f k)) i x y z = (moved s _ (p + 4) (k + t) g (k + (suc t - 1)) g (omega arith) refl, omega arith)
  goes_by (suc t) g None i x y z = absurd z
  goes_by zero (suc g) h (Some Truth) x y z = (moved s _ (p + 1) zero g zero (0 + (suc g - 1)) refl (omega arith), omega arith)
  goes_by zero (suc g) h (Some Failure) x y z = (moved s _ (p + 1) zero g zero (0 + (suc g - 1)) refl (omega arith), omega arith)
  goes_by zero (suc g) h (Some Equal) x y z = (moved s _ (p + 1) 2 g 2 (0 + (suc g - 1)) refl (omega arith), omega arith)
  goes_by zero (suc g) h (Some Conj) x y z = (moved s _ (p + 1) zero (suc (suc g)) zero (2 + (suc g - 1)) refl (omega arith), omega arith)
  goes_by zero (suc g) h (Some Disj) x y z = (moved s _ (p + 1) zero (suc (suc g)) zero (2 + (suc g - 1)) refl (omega arith), omega arith)
  goes_by zero (suc g) h (Some (Atom f k)) x y z = (moved s _ (p + 4) k g k (0 + (suc g - 1)) refl (omega arith), omega arith)
  goes_by zero (suc g) h None x y z = absurd z

  -- for code that has the step r from a call
  pub goes : (t g : ℕ) → On (traverse s p t g) → {r : Option NodeStep} → r ≡ next_step s p t g → (i : Option NodeStep) → r ≡ i → Goes s p (traverse s p t g) i
  unfolding next_step
  goes t g z is i e =
      let q = traverse_step s p t g in
      let y = goes_by t g (term_head_at s p) (goal_head_at s p) (term_room s p known refl _ refl) (goal_room s p known refl _ refl) (rw q at z) in
      rw (q, ← (sym is ∙ e)) y

-- a node before a traversal that goes through
pub on_before : (x : Node) (w : Traversal) → On (before x w) → On w
on_before x off h = h
on_before x (on l e) h = tt

pub met_variable : (v : ℕ) (w : Traversal) → On w → met (before (variable v) w) ≡ v ∷ met w
met_variable v off h = absurd h
met_variable v (on l e) h = refl

pub met_other : (x : List ℕ) (w : Traversal) → met (before (other x) w) ≡ met w
met_other x off = refl
met_other x (on l e) = refl

pub end_place_before : (x : Node) (w : Traversal) → end_place (before x w) ≡ end_place w
end_place_before x off = refl
end_place_before x (on l e) = refl

-- what a step does to the traversal from c on
module _ (s : List ℕ) (known : Known s) (c : Cursor) (h : On (traverse_from s c)) {r : Option NodeStep} (is : r ≡ next_step s c.pos c.terms c.goals) where
  reaches : (x : Node) (d : Cursor) → traverse_from s c ≡ before x (traverse_from s d) → c.pos < d.pos → To s known c h is d
  reaches x d e z =
      let y : On (traverse_from s d) = on_before x (traverse_from s d) (rw e at h) in
      let q : end_place (traverse_from s c) ≡ end_place (traverse_from s d) = ap end_place e ∙ end_place_before x (traverse_from s d) in
      let b = on_bound s known d.pos d.terms d.goals y in
      let b' = on_bound s known c.pos c.terms c.goals h in
      record { through = y; end = q; forth = z; within = omega arith }

  pub to_variable : {v : ℕ} {d : Cursor} → r ≡ (Some (Met v d)) → To s known c h is d × (met (traverse_from s c) ≡ v ∷ met (traverse_from s d)) × (v < 65536)
  to_variable {v} {d} e =
      let y = goes s known c.pos c.terms c.goals h is (Some (Met v d)) e in
      let t = reaches (variable v) d y.0 y.1 in
      (t, ap met y.0 ∙ met_variable v (traverse_from s d) t.through, y.2)

  pub to_other : {d : Cursor} → r ≡ (Some (Other d)) → To s known c h is d × (met (traverse_from s c) ≡ met (traverse_from s d))
  to_other {d} e =
      let y = goes s known c.pos c.terms c.goals h is (Some (Other d)) e in
      (reaches (other y.0.0) d y.0.1 y.1, ap met y.0.1 ∙ met_other y.0.0 (traverse_from s d))

  pub to_end : r ≡ None → (met (traverse_from s c) ≡ []) × (end_place (traverse_from s c) ≡ c.pos)
  to_end e = let y = goes s known c.pos c.terms c.goals h is None e in (ap met y, ap end_place y)

pub underway_start : {A : Type 0} (f : A → ℕ → A) (s : List ℕ) (c : Cursor) (a : A) → On (traverse_from s c) → Underway f s (traverse_from s c) a c a
underway_start f s c a h = record { through = h; same_end = refl; same_value = refl }

module _ {A : Type 0} {f : A → ℕ → A} (s : List ℕ) (known : Known s) {w : Traversal} {a₀ : A} {c : Cursor} {a : A} (u : Underway f s w a₀ c a) {r : Option NodeStep} (is : r ≡ next_step s c.pos c.terms c.goals) where
  pub underway_variable : {v : ℕ} {d : Cursor} → r ≡ (Some (Met v d)) → Underway f s w a₀ d (f a v)
  underway_variable e =
      let y = to_variable s known c u.through is e in
      record { through = y.0.through; same_end = u.same_end ∙ y.0.end; same_value = u.same_value ∙ ap (along f a) y.1 }

  pub underway_other : {d : Cursor} → r ≡ (Some (Other d)) → Underway f s w a₀ d a
  underway_other e =
      let y = to_other s known c u.through is e in
      record { through = y.0.through; same_end = u.same_end ∙ y.0.end; same_value = u.same_value ∙ ap (along f a) y.1 }

  pub underway_done : r ≡ None → (along f a₀ (met w) ≡ a) × (end_place w ≡ c.pos)
  underway_done e =
      let y = to_end s known c u.through is e in
      (u.same_value ∙ ap (along f a) y.0, u.same_end ∙ y.1)

-- the least number above all of a list, gathered along it
along_raised : (m : ℕ) (l : List ℕ) → along raised m l ≡ max m (above l)
along_raised m [] = omega arith
along_raised m (v ∷ l) = omega (arith, along_raised (max m (v + 1)) l)

pub above_met : (l : List ℕ) → along raised 0 l ≡ above l
above_met l = omega (arith, along_raised 0 l)
