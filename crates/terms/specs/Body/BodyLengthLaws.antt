-- A numbered body as it is measured: what of it is behind the cursor, and what the traversal over the definition's goal has ahead.
use Rattle.std.specs.Prelude.{◌≡◌, List, [], ◌++◌, ℕ, ◌+◌, ◌-◌, ◌≤◌, ◌<◌, min, length, Option, Some, None}
use Rattle.std.proofs.Common.{sym, ◌∙◌, arith, length-append}
use Rattle.std.proofs.Math.Path.{ap}
use Rattle.records.specs.Format.Syntax.{Terms}
use Rattle.records.specs.Format.Encode.{term_bytes, goal_bytes}
use Rattle.records.specs.Format.HeadLaws.{Known}
use Rattle.records.specs.Ends.Range.{size, cut, Inside}
use Rattle.records.specs.Ends.RangeLaws.{length_cut}
use Rattle.records.specs.Ends.Traversal.{traverse}
use Rattle.records.specs.Ends.Steps.{end_place, next_step}
use Rattle.records.specs.Ends.StandsLaws.{traverse_goal}
use Rattle.records.specs.declared.traverse.Cursor.{Cursor}
use Rattle.records.specs.declared.traverse.NodeStep.{NodeStep}
use Rattle.records.specs.declared.traverse.NodeStep.TheVariants.{Variable, Other}
use Rattle.terms.specs.Theory.Substitution.{Substitution}
use Rattle.terms.specs.Body.Body.{numbered}
use Rattle.terms.specs.Standing.Frames.{GoalAt}
use Rattle.terms.specs.Values.Ahead.{Ahead}
use Rattle.terms.specs.Values.AheadLaws.{ahead_start, ahead_variable, ahead_other, ahead_done, ahead_room, ahead_less_other}
use Rattle.terms.specs.Values.NodeBytes.{traversal_bytes}
use Rattle.terms.specs.Values.NodeBytesLaws.{substituted_goal_bytes}
use Rattle.terms.specs.Body.TopLaws.{goal_on}
use Rattle.terms.specs.Body.BodyBytes.{numbered_goal}

-- a count on its way: so many bytes of the whole are behind the cursor, counted up to one more than the room
pub record Counting (θ : Substitution) (s whole : List ℕ) (room : ℕ) (c : Cursor) (n : ℕ) : Type 0 where
  pub done : List ℕ
  pub long : n ≡ min (room + 1) (length done)
  pub end : ℕ
  pub ahead : Ahead θ s whole done c end

-- a definition's goal, numbered, is the traversal over it
module _ {s : List ℕ} {goal : ℕ} (g : GoalAt s goal) (ts : Terms) (m : ℕ) where
  pub numbered_bytes : traversal_bytes (numbered ts m) (traverse s goal 0 1) ≡ goal_bytes (numbered_goal ts m g.item)
  unfolding numbered_goal
  numbered_bytes = ap (traversal_bytes (numbered ts m)) (traverse_goal g.item g.formed g.stands) ∙ substituted_goal_bytes (numbered ts m) g.item

  pub counting_start : {room : ℕ} → Counting (numbered ts m) s (goal_bytes (numbered_goal ts m g.item)) room (record { pos = goal; terms = 0; goals = 1 }) 0
  counting_start = record { done = []; long = omega arith; end = end_place (traverse s goal 0 1); ahead = rw (← numbered_bytes) (ahead_start (numbered ts m) s (record { pos = goal; terms = 0; goals = 1 }) (goal_on g)) }

-- a node that is no variable stands from the cursor to the next one
module _ {θ : Substitution} {s whole done : List ℕ} {c : Cursor} {end : ℕ} (a : Ahead θ s whole done c end) (known : Known s) {r : Option NodeStep} (is : r ≡ next_step s c.pos c.terms c.goals) {d : Cursor} (e : r ≡ (Some (Other d))) where
  pub node_inside : Inside (record { from = c.pos; to = d.pos }) s
  node_inside = let y = ahead_less_other a known is e in record { order = omega arith; stop = y.1 }

  node_length : length (cut s (record { from = c.pos; to = d.pos })) ≡ d.pos - c.pos
  unfolding size
  node_length = length_cut node_inside

module _ {θ : Substitution} {s whole : List ℕ} {room : ℕ} {c : Cursor} {n : ℕ} (u : Counting θ s whole room c n) where
  counting_more : {d : Cursor} {k to : ℕ} (x : List ℕ) → k ≡ length x → n ≤ room → to ≡ min (room + 1) (n + k) → Ahead θ s whole (u.done ++ x) d u.end
      → Counting θ s whole room d to
  counting_more x e h q a = record { done = u.done ++ x; long = omega (arith, length-append u.done x, u.long); end = u.end; ahead = a }

  -- what is counted is more than the room
  pub counting_full : room < n → n ≡ min (room + 1) (length whole)
  counting_full h = omega (arith, u.long, ahead_room u.ahead)

  module _ (known : Known s) {r : Option NodeStep} (is : r ≡ next_step s c.pos c.terms c.goals) (h : n ≤ room) where
    pub counting_variable : {v : ℕ} {d : Cursor} → r ≡ (Some (Variable v d)) → {k to : ℕ} → k ≡ length (term_bytes (θ v)) → to ≡ min (room + 1) (n + k)
        → Counting θ s whole room d to
    counting_variable {v} e p q = counting_more (term_bytes (θ v)) p h q (ahead_variable u.ahead known is e)

    pub counting_other : {d : Cursor} → r ≡ (Some (Other d)) → {to : ℕ} → to ≡ min (room + 1) (n + (d.pos - c.pos)) → Counting θ s whole room d to
    counting_other {d} e q =
        counting_more (cut s (record { from = c.pos; to = d.pos })) (sym (node_length u.ahead known is e)) h q (ahead_other u.ahead known is e)

    pub counting_done : r ≡ None → n ≡ min (room + 1) (length whole)
    counting_done e = u.long ∙ ap (λ (x : List ℕ). min (room + 1) (length x)) (sym (ahead_done u.ahead known is e).0)
