-- The goal's bytes are those of the half that the ancestor on top selects exactly when the goal is that half; where it is another, question 7 refuses the
-- step that leaves the half.
use Rattle.std.specs.Prelude.{◌≡◌, refl, Bool, true, false, ◌↔◌, ℕ}
use Rattle.std.proofs.Common.{sym, ◌∙◌}
use mathlib.Core.List.{List, [], ◌∷◌}
use Rattle.records.specs.Format.Never.{never}
use Rattle.records.specs.Format.Syntax.{Goal, Half, first, second, Ancestor, called, in_conj, in_disj, Bet, Port, call, exit, fail, redo, Event, event, goal?}
use Rattle.records.specs.Format.Encode.{goal_bytes}
use Rattle.records.specs.Format.Formed.{GoalFormed}
use Rattle.records.specs.Format.ItemLaws.{goal_exact}
use Rattle.records.specs.Format.Heads.{pick}
use Rattle.records.specs.Gate.Question.{matches}
use Rattle.records.specs.Ends.Range.{cut}
use Rattle.records.specs.Ends.StandsLaws.{same_tree}
use Rattle.records.specs.Ends.Same.{same_bytes}
use Rattle.records.specs.Ends.SameLaws.{same_true, same_refl}
use Rattle.records.specs.Ends.Places.{EventParts}
use Rattle.records.specs.declared.put.Range.{Range}
use Rattle.stepper.specs.Rules.Machine.{Machine, StepOutcome, refused}
use Rattle.stepper.specs.Rules.Rules.{selected, matching, from_exit, from_fail, rule, into_call, into_redo, candidate}
use Rattle.stepper.specs.Rules.AnswerLaws.{matching_no}
use Rattle.stepper.specs.Rules.FormedLaws.{selected_formed}
use Rattle.stepper.specs.Plans.View.{goal_part, ancestor_part, event_view, PartsOf}
use Rattle.stepper.specs.Plans.Layouts.{whole}
use Rattle.stepper.specs.Plans.Made.{Cuts}
use Rattle.stepper.specs.Plans.MadeLaws.{cuts, half_cut}
use Rattle.stepper.specs.Plans.LayoutLaws.{goal_starts, goal_ends, goal_stops, top_at, under_conj, under_disj}
use Rattle.stepper.specs.Plans.Halves.{HalfInside, is_half, either, HalfWhere, half_refusal, Leaves, LeavesBack, Like}

-- equal bytes are equal goals
same_goal : {s : List ℕ} {x y : Range} (g a : Goal) → GoalFormed g → GoalFormed a → Cuts s x (goal_bytes g) → Cuts s y (goal_bytes a)
    → (same_bytes (cut s x) (cut s y) ≡ true) ↔ (g ≡ a)
same_goal g a f k x y =
    ((λ h. same_tree goal_exact g a f k (sym x.is ∙ same_true _ _ h ∙ y.is)), (λ h. rw (x.is, y.is, h) (same_refl (goal_bytes a))))

goal_cut : {s : List ℕ} {p : Port} {g : Goal} {u : List Ancestor} {b : List Bet} → EventParts s p g u b → Cuts s (whole (goal_part 4 g)).range (goal_bytes g)
goal_cut {g = g} w = rw (goal_starts 4 g, goal_ends 4 g) (cuts w.goal_stands (goal_stops w))

module _ {s : List ℕ} {p : Port} {g : Goal} {u : List Ancestor} {b : List Bet} (h : Half) (c d : Goal) where
  pub half_of_conj : EventParts s p g (in_conj h c d ∷ u) b → (is_half s (event_view (event p g (in_conj h c d ∷ u) b)) ≡ true) ↔ (g ≡ selected h c d)
  unfolding is_half event_view
  half_of_conj w =
      same_goal g (selected h c d) w.formed.0 (selected_formed h c d w.formed.1.1.0) (goal_cut w)
      (half_cut (ancestor_part (top_at g) (in_conj h c d)) h (under_conj h c d w))

  pub half_of_disj : EventParts s p g (in_disj h c d ∷ u) b → (is_half s (event_view (event p g (in_disj h c d ∷ u) b)) ≡ true) ↔ (g ≡ selected h c d)
  unfolding is_half event_view
  half_of_disj w =
      same_goal g (selected h c d) w.formed.0 (selected_formed h c d w.formed.1.1.0) (goal_cut w)
      (half_cut (ancestor_part (top_at g) (in_disj h c d)) h (under_disj h c d w))

  -- the half lies in the event
  conj_inside : EventParts s p g (in_conj h c d ∷ u) b → HalfInside (event_view (event p g (in_conj h c d ∷ u) b)) s
  unfolding event_view
  conj_inside w = record { goal_inside = (goal_cut w).inside; half_inside = (half_cut (ancestor_part (top_at g) (in_conj h c d)) h (under_conj h c d w)).inside }

  disj_inside : EventParts s p g (in_disj h c d ∷ u) b → HalfInside (event_view (event p g (in_disj h c d ∷ u) b)) s
  unfolding event_view
  disj_inside w = record { goal_inside = (goal_cut w).inside; half_inside = (half_cut (ancestor_part (top_at g) (in_disj h c d)) h (under_disj h c d w)).inside }

other_half : {g a : Goal} {x : Bool} (d : Event) → (x ≡ true) ↔ (g ≡ a) → x ≡ false → matching (goal? g a) d ≡ refused matches
other_half {g} {a} d k h = matching_no (goal? g a) d (λ e. never (sym (k.1 e) ∙ h))

module _ (M : Machine) where
  -- the step that leaves a half: forward from exit and fail, back from call and redo
  abbrev pub leaving : Event → StepOutcome
  leaving (event call g u s) = candidate M (event call g u s)
  leaving (event exit g u s) = rule M (event exit g u s)
  leaving (event fail g u s) = rule M (event fail g u s)
  leaving (event redo g u s) = candidate M (event redo g u s)

  pub other_than_conj : {s : List ℕ} (p : Port) {g : Goal} {u : List Ancestor} {b : List Bet} (h : Half) (c d : Goal) → EventParts s p g (in_conj h c d ∷ u) b
      → is_half s (event_view (event p g (in_conj h c d ∷ u) b)) ≡ false → leaving (event p g (in_conj h c d ∷ u) b) ≡ refused matches
  unfolding rule candidate from_exit from_fail into_call into_redo selected
  other_than_conj call first c d w e = other_half _ (half_of_conj first c d w) e
  other_than_conj call second c d w e = other_half _ (half_of_conj second c d w) e
  other_than_conj exit first c d w e = other_half _ (half_of_conj first c d w) e
  other_than_conj exit second c d w e = other_half _ (half_of_conj second c d w) e
  other_than_conj fail first c d w e = other_half _ (half_of_conj first c d w) e
  other_than_conj fail second c d w e = other_half _ (half_of_conj second c d w) e
  other_than_conj redo first c d w e = other_half _ (half_of_conj first c d w) e
  other_than_conj redo second c d w e = other_half _ (half_of_conj second c d w) e

  pub other_than_disj : {s : List ℕ} (p : Port) {g : Goal} {u : List Ancestor} {b : List Bet} (h : Half) (c d : Goal) → EventParts s p g (in_disj h c d ∷ u) b
      → is_half s (event_view (event p g (in_disj h c d ∷ u) b)) ≡ false → leaving (event p g (in_disj h c d ∷ u) b) ≡ refused matches
  unfolding rule candidate from_exit from_fail into_call into_redo selected
  other_than_disj call first c d w e = other_half _ (half_of_disj first c d w) e
  other_than_disj call second c d w e = other_half _ (half_of_disj second c d w) e
  other_than_disj exit first c d w e = other_half _ (half_of_disj first c d w) e
  other_than_disj exit second c d w e = other_half _ (half_of_disj second c d w) e
  other_than_disj fail first c d w e = other_half _ (half_of_disj first c d w) e
  other_than_disj fail second c d w e = other_half _ (half_of_disj second c d w) e
  other_than_disj redo first c d w e = other_half _ (half_of_disj first c d w) e
  other_than_disj redo second c d w e = other_half _ (half_of_disj second c d w) e

pub half_where : {s : List ℕ} (e : Event) → PartsOf s e → HalfWhere (event_view e) s
unfolding event_view either
half_where (event p g [] b) w = record { inside = λ h. never cc }
half_where (event p g (called k ts ∷ u) b) w = record { inside = λ h. never cc }
half_where (event p g (in_conj i c d ∷ u) b) w = record { inside = λ h. conj_inside i c d w }
half_where (event p g (in_disj i c d ∷ u) b) w = record { inside = λ h. disj_inside i c d w }

-- the goal is the half that is left, if one is, or the step is refused
pub data Half? (n : ℕ) (like : Type 0) (refusal : Type 0) : Type 0 where
  right : n ≡ 0 → like → Half? n like refusal
  wrong : n ≡ 7 → refusal → Half? n like refusal

module _ (M : Machine) (s : List ℕ) {n : ℕ} where
  by_half : (e : Event) (leaves : Type 0) (a : StepOutcome) → n ≡ pick (is_half s (event_view e)) 0 7 → (is_half s (event_view e) ≡ false → a ≡ refused matches)
      → Half? n (leaves → Like s e) (a ≡ refused matches)
  by_half e leaves a k f = go (is_half s (event_view e)) refl k
    where
      go : (b : Bool) → is_half s (event_view e) ≡ b → n ≡ pick b 0 7 → Half? n (leaves → Like s e) (a ≡ refused matches)
      go true h i = right i (λ l. h)
      go false h i = wrong i (f h)

  pub forward_half : (e : Event) → PartsOf s e → n ≡ half_refusal s (event_view e) 2 3 → Half? n (Leaves e → Like s e) (rule M e ≡ refused matches)
  unfolding event_view either half_refusal
  forward_half (event call g u b) w k = right k (λ l. absurd l)
  forward_half (event exit g [] b) w k = right k (λ l. absurd l)
  forward_half (event exit g (called p ts ∷ u) b) w k = right k (λ l. absurd l)
  forward_half (event exit g (in_conj i c d ∷ u) b) w k = by_half (event exit g (in_conj i c d ∷ u) b) _ _ k (other_than_conj M exit i c d w)
  forward_half (event exit g (in_disj i c d ∷ u) b) w k = by_half (event exit g (in_disj i c d ∷ u) b) _ _ k (other_than_disj M exit i c d w)
  forward_half (event fail g [] b) w k = right k (λ l. absurd l)
  forward_half (event fail g (called p ts ∷ u) b) w k = right k (λ l. absurd l)
  forward_half (event fail g (in_conj i c d ∷ u) b) w k = by_half (event fail g (in_conj i c d ∷ u) b) _ _ k (other_than_conj M fail i c d w)
  forward_half (event fail g (in_disj i c d ∷ u) b) w k = by_half (event fail g (in_disj i c d ∷ u) b) _ _ k (other_than_disj M fail i c d w)
  forward_half (event redo g u b) w k = right k (λ l. absurd l)

  pub back_half : (e : Event) → PartsOf s e → n ≡ half_refusal s (event_view e) 1 4 → Half? n (LeavesBack e → Like s e) (candidate M e ≡ refused matches)
  unfolding event_view either half_refusal
  back_half (event call g [] b) w k = right k (λ l. absurd l)
  back_half (event call g (called p ts ∷ u) b) w k = right k (λ l. absurd l)
  back_half (event call g (in_conj i c d ∷ u) b) w k = by_half (event call g (in_conj i c d ∷ u) b) _ _ k (other_than_conj M call i c d w)
  back_half (event call g (in_disj i c d ∷ u) b) w k = by_half (event call g (in_disj i c d ∷ u) b) _ _ k (other_than_disj M call i c d w)
  back_half (event exit g u b) w k = right k (λ l. absurd l)
  back_half (event fail g u b) w k = right k (λ l. absurd l)
  back_half (event redo g [] b) w k = right k (λ l. absurd l)
  back_half (event redo g (called p ts ∷ u) b) w k = right k (λ l. absurd l)
  back_half (event redo g (in_conj i c d ∷ u) b) w k = by_half (event redo g (in_conj i c d ∷ u) b) _ _ k (other_than_conj M redo i c d w)
  back_half (event redo g (in_disj i c d ∷ u) b) w k = by_half (event redo g (in_disj i c d ∷ u) b) _ _ k (other_than_disj M redo i c d w)
