-- From a reached event there is a door, some number of steps back: a limit of so many steps or more leads to it, and a lower one is spent on the way.
use Rattle.std.specs.Prelude.{◌≡◌, Bool, List, ◌⊎◌}
use Rattle.std.proofs.Math.Path.{refl, ap}
use Rattle.std.proofs.Common.{sym, ◌∙◌, subst, inl, inr}
use Rattle.std.proofs.Math.Bool.{true, false}
use Rattle.std.proofs.Math.Decide.{ℕ_discrete}
use native.Mathlib.Omega.{arith}
use Prim.Native.Nat.{ℕ, zero, suc, ◌+◌, ◌<◌, ◌≤◌}
use Rattle.records.specs.Format.Never.{never}
use Rattle.records.specs.Format.Syntax.{Goal, Bet, call, Event, event}
use Rattle.records.specs.Gate.Question.{allowed}
use Rattle.stepper.specs.Rules.AnswerLaws.{accepted_gives}
use Rattle.stepper.specs.Rules.Machine.{Machine, LimitLaws, gives}
use Rattle.stepper.specs.Rules.Rules.{step, step_back}
use Rattle.stepper.specs.Run.Run.{met, by, past}
use Rattle.stepper.specs.Walks.Reached.{Fit, Reached}
use Rattle.stepper.specs.Walks.ReachedLaws.{one_event, has_call}
use Rattle.stepper.specs.Walks.TreeDemands.{reached_back}
use Rattle.stepper.specs.Walks.Walk.{Reach}
use Rattle.goal_door.specs.Form.GoalDoor.{call_of, is_door, way_back}
use Rattle.goal_door.specs.Form.GoalDoorLaws.{is_a_door, way_ends, way_spent, way_on}

module _ (M : Machine) (q : Goal) (e : Event) where
  -- The door is so many steps back from the event d, which is the i-th of the walk from q.
  pub record DoorBehind (i : ℕ) (d : Event) : Type 0 where
    pub place : ℕ
    pub steps : ℕ
    pub there : place + steps ≡ i
    pub event : Event
    pub reached : Reached M q place event
    pub door : is_door e event ≡ true
    pub enough : (n : ℕ) → steps ≤ n → ((way_back M e n d).event ≡ event) × ((way_back M e n d).taken ≡ steps) × ((way_back M e n d).why ≡ met)
    pub fewer : (n : ℕ) → n < steps → ((way_back M e n d).taken ≡ n) × ((way_back M e n d).why ≡ by allowed)

  -- an event that is the door
  at_once : (i : ℕ) (d : Event) → Reached M q i d → is_door e d ≡ true → DoorBehind i d
  at_once i d r h = record {
    place = i;
    steps = 0;
    there = omega arith;
    event = d;
    reached = r;
    door = h;
    enough = λ n l. rw (way_ends M e d n h) (refl, refl, refl);
    fewer = λ n l. absurd (omega arith);
  }

  -- one step more
  one_behind : (i : ℕ) (d c : Event) → is_door e d ≡ false → step_back M d ≡ gives c → DoorBehind i c → DoorBehind (suc i) d
  unfolding past
  one_behind i d c h k b = record {
    place = b.place;
    steps = suc b.steps;
    there = omega (arith, b.there);
    event = b.event;
    reached = b.reached;
    door = b.door;
    enough = enough;
    fewer = fewer;
  }
    where
      enough : (n : ℕ) → suc b.steps ≤ n → ((way_back M e n d).event ≡ b.event) × ((way_back M e n d).taken ≡ suc b.steps) × ((way_back M e n d).why ≡ met)
      enough zero l = absurd (omega arith)
      enough (suc n) l = let t = b.enough n (omega arith) in rw (way_on M e d h n c k) (t.0, ap suc t.1, t.2)

      fewer : (n : ℕ) → n < suc b.steps → ((way_back M e n d).taken ≡ n) × ((way_back M e n d).why ≡ by allowed)
      fewer zero l = rw (way_spent M e d h c k) (refl, refl)
      fewer (suc n) l = let t = b.fewer n (omega arith) in rw (way_on M e d h n c k) (ap suc t.0, t.1)

  module _ (limits : LimitLaws M) (fit : Fit M q) (j : ℕ) (r : List Bet) (start : Reached M q j (call_of e r)) where
    same_door : (d : Event) → Reached M q j d → is_door e d ≡ true
    same_door d h = subst (λ x. is_door e x ≡ true) (one_event M q j (call_of e r) d start h) (is_a_door e r)

    -- behind each event from such a call on there is a door
    door_behind : (i : ℕ) (d : Event) → j ≤ i → Reached M q i d → DoorBehind i d
    unfolding Reach step
    door_behind zero d l h = let x : j ≡ 0 = omega arith in at_once 0 d h (same_door d (subst (λ n. Reached M q n d) (sym x) h))
    door_behind (suc i) d l h = go (λ m. door_behind i h.0 m h.1) (is_door e d) refl (ℕ_discrete j (suc i))
      where
        go : (j ≤ i → DoorBehind i h.0) → (b : Bool) → is_door e d ≡ b → Dec (j ≡ suc i) → DoorBehind (suc i) d
        go f true k x = at_once (suc i) d h k
        go f false k (yes x) = never (sym (same_door d (subst (λ n. Reached M q n d) (sym x) h)) ∙ k)
        go f false k (no x) = one_behind i d h.0 k (reached_back M limits q i h.0 d fit h.1 (accepted_gives _ d h.2)) (f (omega (arith, x)))

-- Every reached event has a door behind it.
pub reached_door : (M : Machine) → LimitLaws M → (q : Goal) → Fit M q → (i : ℕ) (e : Event) → Reached M q i e → DoorBehind M q e i e
reached_door M limits q fit i (event p g u s) h = go (has_call M q i p g u s h)
  where
    go : (p ≡ call) ⊎ ((r : List Bet) × ((j : ℕ) × (j < i) × Reached M q j (event call g u r))) → DoorBehind M q (event p g u s) i (event p g u s)
    go (inl c) = door_behind M q (event p g u s) limits fit i s (subst (λ x. Reached M q i (event x g u s)) c h) i (event p g u s) (omega arith) h
    go (inr (r, (j, l, start))) = door_behind M q (event p g u s) limits fit j r start i (event p g u s) (omega arith) h
