-- A way never ends with 6: where steps back from an event lead to a call with both stacks empty, that is the first event of its goal as a query, so the event
-- is reached from it, and a reached event has its door at its query's first event or after it. Nor is a step back refused by 32.
use Rattle.std.specs.Prelude.{◌≡◌, Bool, true, false, [], ◌∷◌, ℕ, ◌≤◌, ltb, length}
use Rattle.std.proofs.Math.Path.{refl, subst}
use Rattle.std.proofs.Common.{sym, ◌∙◌, inl, inr, zero-add, arith}
use Rattle.std.proofs.Math.Option.{some}
use Rattle.std.proofs.Math.Decide.{dec_le}
use Rattle.records.specs.Format.Encode.{event_record}
use Rattle.records.specs.Format.Never.{never}
use Rattle.records.specs.Format.Syntax.{Goal, call, exit, fail, redo, Event, event}
use Rattle.records.specs.Gate.Question.{Question, possible, fits, allowed}
use Rattle.stepper.specs.Rules.BackRefusalLaws.{back_refused_iff}
use Rattle.stepper.specs.Rules.Machine.{Machine, Admits, LimitLaws, refused}
use Rattle.stepper.specs.Rules.Refusals.{AtStart, BackRefusal, walk_begins, no_right_side, exit_value_too_large, fail_value_too_large, body_local_too_large, fail_local_too_large, candidate_refused, leads_elsewhere}
use Rattle.stepper.specs.Rules.Rules.{first_event, step_back}
use Rattle.stepper.specs.Run.Run.{plain, by, RunEnd}
use Rattle.stepper.specs.Run.RunLaws.{run_reached}
use Rattle.stepper.specs.Services.Services.{too_long, record_limit}
use Rattle.stepper.specs.Walks.Reached.{Reached}
use Rattle.stepper.specs.Walks.Walk.{forward, Reach}
use Rattle.goal_door.specs.Form.ReachedLaws.{DoorBehind, reached_door}
use Rattle.goal_door.specs.Form.GoalDoor.{to_door}
use Rattle.goal_door.specs.Form.NearestLaws.{EndTold, way_told, forward_again}

-- the limit on a candidate is question 10
abbrev pub LimitIsTen : Machine → Type 0
LimitIsTen M = (c : Event) (q : Question) → M.candidate_limit c ≡ some q → q ≡ fits

-- as that of the desk is
pub record_is_ten : (c : Event) (q : Question) → record_limit c ≡ some q → q ≡ fits
unfolding record_limit
record_is_ten c q h = go (ltb 32768 (length (event_record c))) h
  where
    go : (b : Bool) → too_long b ≡ some q → q ≡ fits
    go true k = cc
    go false k = never cc

-- a step back is not refused by 32
pub not_allowed : (M : Machine) → LimitIsTen M → (d : Event) → step_back M d ≡ refused allowed → ⊥
not_allowed M ten d h = go d allowed refl ((back_refused_iff M d allowed).0 h)
  where
    go : (d : Event) (q : Question) → q ≡ allowed → BackRefusal M d q → ⊥
    go d q e (walk_begins s) = never cc
    go d q e (no_right_side s n) = never cc
    go d q e (exit_value_too_large k) = never cc
    go d q e (fail_value_too_large k) = never cc
    go d q e (body_local_too_large k) = never cc
    go d q e (fail_local_too_large k) = never cc
    go d q e (candidate_refused {c = c} k u l) = let t = ten c q l in never cc
    go d q e (leads_elsewhere k l n) = never cc

-- a step back that is refused by 6 is one from a query's first event
six_first : (M : Machine) → LimitIsTen M → (d : Event) → step_back M d ≡ refused possible → (g : Goal) × (first_event g ≡ d)
unfolding first_event
six_first M ten d h = go d possible refl ((back_refused_iff M d possible).0 h)
  where
    first : (d : Event) → AtStart d → (g : Goal) × (first_event g ≡ d)
    first (event call g [] []) s = (g, refl)
    first (event call g [] (_ ∷ _)) s = elim s [ ]
    first (event call g (_ ∷ _) _) s = elim s [ ]
    first (event exit g _ _) s = elim s [ ]
    first (event fail g _ _) s = elim s [ ]
    first (event redo g _ _) s = elim s [ ]

    go : (d : Event) (q : Question) → q ≡ possible → BackRefusal M d q → (g : Goal) × (first_event g ≡ d)
    go d q e (walk_begins s) = first d s
    go d q e (no_right_side s n) = never cc
    go d q e (exit_value_too_large k) = never cc
    go d q e (fail_value_too_large k) = never cc
    go d q e (body_local_too_large k) = never cc
    go d q e (fail_local_too_large k) = never cc
    go d q e (candidate_refused {c = c} k u l) = let t = ten c q l in never cc
    go d q e (leads_elsewhere k l n) = never cc

module _ (M : Machine) (limits : LimitLaws M) (ten : LimitIsTen M) (e : Event) (n : ℕ) where
  abbrev way : RunEnd
  way = to_door M n e

  -- from a query's first event
  from_first : (g : Goal) → first_event g ≡ way.event → Reached M g way.taken e
  unfolding Reach
  from_first g f =
      let (x, y, z) = forward_again M e n in
      subst (λ k. Reached M g k e) (zero-add way.taken)
      (rw (x, y) at (run_reached M g (plain forward) refl way.taken 0 way.event f))

  pub never_six : Admits M way.event → way.why ≡ by possible → ⊥
  never_six admits w = told (subst (EndTold M e n way) w (way_told M e n e).end)
    where
      behind : (g : Goal) → DoorBehind M g e way.taken e → ⊥
      behind g b = go (dec_le b.steps n)
        where
          go : Dec (b.steps ≤ n) → ⊥
          go (yes l) = let x = sym w ∙ (b.enough n l).2 in never cc
          go (no l) = let x = sym w ∙ (b.fewer n (omega (arith, l))).1 in never cc

      told : EndTold M e n way (by possible) → ⊥
      told (f, inl k) = let (g, z) = six_first M ten way.event k in behind g (reached_door M limits g (subst (Admits M) (sym z) admits) way.taken e (from_first g z))
      told (f, inr (x, y, z)) = never cc
