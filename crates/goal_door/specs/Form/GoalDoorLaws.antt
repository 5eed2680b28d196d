-- Laws of the way back: which event is a door, what the way does at an event, and that it goes along every run back to calls with as many ancestors.
use Rattle.std.specs.Prelude.{◌≡◌, Bool, length}
use Rattle.std.proofs.Math.Path.{refl}
use Rattle.std.proofs.Common.{sym, ◌∙◌, ap, eq-eqb}
use Rattle.std.proofs.Math.Bool.{true, false}
use mathlib.Core.List.{List}
use Rattle.std.proofs.Math.Logic.{ite}
use Rattle.std.proofs.Math.Option.{none, some}
use Prim.Native.Nat.{ℕ, zero, suc, ◌-◌}
use native.Mathlib.Omega.{arith}
use Rattle.records.specs.Format.Never.{never}
use Rattle.records.specs.Format.Syntax.{Bet, Event, event, event?}
use Rattle.records.specs.Gate.Question.{Question, allowed}
use Rattle.records.specs.Gate.Reply.{through}
use Rattle.terms.specs.Values.ValueService.{bets_of}
use Rattle.stepper.specs.Rules.Machine.{Machine, refused, gives}
use Rattle.stepper.specs.Rules.Rules.{step, step_back}
use Rattle.stepper.specs.Walks.Crossing.{ancestors_of}
use Rattle.stepper.specs.Walks.Walk.{back}
use Rattle.stepper.specs.Run.Run.{mark, meets, Order, is_full, less_room, spent, met, by, RunEnd, ended, past, run}
use Rattle.stepper.specs.Run.RunLaws.{then, then_ended, past_then, Course, no_count, no_room, no_step, last_step, one_step, course}
use Rattle.goal_door.specs.Form.GoalDoor.{call_of, is_door, from_here, way_back}
use Rattle.goal_door.specs.Form.NextCall.{call_aim, to_next_call}

module _ (e : Event) where
  -- a door is a call of the same goal with the same ancestors,
  pub door_is : (d : Event) → is_door e d ≡ true → d ≡ call_of e (bets_of d)
  unfolding is_door
  door_is d = go (event? d (call_of e (bets_of d)))
    where
      go : (x : Dec (d ≡ call_of e (bets_of d))) → ite x true false ≡ true → d ≡ call_of e (bets_of d)
      go (yes p) h = p
      go (no n) h = never (sym h)

  -- and each such call is one
  pub is_a_door : (s : List Bet) → is_door e (call_of e s) ≡ true
  unfolding is_door
  is_a_door s = go (event? (call_of e s) (call_of e (bets_of (call_of e s)))) (same e)
    where
      same : (e : Event) → call_of e s ≡ call_of e (bets_of (call_of e s))
      same (event p g u t) = refl

      go : (x : Dec (call_of e s ≡ call_of e (bets_of (call_of e s)))) → call_of e s ≡ call_of e (bets_of (call_of e s)) → ite x true false ≡ true
      go (yes p) h = refl
      go (no n) h = absurd (n h)

  -- an event that is not aimed at is none
  pub unmet_door : (d : Event) → meets (some (call_aim (length (ancestors_of e)))) (mark d) ≡ false → is_door e d ≡ false
  unfolding meets mark
  unmet_door d h = go (is_door e d) refl
    where
      aimed : (e : Event) (s : List Bet) → meets (some (call_aim (length (ancestors_of e)))) (mark (call_of e s)) ≡ true
      aimed (event p g u t) s = rw (eq-eqb (length u) (length u) refl)

      go : (b : Bool) → is_door e d ≡ b → is_door e d ≡ false
      go false k = k
      go true k = never (sym (aimed e (bets_of d)) ∙ ap (λ d. meets (some (call_aim (length (ancestors_of e)))) (mark d)) (sym (door_is d k)) ∙ h)

module _ (M : Machine) (e : Event) (d : Event) where
  -- At a door the way ends;
  pub way_ends : (n : ℕ) → is_door e d ≡ true → way_back M e n d ≡ ended d met
  unfolding way_back from_here
  way_ends zero h = rw h
  way_ends (suc n) h = rw h

  module _ (h : is_door e d ≡ false) where
    -- else the next step back may be refused,
    pub way_refused : (n : ℕ) (q : Question) → step_back M d ≡ refused q → way_back M e n d ≡ ended d (by q)
    unfolding way_back from_here through
    way_refused zero q k = rw (h, k)
    way_refused (suc n) q k = rw (h, k)

    -- or the limit is spent,
    pub way_spent : (c : Event) → step_back M d ≡ gives c → way_back M e zero d ≡ ended d (by allowed)
    unfolding way_back from_here through
    way_spent c k = rw (h, k)

    -- or the step is made.
    pub way_on : (n : ℕ) (c : Event) → step_back M d ≡ gives c → way_back M e (suc n) d ≡ past (mark c) (way_back M e n c)
    unfolding way_back from_here through
    way_on n c k = rw (h, k)

module _ (M : Machine) (e : Event) where
  abbrev n_ancestors : ℕ
  n_ancestors = length (ancestors_of e)

  -- The way goes along a run back that aims at calls with as many ancestors,
  follows : {o : Order} {n : ℕ} {d : Event} {r : RunEnd} → Course M o n d r → o.direction ≡ back → o.aim ≡ some (call_aim n_ancestors) → o.room ≡ none → is_door e d ≡ false
      → way_back M e n d ≡ then r (way_back M e (n - r.taken) r.event)
  unfolding step is_full less_room past
  follows (no_count {e = d}) i a z h = then_ended d spent (way_back M e 0 d)
  follows (no_room f) i a z h = never (sym (rw z at f))
  follows (no_step {n = n} {e = d} q f k) i a z h = let less : suc n - 0 ≡ suc n = omega arith in rw less (then_ended d (by q) (way_back M e (suc n) d))
  follows (last_step {n = n} {e = d} c f k m) i a z h =
      let less : suc n - 1 ≡ n = omega arith in
      way_on M e d h n c (rw i at k) ∙ rw less (ap (past (mark c)) (then_ended c met (way_back M e n c)) ∙ past_then (mark c) (ended c met) (way_back M e n c))
  follows (one_step {n = n} {e = d} {r = r} c f k m y) i a z h =
      let less : suc n - suc r.taken ≡ n - r.taken = omega arith in
      way_on M e d h n c (rw i at k)
      ∙ rw less (ap (past (mark c)) (follows y i a (rw z refl) (unmet_door e c (rw a at m))) ∙ past_then (mark c) r (way_back M e (n - r.taken) r.event))

  -- and where that comes to no such call, it stands at no door.
  passes : {o : Order} {n : ℕ} {d : Event} {r : RunEnd} → Course M o n d r → o.aim ≡ some (call_aim n_ancestors) → is_door e d ≡ false → (r.why ≡ met → ⊥) → is_door e r.event ≡ false
  unfolding past
  passes no_count a h x = h
  passes (no_room f) a h x = h
  passes (no_step q f k) a h x = h
  passes (last_step c f k m) a h x = absurd (x refl)
  passes (one_step c f k m y) a h x = passes y a (unmet_door e c (rw a at m)) x

  module _ (n : ℕ) (d : Event) (h : is_door e d ≡ false) where
    abbrev pub to_call : RunEnd
    to_call = run M (to_next_call n_ancestors) n d

    pub way_follows : way_back M e n d ≡ then to_call (way_back M e (n - to_call.taken) to_call.event)
    way_follows = follows (course M (to_next_call n_ancestors) n d) refl refl refl h

    pub run_passes : (to_call.why ≡ met → ⊥) → is_door e to_call.event ≡ false
    run_passes = passes (course M (to_next_call n_ancestors) n d) refl h
