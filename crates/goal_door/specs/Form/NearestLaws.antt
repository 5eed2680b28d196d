-- What is so of the way's end, from any event: as many steps back lead there, no more than the limit, and as many forward lead back again; none of the
-- events passed on the way is a door; and the last one is a door, or a question refuses the next step back, or the limit is spent.
use Rattle.std.specs.Prelude.{◌≡◌, Bool, true, ◌⊎◌}
use Rattle.std.proofs.Math.Path.{refl, ap}
use Rattle.std.proofs.Common.{◌∙◌, arith}
use Rattle.std.proofs.Math.Bool.{false}
use Rattle.std.proofs.Math.Logic.{inl, inr}
use Prim.Native.Nat.{ℕ, zero, suc, ◌<◌, ◌≤◌}
use Rattle.records.specs.Format.Syntax.{Event}
use Rattle.records.specs.Gate.Question.{Question, allowed}
use Rattle.stepper.specs.Rules.Machine.{Machine, StepOutcome, refused, gives}
use Rattle.stepper.specs.Rules.Rules.{step, step_back}
use Rattle.stepper.specs.Walks.Walk.{forward, back}
use Rattle.stepper.specs.Run.Run.{mark, plain, Stop, spent, met, full, by, RunEnd, past, run}
use Rattle.stepper.specs.Run.RunLaws.{run_none, run_first, run_undone}
use Rattle.goal_door.specs.Form.GoalDoor.{is_door, way_back, to_door}
use Rattle.goal_door.specs.Form.GoalDoorLaws.{way_ends, way_refused, way_spent, way_on}

module _ (M : Machine) (e : Event) where
  -- why it ends
  abbrev pub EndTold : ℕ → RunEnd → Stop → Type 0
  EndTold n r spent = ⊥
  EndTold n r met = is_door e r.event ≡ true
  EndTold n r full = ⊥
  EndTold n r (by q) =
      (is_door e r.event ≡ false)
      × ((step_back M r.event ≡ refused q) ⊎ ((q ≡ allowed) × (r.taken ≡ n) × ((c : Event) × (step_back M r.event ≡ gives c))))

  pub record WayTold (n : ℕ) (d : Event) (r : RunEnd) : Type 0 where
    pub within : r.taken ≤ n
    pub steps : run M (plain back) r.taken d ≡ record { event = r.event; taken = r.taken; why = spent; log = r.log }
    pub nearest : (j : ℕ) → j < r.taken → is_door e (run M (plain back) j d).event ≡ false
    pub end : EndTold n r r.why

  one_later : (n : ℕ) (c : Event) (r : RunEnd) (w : Stop) → EndTold n r w → EndTold (suc n) (past (mark c) r) w
  unfolding past
  one_later n c r spent t = t
  one_later n c r met t = t
  one_later n c r full t = t
  one_later n c r (by q) (h, inl t) = (h, inl t)
  one_later n c r (by q) (h, inr (i, t, s)) = (h, inr (i, ap suc t, s))

  -- where no step is made
  told_door : (n : ℕ) (d : Event) → is_door e d ≡ true → WayTold n d (way_back M e n d)
  unfolding run
  told_door n d h = rw (way_ends M e d n h) (record { within = omega arith; steps = refl; nearest = λ j l. absurd (omega arith); end = h })

  told_refused : (n : ℕ) (d : Event) (q : Question) → is_door e d ≡ false → step_back M d ≡ refused q → WayTold n d (way_back M e n d)
  unfolding run
  told_refused n d q h k = rw (way_refused M e d h n q k) (record { within = omega arith; steps = refl; nearest = λ j l. absurd (omega arith); end = (h, inl k) })

  told_spent : (d c : Event) → is_door e d ≡ false → step_back M d ≡ gives c → WayTold zero d (way_back M e zero d)
  unfolding run
  told_spent d c h k = rw (way_spent M e d h c k) (record { within = omega arith; steps = refl; nearest = λ j l. absurd (omega arith); end = (h, inr (refl, refl, (c, k))) })

  -- and where one is
  told_on : (n : ℕ) (d c : Event) → is_door e d ≡ false → step_back M d ≡ gives c → WayTold n c (way_back M e n c) → WayTold (suc n) d (way_back M e (suc n) d)
  unfolding past step
  told_on n d c h k t = rw (way_on M e d h n c k) (record {
    within = omega (arith, t.within);
    steps = run_first M back (way_back M e n c).taken d c k ∙ ap (past (mark c)) t.steps;
    nearest = before;
    end = one_later n c (way_back M e n c) (way_back M e n c).why t.end;
  })
    where
      before : (j : ℕ) → j < suc (way_back M e n c).taken → is_door e (run M (plain back) j d).event ≡ false
      before zero l = ap (λ r. is_door e r.event) (run_none M (plain back) d) ∙ h
      before (suc j) l = ap (λ r. is_door e r.event) (run_first M back j d c k) ∙ t.nearest j (omega arith)

  pub way_told : (n : ℕ) (d : Event) → WayTold n d (way_back M e n d)
  way_told zero d = go (is_door e d) refl (step_back M d) refl
    where
      go : (b : Bool) → is_door e d ≡ b → (a : StepOutcome) → step_back M d ≡ a → WayTold zero d (way_back M e zero d)
      go true h a k = told_door zero d h
      go false h (refused q) k = told_refused zero d q h k
      go false h (gives c) k = told_spent d c h k
  way_told (suc n) d = go (way_told n) (is_door e d) refl (step_back M d) refl
    where
      go : ((c : Event) → WayTold n c (way_back M e n c)) → (b : Bool) → is_door e d ≡ b → (a : StepOutcome) → step_back M d ≡ a → WayTold (suc n) d (way_back M e (suc n) d)
      go t true h a k = told_door (suc n) d h
      go t false h (refused q) k = told_refused (suc n) d q h k
      go t false h (gives c) k = told_on n d c h k (t c)

  -- As many steps forward lead back to e.
  pub forward_again : (n : ℕ) → let r = to_door M n e in
      ((run M (plain forward) r.taken r.event).event ≡ e)
      × ((run M (plain forward) r.taken r.event).taken ≡ r.taken)
      × ((run M (plain forward) r.taken r.event).why ≡ spent)
  forward_again n =
      let t = way_told n e in
      rw (ap (λ r. r.event) t.steps) at (run_undone M (to_door M n e).taken e (ap (λ r. r.why) t.steps))
