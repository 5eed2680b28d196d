-- The exits at which a list of answers is told are the exits of the walk: each is reached, and each that is reached within the steps is among them.
use Rattle.std.specs.Prelude.{◌≡◌, List, [], ◌∷◌}
use Rattle.std.proofs.Math.Path.{refl}
use Rattle.std.proofs.Common.{◌∙◌, ap, subst, inl, inr, arith}
use Rattle.std.proofs.Math.Option.{Option, none, some}
use Rattle.std.proofs.Math.Decide.{ℕ_discrete}
use Prim.Native.Nat.{ℕ, zero, suc, ◌+◌, ◌<◌, ◌≤◌}
use Rattle.records.specs.Format.Formed.{All}
use Rattle.records.specs.Format.Syntax.{Goal, Bet, Event}
use Rattle.records.specs.Gate.Reply.{through}
use Rattle.stepper.specs.Rules.AnswerLaws.{gives_accepted}
use Rattle.stepper.specs.Rules.Machine.{Machine, StepOutcome, refused, gives}
use Rattle.stepper.specs.Rules.Rules.{step, step_forward}
use Rattle.stepper.specs.Walks.Walk.{Reach}
use Rattle.stepper.specs.Walks.Reached.{Reached}
use Rattle.stepper.specs.Walks.ReachedLaws.{one_event}
use Rattle.stepper.specs.Walks.PlaceLaws.{goes_on}
use Rattle.answers.specs.Form.Answers.{exit_of, exit_bets, events}
use Rattle.answers.specs.Form.AnswersLaws.{exit_told, told_exit}
use Rattle.answers.specs.Form.Continued.{with_bets, answer_exits}
use Rattle.meaning.specs.Says.Any.{Belongs}

-- what stands in a list stands behind what may be put in front of it
in_behind : (s : List Bet) (o : Option (List Bet)) (l : List (List Bet)) → Belongs s l → Belongs s (with_bets o l)
in_behind s none l h = h
in_behind s (some t) l h = inr h

module _ (M : Machine) (q r : Goal) where
  -- the walk from r comes to an exit of q with these bets
  abbrev pub ExitReached : List Bet → Type 0
  ExitReached s = (j : ℕ) × Reached M r j (exit_of q s)

  pub exits_reached : (n i : ℕ) (e : Event) → Reached M r i e → All ExitReached (answer_exits q (events M n e))
  unfolding events through Reach step
  exits_reached zero i e h = tt
  exits_reached (suc n) i e h = go (step_forward M e) refl (exits_reached n (suc i))
    where
      go : (a : StepOutcome) → step_forward M e ≡ a → ((c : Event) → Reached M r (suc i) c → All ExitReached (answer_exits q (events M n c)))
          → All ExitReached (answer_exits q (through (λ k. []) a (λ c. c ∷ events M n c)))
      go (refused k) x f = tt
      go (gives c) x f = told (exit_bets q c) refl (f c here)
        where
          here : Reached M r (suc i) c
          here = (e, h, gives_accepted _ c x)

          told : (o : Option (List Bet)) → exit_bets q c ≡ o → All ExitReached (answer_exits q (events M n c)) → All ExitReached (with_bets o (answer_exits q (events M n c)))
          told none y l = l
          told (some s) y l = ((suc i, subst (Reached M r (suc i)) (told_exit q c s y) here), l)

  pub reached_in : (n i : ℕ) (e : Event) → Reached M r i e → (j : ℕ) → i < j → j ≤ i + n → (s : List Bet) → Reached M r j (exit_of q s)
      → Belongs s (answer_exits q (events M n e))
  unfolding events through
  reached_in zero i e h j l m s k = absurd (omega arith)
  reached_in (suc n) i e h j l m s k =
      let (c, there, x) = goes_on M r j (exit_of q s) k i e l h in
      rw x (go c there (ℕ_discrete j (suc i)) (λ d. reached_in n (suc i) c there j (omega (arith, d)) (omega arith) s k))
    where
      go : (c : Event) → Reached M r (suc i) c → Dec (j ≡ suc i) → ((j ≡ suc i → ⊥) → Belongs s (answer_exits q (events M n c)))
          → Belongs s (with_bets (exit_bets q c) (answer_exits q (events M n c)))
      go c there (yes z) f =
          let same : c ≡ exit_of q s = one_event M r (suc i) c (exit_of q s) there (subst (λ n. Reached M r n (exit_of q s)) z k) in
          rw (ap (exit_bets q) same ∙ exit_told q s) (inl refl)
      go c there (no d) f = in_behind s (exit_bets q c) (answer_exits q (events M n c)) (f d)
