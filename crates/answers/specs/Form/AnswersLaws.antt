-- Laws of the answers. A run that aims at exits with one ancestor comes to the next answer: what it passes on the way is none, and where it stops so, it
-- stands at an exit of Q whose only ancestor is 1/Q,fail.
use Rattle.std.specs.Prelude.{◌≡◌, Bool, false, cond, List, [], ◌∷◌, eqb}
use Rattle.std.proofs.Math.Path.{refl, ap}
use Rattle.std.proofs.Common.{sym, ◌∙◌, subst, add-suc, add-one, eqb-true}
use Rattle.std.proofs.Math.Bool.{true}
use Rattle.std.proofs.Math.Logic.{ite}
use Rattle.std.proofs.Math.Option.{Option, none, some}
use native.Mathlib.Omega.{arith}
use Prim.Native.Nat.{ℕ, zero, suc, ◌+◌, ◌-◌}
use Rattle.std.proofs.Math.ListN.{length}
use Rattle.records.specs.Format.Never.{never}
use Rattle.records.specs.Format.Syntax.{Goal, failure, first, second, Ancestor, called, in_conj, in_disj, Bet, Port, call, exit, fail, redo, Event, event, event?}
use Rattle.records.specs.Gate.Question.{Question, question_number}
use Rattle.terms.specs.Values.ValueService.{bets_of}
use Rattle.stepper.specs.Rules.Machine.{Machine, refused, gives}
use Rattle.stepper.specs.Rules.Rules.{step, step_forward}
use Rattle.stepper.specs.Rules.AnswerLaws.{gives_accepted}
use Rattle.stepper.specs.Walks.Walk.{forward, Reach}
use Rattle.stepper.specs.Walks.Legal.{Solved, Legal}
use Rattle.stepper.specs.Walks.Reached.{Reached}
use Rattle.stepper.specs.Walks.ReachedLaws.{Anything, reached_legal}
use Rattle.stepper.specs.Run.Run.{mark, meets, Order, is_full, less_room, Stop, spent, met, full, by, RunEnd, past, on_answer, run, stop_number}
use Rattle.stepper.specs.Run.RunLaws.{Course, no_count, no_room, no_step, last_step, one_step, course}
use Rattle.answers.specs.Form.Answers.{all_of, exit_of, exit_bets, events, events_number, Written, no_more, a_step, from_event, written, answers_from}
use Rattle.answers.specs.Form.NextExit.{exit_aim, to_next_exit}

-- so many steps in front
abbrev pub steps_before : ℕ → Written → Written
steps_before k w = record { bytes = w.bytes; taken = w.taken + k; number = w.number }

one_before : (w : Written) → a_step w ≡ steps_before 1 w
one_before w = rw add-one refl

one_more_before : (k : ℕ) (w : Written) → a_step (steps_before k w) ≡ steps_before (suc k) w
one_more_before k w = rw add-suc refl

module _ (q : Goal) where
  -- an exit of Q whose only ancestor is 1/Q,fail is told as one
  pub exit_told : (s : List Bet) → exit_bets q (exit_of q s) ≡ some s
  unfolding exit_bets
  exit_told s = go (event? (exit_of q s) (exit_of q s))
    where
      go : (d : Dec (exit_of q s ≡ exit_of q s)) → ite d (some s) none ≡ some s
      go (yes p) = refl
      go (no n) = absurd (n refl)

  -- and no other event is
  pub told_exit : (e : Event) (s : List Bet) → exit_bets q e ≡ some s → e ≡ exit_of q s
  unfolding exit_bets
  told_exit e s = go (event? e (exit_of q (bets_of e)))
    where
      go : (d : Dec (e ≡ exit_of q (bets_of e))) → ite d (some (bets_of e)) none ≡ some s → e ≡ exit_of q s
      go (yes p) h = let same : bets_of e ≡ s = cc in p ∙ ap (exit_of q) same
      go (no n) h = never cc

  -- an event that is not aimed at is none
  pub unmet_exit : (e : Event) → meets (some exit_aim) (mark e) ≡ false → exit_bets q e ≡ none
  unfolding meets mark
  unmet_exit e h = go (exit_bets q e) refl
    where
      go : (o : Option (List Bet)) → exit_bets q e ≡ o → exit_bets q e ≡ none
      go none k = k
      go (some s) k = let same = told_exit e s k in never (sym (ap (λ e. meets (some exit_aim) (mark e)) same) ∙ h)

-- true of both
both_true : (a b : Bool) → cond a b false ≡ true → (a ≡ true) × (b ≡ true)
both_true true b h = (refl, h)
both_true false b h = never (sym h)

-- fail has no exit
pub failure_unsolved : {M : Machine} {Q : Goal} {Seen : Event → Type 0} {u : List Ancestor} {r s : List Bet} → Solved M Q Seen failure u r s → ⊥
failure_unsolved = elim [ ]

module _ (M : Machine) (q : Goal) where
  -- the one exit under one ancestor in the walk of 'Q, fail' is that of Q under 1/Q,fail
  exit_legal : (g : Goal) (u : List Ancestor) (s : List Bet) → length u ≡ 1 → Legal M (all_of q) Anything (event exit g u s) → event exit g u s ≡ exit_of q s
  exit_legal g [] s n l = absurd (omega arith)
  exit_legal g (in_conj first a b ∷ []) s n (r, (k, (h, _), _), _, _) = cc
  exit_legal g (in_conj second a b ∷ []) s n (r, (k, (t, (h, _), _, _, _, _)), _, solved) =
      let z : b ≡ failure = cc in
      absurd (failure_unsolved (subst (λ x. Solved M (all_of q) Anything x (in_conj second a b ∷ []) r s) (k ∙ z) solved))
  exit_legal g (in_disj m a b ∷ []) s n (r, (k, (h, _), _), _, _) = never cc
  exit_legal g (called p ts ∷ []) s n (r, (k, (h, _), _), _, _) = never cc
  exit_legal g (a ∷ (b ∷ u)) s n l = absurd (omega arith)

  -- so an event of that walk which is aimed at is the exit of an answer
  pub met_exit : (i : ℕ) (e : Event) → Reached M (all_of q) i e → meets (some exit_aim) (mark e) ≡ true → e ≡ exit_of q (bets_of e)
  unfolding meets mark
  met_exit i (event p g u s) r h =
      let (n, x) = both_true (eqb (length u) 1) (exit_aim.ports p) h in
      go p x (reached_legal M (all_of q) Anything i (event p g u s) (λ d k. tt) r) (eqb-true (length u) 1 n)
    where
      go : (p : Port) → exit_aim.ports p ≡ true → Legal M (all_of q) Anything (event p g u s) → length u ≡ 1 → event p g u s ≡ exit_of q s
      go call x l n = never (sym x)
      go exit x l n = exit_legal g u s n l
      go fail x l n = never (sym x)
      go redo x l n = never (sym x)

  -- one step of the walk
  pub number_none : (e : Event) → events_number M zero e ≡ 0
  unfolding events_number run stop_number
  number_none e = refl

  module _ (n : ℕ) (e : Event) where
    pub number_refused : (k : Question) → step_forward M e ≡ refused k → events_number M (suc n) e ≡ question_number k
    unfolding events_number run is_full on_answer step stop_number
    number_refused k h = rw h

    pub number_given : (c : Event) → step_forward M e ≡ gives c → events_number M (suc n) e ≡ events_number M n c
    unfolding events_number run is_full on_answer step meets less_room past
    number_given c h = rw h

    pub answers_refused : (room : ℕ) (k : Question) → step_forward M e ≡ refused k → answers_from M q (suc n) room e ≡ no_more (question_number k)
    unfolding answers_from written events events_number run is_full on_answer step stop_number
    answers_refused room k h = rw h

    pub answers_given : (room : ℕ) (c : Event) → step_forward M e ≡ gives c
        → answers_from M q (suc n) room e ≡ a_step (from_event q room (exit_bets q c) (λ r. answers_from M q n r c))
    unfolding answers_from written events events_number run is_full on_answer step meets less_room past
    answers_given room c h = rw h

  pub answers_none : (e : Event) (room : ℕ) → answers_from M q zero room e ≡ no_more 0
  unfolding answers_from written events events_number run stop_number
  answers_none e room = refl

  -- what is written where a run to the next exit stops so, with n steps left
  unfoldable pub at_stop : Stop → (n room : ℕ) → Event → Written
  unfolding from_event answers_from question_number
  at_stop spent n room e = no_more 0
  at_stop met n room e = from_event q room (some (bets_of e)) (λ r. answers_from M q n r e)
  at_stop full n room e = no_more 0
  at_stop (by k) n room e = no_more (question_number k)

  answers_go : {o : Order} {n : ℕ} {e : Event} {r : RunEnd} → Course M o n e r → o.direction ≡ forward → o.aim ≡ some exit_aim → o.room ≡ none
      → (i : ℕ) → Reached M (all_of q) i e → (room : ℕ)
      → answers_from M q n room e ≡ steps_before r.taken (at_stop r.why (n - r.taken) room r.event)
  unfolding at_stop past step is_full less_room Reach
  answers_go (no_count {e = e}) d a z i k room = answers_none e room
  answers_go (no_room f) d a z i k room = never (sym (rw z at f))
  answers_go (no_step {n = n} {e = e} p f h) d a z i k room = answers_refused n e room p (rw d at h)
  answers_go (last_step {n = n} {e = e} c f h m) d a z i k room =
      let ahead : step_forward M e ≡ gives c = rw d at h in
      let less : suc n - 1 ≡ n = omega arith in
      let exit = met_exit (suc i) c (e, k, gives_accepted _ c ahead) (rw a at m) in
      let told : exit_bets q c ≡ some (bets_of c) = ap (exit_bets q) exit ∙ exit_told q (bets_of c) in
      answers_given n e room c ahead ∙ rw (told, less) (one_before _)
  answers_go (one_step {n = n} {e = e} {r = r} c f h m y) d a z i k room =
      let ahead : step_forward M e ≡ gives c = rw d at h in
      let less : suc n - suc r.taken ≡ n - r.taken = omega arith in
      let none_here = unmet_exit q c (rw a at m) in
      answers_given n e room c ahead ∙ rw (none_here, less) (ap a_step (answers_go y d a (rw z refl) (suc i) (e, k, gives_accepted _ c ahead) room) ∙ one_more_before r.taken _)

  -- the answers from an event of the walk on, by the run to the next exit
  pub answers_of_run : (n room : ℕ) (e : Event) (i : ℕ) → Reached M (all_of q) i e
      → answers_from M q n room e ≡ steps_before (run M to_next_exit n e).taken (at_stop (run M to_next_exit n e).why (n - (run M to_next_exit n e).taken) room (run M to_next_exit n e).event)
  answers_of_run n room e i h = answers_go (course M to_next_exit n e) refl refl refl i h room
