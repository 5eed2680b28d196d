-- Laws of the end of the list: its number is 6 exactly where the walk of 'Q, fail' stands at its fail before the steps are spent.
use Rattle.std.specs.Prelude.{◌≡◌, Bool, true, false, ◌↔◌, List, [], ◌∷◌, ltb}
use Rattle.std.proofs.Math.Path.{refl, sym, subst}
use Rattle.std.proofs.Common.{◌∙◌, ap, zero-add}
use Rattle.std.proofs.Math.Option.{Option, none, some}
use Rattle.std.proofs.Math.Nat.{add-zero}
use native.Mathlib.Omega.{arith}
use Prim.Native.Nat.{ℕ, zero, suc, ◌+◌, ◌-◌, ◌<◌}
use Rattle.std.proofs.Math.ListN.{length}
use Rattle.records.specs.Format.Never.{never}
use Rattle.records.specs.Format.Syntax.{Goal, Bet, call, exit, fail, redo, Event, event}
use Rattle.records.specs.Format.Encode.{event_record}
use Rattle.records.specs.Gate.Question.{Question, possible, question_number}
use Rattle.records.specs.Gate.Reply.{Answer, refused, gives, through}
use Rattle.records.specs.Gate.ReplyLaws.{number_injective}
use Rattle.stepper.specs.Rules.Machine.{Machine, StepOutcome}
use Rattle.stepper.specs.Rules.Rules.{limited_by, step, step_forward, first_event}
use Rattle.stepper.specs.Rules.AnswerLaws.{gives_accepted}
use Rattle.stepper.specs.Rules.Refusals.{AtEnd, Refusal, walk_ends, no_rule, value_too_large, local_too_large, result_refused}
use Rattle.stepper.specs.Rules.RefusalLaws.{ends_refused, forward_refused_iff}
use Rattle.stepper.specs.Run.Run.{mark, meets}
use Rattle.stepper.specs.Services.Services.{record_limit, too_long}
use Rattle.stepper.specs.Walks.Walk.{Reach}
use Rattle.stepper.specs.Walks.Legal.{Solved, by_conj, Legal}
use Rattle.stepper.specs.Walks.Reached.{Reached}
use Rattle.stepper.specs.Walks.ReachedLaws.{Anything, one_event, reached_legal}
use Rattle.answers.specs.Form.Answer.{solution, solution_into}
use Rattle.answers.specs.Form.Answers.{all_of, exit_bets, Written, settled, from_event, answers_from, answers}
use Rattle.answers.specs.Form.AnswersLaws.{unmet_exit, failure_unsolved, answers_refused, answers_given, answers_none}
use Rattle.answers.specs.Form.ToldLaws.{into_not_six}

-- the fail of 'Q, fail'
abbrev pub failed : Goal → Event
failed q = event fail (all_of q) [] []

-- no limit is question 6
abbrev pub LimitsLater : Machine → Type 0
LimitsLater M = (e : Event) → M.result_limit e ≡ some possible → ⊥

-- no limit of the desk's rules is question 6
pub record_limits : (e : Event) → record_limit e ≡ some possible → ⊥
unfolding record_limit too_long
record_limits e h = go (ltb 32768 (length (event_record e))) h
  where
    go : (b : Bool) → too_long b ≡ some possible → ⊥
    go true k = never cc
    go false k = never cc

-- question 6 is put at an end alone
pub six_ends : (M : Machine) → LimitsLater M → (e : Event) (k : Question) → Refusal M e k → k ≡ possible → AtEnd e
six_ends M limits e k (walk_ends w) h = w
six_ends M limits e k (no_rule w n) h = never cc
six_ends M limits e k (value_too_large n) h = never cc
six_ends M limits e k (local_too_large n) h = never cc
six_ends M limits e k (result_refused {d = d} r n l) h = absurd (limits d (l ∙ ap some h))

-- what an event adds: where the number is 6 behind it, and where the steps behind it are such
module _ (q : Goal) (room : ℕ) (Φ : ℕ → Type 0) where
  event_six : (o : Option (List Bet)) (f : ℕ → Written) → ((r : ℕ) → (f r).number ≡ question_number possible → Φ (f r).taken)
      → (from_event q room o f).number ≡ question_number possible → Φ (from_event q room o f).taken
  unfolding from_event settled through
  event_six none f h z = h room z
  event_six (some s) f h z = go (solution_into room (solution q s)) refl z
    where
      go : (a : Answer (List ℕ)) → solution_into room (solution q s) ≡ a
          → (settled room a f).number ≡ question_number possible
          → Φ (settled room a f).taken
      go (refused p) x y = absurd (into_not_six q room s p x y)
      go (gives b) x y = h (room - length b) y

  event_ended : (o : Option (List Bet)) (f : ℕ → Written) → ((r : ℕ) → Φ (f r).taken → (f r).number ≡ question_number possible) → (Φ 0 → o ≡ none)
      → Φ (from_event q room o f).taken → (from_event q room o f).number ≡ question_number possible
  unfolding from_event settled through
  event_ended none f h none_there z = h room z
  event_ended (some s) f h none_there z = go (solution_into room (solution q s)) z
    where
      go : (a : Answer (List ℕ)) → Φ (settled room a f).taken
          → (settled room a f).number ≡ question_number possible
      go (refused p) y = let e = none_there y in never cc
      go (gives b) y = h (room - length b) y

refused_injective : {k p : Question} → ◌≡◌ {A = StepOutcome} (refused k) (refused p) → k ≡ p
refused_injective e = cc

module _ (M : Machine) (limits : LimitsLater M) (q : Goal) where
  -- 'Q, fail' does not exit
  exits_never : {r s : List Bet} → Solved M (all_of q) Anything (all_of q) [] r s → ⊥
  exits_never (by_conj a b c d e f) = failure_unsolved d

  -- so where its walk ends is its fail
  ended : (i : ℕ) (e : Event) → Reached M (all_of q) i e → AtEnd e → e ≡ failed q
  ended i e h w = go e (reached_legal M (all_of q) Anything i e (λ d k. tt) h) w
    where
      go : (e : Event) → Legal M (all_of q) Anything e → AtEnd e → e ≡ failed q
      go (event call g u s) l w = absurd w
      go (event exit g [] s) (r, (k, _), _, solved) w = absurd (exits_never (subst (λ g. Solved M (all_of q) Anything g [] r s) k solved))
      go (event exit g (a ∷ u) s) l w = absurd w
      go (event fail g [] s) ((k, n), _) w = cc
      go (event fail g (a ∷ u) s) l w = absurd w
      go (event redo g u s) l w = absurd w

  refused_at_end : (i : ℕ) (e : Event) (k : Question) → Reached M (all_of q) i e → step_forward M e ≡ refused k → k ≡ possible → e ≡ failed q
  refused_at_end i e k h r z = ended i e h (six_ends M limits e k ((forward_refused_iff M e k).0 r) z)

  -- which is no exit
  failed_none : exit_bets q (failed q) ≡ none
  unfolding meets mark
  failed_none = unmet_exit q (failed q) refl

  end_refuses : step_forward M (failed q) ≡ refused possible
  unfolding step_forward limited_by
  end_refuses = rw (ends_refused M (failed q) tt)

  -- the event after an accepted step
  next_reached : (i : ℕ) (e c : Event) → Reached M (all_of q) i e → step_forward M e ≡ gives c → Reached M (all_of q) (suc i) c
  unfolding Reach step
  next_reached i e c h k = (e, h, gives_accepted _ c k)

  -- after i steps the walk stands, t steps later, at its end, and fewer than n are made
  abbrev EndsIn : ℕ → ℕ → ℕ → Type 0
  EndsIn i n t = (t < n) × Reached M (all_of q) (i + t) (failed q)

  one_later : (i n t : ℕ) → EndsIn (suc i) n t ↔ EndsIn i (suc n) (suc t)
  one_later i n t =
      let same : suc i + t ≡ i + suc t = omega arith in
      ((λ h. (omega arith, subst (λ k. Reached M (all_of q) k (failed q)) same h.1)), (λ h. (omega arith, subst (λ k. Reached M (all_of q) k (failed q)) (sym same) h.1)))

  six_ended : (n room i : ℕ) (e : Event) → Reached M (all_of q) i e → (answers_from M q n room e).number ≡ question_number possible
      → EndsIn i n (answers_from M q n room e).taken
  unfolding question_number
  six_ended zero room i e h z = absurd (omega (arith, sym (ap (λ w. w.number) (answers_none M q e room)) ∙ z))
  six_ended (suc n) room i e h z = go (step_forward M e) refl (λ r c. six_ended n r (suc i) c)
    where
      go : (a : StepOutcome) → step_forward M e ≡ a
          → ((r : ℕ) (c : Event) → Reached M (all_of q) (suc i) c → (answers_from M q n r c).number ≡ question_number possible → EndsIn (suc i) n (answers_from M q n r c).taken)
          → EndsIn i (suc n) (answers_from M q (suc n) room e).taken
      go (refused k) x f =
          let same = answers_refused M q n e room k x in
          let six = number_injective k possible (sym (ap (λ w. w.number) same) ∙ z) in
          rw same (omega arith, rw add-zero (subst (Reached M (all_of q) i) (refused_at_end i e k h x six) h))
      go (gives c) x f =
          let same = answers_given M q n e room c x in
          let here = next_reached i e c h x in
          rw same ((one_later i n _).0 (event_six q room (EndsIn (suc i) n) (exit_bets q c) _ (λ r. f r c here) (sym (ap (λ w. w.number) same) ∙ z)))

  ended_six : (n room i : ℕ) (e : Event) → Reached M (all_of q) i e → EndsIn i n (answers_from M q n room e).taken
      → (answers_from M q n room e).number ≡ question_number possible
  ended_six zero room i e h l = absurd (omega (arith, l.0))
  ended_six (suc n) room i e h l = go (step_forward M e) refl (λ r c. ended_six n r (suc i) c)
    where
      go : (a : StepOutcome) → step_forward M e ≡ a
          → ((r : ℕ) (c : Event) → Reached M (all_of q) (suc i) c → EndsIn (suc i) n (answers_from M q n r c).taken → (answers_from M q n r c).number ≡ question_number possible)
          → (answers_from M q (suc n) room e).number ≡ question_number possible
      go (refused k) x f =
          let same = answers_refused M q n e room k x in
          let there : Reached M (all_of q) i (failed q) = rw add-zero at (rw same at l.1) in
          let here = one_event M (all_of q) i e (failed q) h there in
          let six : refused k ≡ refused possible = sym x ∙ ap (step_forward M) here ∙ end_refuses in
          rw same (ap question_number (refused_injective six))
      go (gives c) x f =
          let same = answers_given M q n e room c x in
          let here = next_reached i e c h x in
          rw same (event_ended q room (EndsIn (suc i) n) (exit_bets q c) _ (λ r. f r c here) (λ z. no_exit c here (rw add-zero at z.1)) ((one_later i n _).1 (rw same at l)))
        where
          no_exit : (c : Event) → Reached M (all_of q) (suc i) c → Reached M (all_of q) (suc i) (failed q) → exit_bets q c ≡ none
          no_exit c here there = ap (exit_bets q) (one_event M (all_of q) (suc i) c (failed q) here there) ∙ failed_none

  -- The number is 6 exactly where the walk of 'Q, fail' ended in fail: it stands there after the steps that were made, and one more was allowed.
  pub six_iff : (n room : ℕ) → ((answers M q n room).number ≡ 6) ↔ (((answers M q n room).taken < n) × Reached M (all_of q) (answers M q n room).taken (failed q))
  unfolding question_number Reach
  six_iff n room =
      let t = (answers M q n room).taken in (
        (λ z. let (l, r) = six_ended n room 0 (first_event (all_of q)) refl z in (l, subst (λ n. Reached M (all_of q) n (failed q)) (zero-add t) r)),
        (λ w. ended_six n room 0 (first_event (all_of q)) refl (w.0, subst (λ n. Reached M (all_of q) n (failed q)) (sym (zero-add t)) w.1)),
      )
