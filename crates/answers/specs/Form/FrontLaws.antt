-- Laws of longer lists of answers: what is written within fewer steps, or into less room, is a front of what is written within more; number 6 says that
-- nothing is left to be written, so that more steps and more room change nothing.
use Rattle.std.specs.Prelude.{◌≡◌, Bool}
use Rattle.std.proofs.Math.Path.{refl, sym, ap}
use Rattle.std.proofs.Common.{◌∙◌}
use Rattle.std.proofs.Math.Bool.{true, false}
use mathlib.Core.List.{List, [], ◌∷◌, ◌++◌, append_assoc, append-nil}
use Rattle.std.proofs.Math.Option.{Option, none, some}
use Rattle.std.proofs.Math.Nat.{suc-add}
use native.Mathlib.Omega.{arith}
use Prim.Native.Nat.{ℕ, zero, suc, ◌+◌, ◌-◌, ◌≤◌}
use Rattle.std.proofs.Math.Dec.{leb}
use Rattle.std.proofs.Math.ListN.{length}
use borrow.Author.Tests.{leb-true, le-leb}
use Rattle.records.specs.Format.Never.{never}
use Rattle.records.specs.Format.Encode.{each}
use Rattle.records.specs.Format.Syntax.{Goal, Bet, Event}
use Rattle.records.specs.Gate.Question.{possible, fits, question_number}
use Rattle.records.specs.Gate.Reply.{Answer, refused, gives, on_yes, through}
use Rattle.terms.specs.Values.NodeBytesLaws.{each_append}
use Rattle.stepper.specs.Rules.Machine.{Machine, StepOutcome}
use Rattle.stepper.specs.Rules.Rules.{step_forward}
use Rattle.answers.specs.Form.Answer.{QuerySolution, solution_bytes, solution, solution_into}
use Rattle.answers.specs.Form.Answers.{exit_bets, events, events_number, Written, a_step, an_answer, settled, from_event, answers_from}
use Rattle.answers.specs.Form.AnswersLaws.{answers_refused, answers_given, answers_none}
use Rattle.answers.specs.Form.Told.{ToldAnswers}
use Rattle.answers.specs.Form.ToldLaws.{into_given, into_not_six, told}

-- b begins with a, and the rest of it is whole answers
pub record Front (a b : List ℕ) : Type 0 where
  pub more : List QuerySolution
  pub is : b ≡ a ++ each solution_bytes more

-- the bytes of a list are those of whole answers
front_all : (q : Goal) (walk : List Event) (w : Written) → ToldAnswers q walk w → Front [] w.bytes
front_all q walk w t = record { more = t.found; is = t.bytes_are }

pub front_same : (a : List ℕ) → Front a a
front_same a = record { more = []; is = sym (append-nil a) }

front_behind : (x : List ℕ) {a b : List ℕ} → Front a b → Front (x ++ a) (x ++ b)
front_behind x {a} f = record { more = f.more; is = ap (x ++◌) f.is ∙ sym (append_assoc x a (each solution_bytes f.more)) }

pub front_front : {a b c : List ℕ} → Front a b → Front b c → Front a c
front_front {a} f g = record {
  more = f.more ++ g.more;
  is = g.is ∙ ap (◌++ each solution_bytes g.more) f.is ∙ append_assoc a (each solution_bytes f.more) (each solution_bytes g.more)
      ∙ ap (a ++◌) (sym (each_append solution_bytes f.more g.more));
}

-- an answer that fits, fits more room too
module _ (room more : ℕ) where
  pub into_more : (a : Answer QuerySolution) (b : List ℕ) → solution_into room a ≡ gives b → (solution_into (room + more) a ≡ gives b) × (length b ≤ room)
  unfolding solution_into through on_yes
  into_more (refused k) b h = never cc
  into_more (gives x) b h = go (leb (length (solution_bytes x)) room) refl h
    where
      go : (t : Bool) → leb (length (solution_bytes x)) room ≡ t → on_yes fits t (gives (solution_bytes x)) ≡ gives b
          → (on_yes fits (leb (length (solution_bytes x)) (room + more)) (gives (solution_bytes x)) ≡ gives b) × (length b ≤ room)
      go true e k =
          let n = leb-true (length (solution_bytes x)) room e in
          let same : solution_bytes x ≡ b = cc in
          (rw (le-leb (length (solution_bytes x)) (room + more) (omega arith)) k, rw (← same) n)
      go false e k = never cc

-- what an event adds to what is written behind it
module _ (q : Goal) where
  module _ (room : ℕ) where
    front_event : (o : Option (List Bet)) (f g : ℕ → Written) → ((r : ℕ) → Front (f r).bytes (g r).bytes)
        → Front (from_event q room o f).bytes (from_event q room o g).bytes
    unfolding from_event settled through
    front_event none f g h = h room
    front_event (some s) f g h = go (solution_into room (solution q s))
      where
        go : (a : Answer (List ℕ)) → Front (settled room a f).bytes
            (settled room a g).bytes
        go (refused k) = front_same []
        go (gives b) = front_behind b (h (room - length b))

    -- with more room
    roomier_event : (more : ℕ) (o : Option (List Bet)) (f : ℕ → Written) → ((r : ℕ) → Front (f r).bytes (f (r + more)).bytes) → ((r : ℕ) → Front [] (f r).bytes)
        → Front (from_event q room o f).bytes (from_event q (room + more) o f).bytes
    unfolding from_event settled through
    roomier_event more none f h all = h room
    roomier_event more (some s) f h all = go (solution_into room (solution q s)) refl
      where
        go : (a : Answer (List ℕ)) → solution_into room (solution q s) ≡ a
            → Front (settled room a f).bytes
            (settled (room + more) (solution_into (room + more) (solution q s)) f).bytes
        go (refused k) e = wider (solution_into (room + more) (solution q s)) refl
          where
            wider : (a : Answer (List ℕ)) → solution_into (room + more) (solution q s) ≡ a → Front [] (settled (room + more) a f).bytes
            wider (refused l) i = front_same []
            wider (gives b) i =
                let (x, j, k) = into_given (room + more) (solution q s) b i in
                let rest = all (room + more - length b) in
                record { more = x ∷ rest.more; is = ap (b ++◌) rest.is ∙ ap (◌++ each solution_bytes rest.more) k }
        go (gives b) e =
            let (i, n) = into_more room more (solution q s) b e in
            let less : room + more - length b ≡ room - length b + more = omega arith in
            rw (i, less) (front_behind b (h (room - length b)))

    -- where the number is 6 behind it
    whole_event : (more : ℕ) (o : Option (List Bet)) (f g : ℕ → Written) → ((r : ℕ) → (f r).number ≡ question_number possible → g (r + more) ≡ f r)
        → (from_event q room o f).number ≡ question_number possible → from_event q (room + more) o g ≡ from_event q room o f
    unfolding from_event settled through
    whole_event more none f g h z = h room z
    whole_event more (some s) f g h z = go (solution_into room (solution q s)) refl z
      where
        go : (a : Answer (List ℕ)) → solution_into room (solution q s) ≡ a
            → (settled room a f).number ≡ question_number possible
            → settled (room + more) (solution_into (room + more) (solution q s)) g
            ≡ settled room a f
        go (refused p) e y = absurd (into_not_six q room s p e y)
        go (gives b) e y =
            let (i, n) = into_more room more (solution q s) b e in
            let less : room + more - length b ≡ room - length b + more = omega arith in
            rw (i, less) (ap (an_answer b) (h (room - length b) y))

module _ (M : Machine) (q : Goal) where
  pub whole_answers : (n room : ℕ) (e : Event) → Front [] (answers_from M q n room e).bytes
  unfolding answers_from
  whole_answers n room e = front_all q (events M n e) _ (told q (events_number M n e) room (events M n e))

  -- Within more steps there are the same answers, and perhaps others behind them;
  pub front_steps : (n more room : ℕ) (e : Event) → Front (answers_from M q n room e).bytes (answers_from M q (n + more) room e).bytes
  front_steps zero more room e = rw (answers_none M q e room) (whole_answers (zero + more) room e)
  front_steps (suc n) more room e = rw suc-add (go (step_forward M e) refl (front_steps n more))
    where
      go : (a : StepOutcome) → step_forward M e ≡ a → ((room : ℕ) (e : Event) → Front (answers_from M q n room e).bytes (answers_from M q (n + more) room e).bytes)
          → Front (answers_from M q (suc n) room e).bytes (answers_from M q (suc (n + more)) room e).bytes
      go (refused k) h f = rw (answers_refused M q n e room k h, answers_refused M q (n + more) e room k h) (front_same _)
      go (gives c) h f =
          rw (answers_given M q n e room c h, answers_given M q (n + more) e room c h) (front_event q room (exit_bets q c) _ _ (λ r. f r c))

  -- and so there are in more room.
  pub front_room : (n room more : ℕ) (e : Event) → Front (answers_from M q n room e).bytes (answers_from M q n (room + more) e).bytes
  front_room zero room more e = rw (answers_none M q e room) (whole_answers zero (room + more) e)
  front_room (suc n) room more e = go (step_forward M e) refl (λ r c. front_room n r more c)
    where
      go : (a : StepOutcome) → step_forward M e ≡ a → ((r : ℕ) (c : Event) → Front (answers_from M q n r c).bytes (answers_from M q n (r + more) c).bytes)
          → Front (answers_from M q (suc n) room e).bytes (answers_from M q (suc n) (room + more) e).bytes
      go (refused k) h f = rw (answers_refused M q n e room k h, answers_refused M q n e (room + more) k h) (front_same _)
      go (gives c) h f =
          rw (answers_given M q n e room c h, answers_given M q n e (room + more) c h) (roomier_event q room more (exit_bets q c) _ (λ r. f r c) (λ r. whole_answers n r c))

  -- Where the number is 6, more steps and more room change nothing.
  pub whole_list : (n more room wider : ℕ) (e : Event) → (answers_from M q n room e).number ≡ question_number possible
      → answers_from M q (n + more) (room + wider) e ≡ answers_from M q n room e
  unfolding question_number
  whole_list zero more room wider e h = absurd (omega (arith, sym (ap (λ w. w.number) (answers_none M q e room)) ∙ h))
  whole_list (suc n) more room wider e h = rw suc-add (go (step_forward M e) refl (λ r c. whole_list n more r wider c))
    where
      go : (a : StepOutcome) → step_forward M e ≡ a
          → ((r : ℕ) (c : Event) → (answers_from M q n r c).number ≡ question_number possible → answers_from M q (n + more) (r + wider) c ≡ answers_from M q n r c)
          → answers_from M q (suc (n + more)) (room + wider) e ≡ answers_from M q (suc n) room e
      go (refused k) i f = rw (answers_refused M q n e room k i, answers_refused M q (n + more) e (room + wider) k i) refl
      go (gives c) i f =
          let same = answers_given M q n e room c i in
          answers_given M q (n + more) e (room + wider) c i
          ∙ ap a_step (whole_event q room wider (exit_bets q c) _ _ (λ r. f r c) (sym (ap (λ w. w.number) same) ∙ h)) ∙ sym same
