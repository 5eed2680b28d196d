-- Laws of the list of answers: a run to the next exit that stops before one ends the list, and one that comes to an exit adds its answer, or ends the list
-- where the answer is refused.
use Rattle.std.specs.Prelude.{◌≡◌, true, false, List, [], ◌++◌, ℕ, ◌+◌, ◌-◌, ◌≤◌, take, drop, Result, Ok, Err}
use Rattle.std.specs.declared.ops.ControlFlow.{ControlFlow}
use Rattle.std.specs.declared.ops.ControlFlow.TheVariants.{Break}
use Rattle.std.proofs.Math.Path.{refl}
use Rattle.std.proofs.Common.{sym, ◌∙◌, ap, append-nil, append_assoc, add-zero, arith, length-append, length-take, length-drop}
use Rattle.std.proofs.Math.ListN.{length}
use Rattle.records.specs.Format.Never.{never}
use Rattle.records.specs.Format.Syntax.{Goal, Bet, Definition}
use Rattle.records.specs.Gate.Door.{BothPassed}
use Rattle.records.specs.Gate.OutcomeLaws.{refusal_positive}
use Rattle.records.specs.Gate.Question.{Question, question_number, refusal_number}
use Rattle.records.specs.Gate.Receipt.{receipt_of}
use Rattle.records.specs.Gate.Reply.{Answer, refused, gives, through, answer_number, answer_length, reply_with, outcome_number, Receipted}
use Rattle.records.specs.Gate.ReplyLaws.{number_positive, reply_put}
use Rattle.records.specs.Writing.Patched.{Put}
use Rattle.records.specs.Writing.PatchedLaws.{patched_nil, put_none, put_then, put_tail, put_length}
use Rattle.records.specs.declared.questions.Refusal.{Refusal}
use Rattle.terms.specs.Values.ValueService.{bets_of}
use Rattle.stepper.specs.Rules.Machine.{Machine}
use Rattle.stepper.specs.Run.Run.{Stop, spent, met, full, by, RunEnd, run, stop_number}
use Rattle.stepper.specs.Run.RunLoop.{met_case, RanHere, asked}
use Rattle.stepper.specs.Run.RunLoopLaws.{tells_met}
use Rattle.stepper.specs.Run.RunLaws.{run_within, run_met_steps, run_reached}
use Rattle.stepper.specs.Services.Desk.{layers}
use Rattle.stepper.specs.Services.Services.{machine}
use Rattle.stepper.specs.declared.run.RunAnswer.{RunAnswer}
use Rattle.stepper.specs.declared.run.RunOrder.{RunOrder}
use Rattle.answers.specs.Form.Answer.{query_variables, solution_for, solution_into}
use Rattle.answers.specs.Form.Answers.{all_of, Written, no_more, an_answer, settled, from_event, answers_from, answers}
use Rattle.answers.specs.Form.FrontLaws.{into_more}
use Rattle.answers.specs.Form.NextExit.{exit_order, to_next_exit}
use Rattle.answers.specs.Form.AnswersLaws.{steps_before, at_stop, answers_of_run}
use Rattle.answers.specs.Writing.Listing.{stopped_listing, answered_listing, behind, ListStands, Listed, Turned}
use Rattle.answers.specs.declared.service.Listing.{Listing}
use Rattle.answers.specs.declared.service.ListAnswer.{ListAnswer}

-- nothing in front
pub behind_nothing : (w : Written) → w ≡ behind [] 0 w
behind_nothing w = rw add-zero refl

-- an answer behind what is kept is kept with it
regrouped : (a b : List ℕ) (t k : ℕ) (w : Written) → behind a t (steps_before k (an_answer b w)) ≡ behind (a ++ b) (t + k) w
regrouped a b t k w = let e : w.taken + k + t ≡ w.taken + (t + k) = omega arith in rw (append_assoc a b w.bytes, e) refl

module _ {program : List ℕ} {ds : List Definition} {q : Goal} {variables : List ℕ} {steps : ℕ} {before : List ℕ} {last : Listing} {here out : List ℕ}
    (g : ListStands program ds q variables steps before last here out) where
  abbrev M : Machine
  M = machine layers ds

  -- the event of the list and the program pass the door
  abbrev pub list_passed : BothPassed program (take last.length here)
  list_passed = record { definitions = ds; program_reads = g.program_reads; event = g.event; reads = g.reads }

  abbrev pub left : ℕ
  left = steps - last.taken

  abbrev pub ahead : RunEnd
  ahead = run M to_next_exit left g.event

  -- the room that is left
  abbrev room_left : ℕ
  room_left = length before - length g.kept

  -- the output behind what is kept
  pub written_inside : last.written ≤ length out
  written_inside = omega (arith, g.put.place, put_length g.put, g.room)

  abbrev at : ℕ
  at = last.written

  abbrev pub lent : List ℕ
  lent = take (length out - at) (drop at out)

  lent_length : length lent ≡ room_left
  lent_length = omega (arith, length-take (length out - at) (drop at out), length-drop at out, put_length g.put, g.put.place)

  -- what is written, by the run to the next exit
  pub list_ahead : answers M q steps (length before)
      ≡ behind g.kept last.taken (steps_before ahead.taken (at_stop M q ahead.why (left - ahead.taken) room_left ahead.event))
  list_ahead = g.rest ∙ ap (behind g.kept last.taken) (answers_of_run M q left room_left g.event last.taken g.reached)

  pub ahead_within : ahead.taken ≤ left
  ahead_within = run_within M to_next_exit left g.event

  -- the run by the order for the next exit is this one
  pub ran_exit : {o : RunOrder} {r : RunAnswer} {here' : List ℕ} → o ≡ exit_order → RanHere (run M (asked o []) left g.event) r here here' → RanHere ahead r here here'
  ran_exit i h = rw i at h

  -- nothing more is written, and the list ends with a number
  list_ends : (p : ListAnswer) (k n : ℕ) (out' : List ℕ)
      → answers M q steps (length before) ≡ behind g.kept last.taken (steps_before k (no_more n))
      → outcome_number p.outcome ≡ n → p.taken ≡ last.taken + k → p.written ≡ last.written → out' ≡ out → Listed (answers M q steps (length before)) before p out'
  list_ends p k n out' e a b c d = rw (e, d) (record {
    number_is = a;
    taken_is = b ∙ omega arith;
    put = rw (append-nil, c) g.put;
    room = rw append-nil g.room;
  })

  module _ {r : RunAnswer} {here' : List ℕ} (ran : RanHere ahead r here here') where
    pub taken_small : last.taken + r.taken ≤ steps
    taken_small = omega (arith, ran.tells.taken_is, ahead_within, g.within)

    -- the walk stops before the next exit
    listed_stop : met_case r.stop ≡ false → Listed (answers M q steps (length before)) before (stopped_listing last r) out
    unfolding at_stop stop_number
    listed_stop m = go ahead.why refl
      where
        p : ListAnswer
        p = stopped_listing last r

        whole : (n : ℕ) → at_stop M q ahead.why (left - ahead.taken) room_left ahead.event ≡ no_more n → n ≡ stop_number ahead.why
            → Listed (answers M q steps (length before)) before p out
        whole n e i =
            list_ends p ahead.taken n out (list_ahead ∙ ap (λ w. behind g.kept last.taken (steps_before ahead.taken w)) e) (ran.tells.number_is ∙ sym i) (ap (λ t. last.taken + t) ran.tells.taken_is) refl refl

        go : (s : Stop) → ahead.why ≡ s → Listed (answers M q steps (length before)) before p out
        go spent e = whole 0 (rw e refl) (rw e refl)
        go met e = never (rw (ran.tells.stop_is, e) at m)
        go full e = whole 0 (rw e refl) (rw e refl)
        go (by k) e = whole (question_number k) (rw e refl) (rw e refl)

    pub turned_stop : {p : ListAnswer} → p ≡ stopped_listing last r → met_case r.stop ≡ false → Turned program ds q variables steps before last (Break p) here' out
    turned_stop e m = rw e (listed_stop m)

    module _ (m : met_case r.stop ≡ true) where
      is_met : ahead.why ≡ met
      is_met = tells_met ran.tells m

      -- the answer at the exit, for the room that is left
      abbrev pub here_answer : Answer (List ℕ)
      here_answer = solution_into room_left (solution_for (query_variables q) (bets_of ahead.event))

      -- it is told for the tail of the output and the bets found there
      pub here_told : {s : List Bet} → s ≡ bets_of ahead.event → solution_into (length lent) (solution_for variables s) ≡ here_answer
      here_told e = rw (e, lent_length, g.variables_are) refl

      -- it is refused,
      list_refused : (k : Question) → here_answer ≡ refused k
          → answers M q steps (length before) ≡ behind g.kept last.taken (steps_before ahead.taken (no_more (question_number k)))
      unfolding at_stop from_event settled through
      list_refused k e = list_ahead ∙ rw (is_met, e) refl

      -- or its bytes are written
      list_given : (b : List ℕ) → here_answer ≡ gives b
          → answers M q steps (length before)
          ≡ behind g.kept last.taken (steps_before ahead.taken (an_answer b (answers_from M q (left - ahead.taken) (room_left - length b) ahead.event)))
      unfolding at_stop from_event settled through
      list_given b e = list_ahead ∙ rw (is_met, e) refl

      -- the answer, put to the tail of the output behind what is kept
      module _ {a : Answer (List ℕ)} (is : a ≡ here_answer) (answer : Result ℕ Refusal) {tail : List ℕ}
          (w : Receipted (λ b. b) a lent (receipt_of answer) tail) where
        abbrev pub after : List ℕ
        after = take at out ++ (tail ++ drop (length out - at) (drop at out))

        unwritten : tail ≡ lent → after ≡ out
        unwritten e = rw e ((put_tail {before = out} {at = at} (put_none {before = lent} {at = 0})).output ∙ patched_nil out at)

        given_put : (b : List ℕ) → a ≡ gives b → length b ≤ room_left → Put before 0 (g.kept ++ b) after (at + length b)
        unfolding answer_length
        given_put b e n = put_then g.put (put_tail (reply_put (λ b. b) lent b (omega (arith, lent_length)) (rw e at w.output_is)))

        -- its bytes are inside the output
        pub answer_inside : at + (receipt_of answer).length ≤ length out
        unfolding answer_length
        answer_inside = go a refl
          where
            go : (x : Answer (List ℕ)) → a ≡ x → at + (receipt_of answer).length ≤ length out
            go (refused z) e = let none : (receipt_of answer).length ≡ 0 = rw e at w.length_is in omega (arith, none, written_inside)
            go (gives b) e =
                let size : (receipt_of answer).length ≡ length b = rw e at w.length_is in
                let fits = (into_more room_left 0 (solution_for (query_variables q) (bets_of ahead.event)) b (sym is ∙ e)).1 in
                omega (arith, size, fits, g.put.place, put_length g.put, g.room)

        -- the list goes on behind it,
        answered_on : {n : ℕ} → answer ≡ Ok n → (b : List ℕ) → a ≡ gives b → Turned program ds q variables steps before last (answered_listing last r (Ok n)) here' after
        unfolding answer_number answer_length reply_with
        answered_on {n} o b e =
            let size : n ≡ length b = rw (o, e) at w.length_is in
            let fits = (into_more room_left 0 (solution_for (query_variables q) (bets_of ahead.event)) b (sym is ∙ e)).1 in
            let p : Listing = record { written = at + n; taken = last.taken + r.taken; length = r.length } in
            let steps_is : p.taken ≡ last.taken + ahead.taken = ap (λ t. last.taken + t) ran.tells.taken_is in
            let fewer : left - ahead.taken ≡ steps - p.taken = omega (arith, steps_is) in
            let smaller : room_left - length b ≡ length before - length (g.kept ++ b) = omega (arith, length-append g.kept b) in
            let stands : ListStands program ds q variables steps before p here' after = record {
              program_reads = g.program_reads;
              variables_are = g.variables_are;
              variables_few = g.variables_few;
              variables_small = g.variables_small;
              event = ahead.event;
              reached = rw steps_is (run_reached M (all_of q) to_next_exit refl left last.taken g.event g.reached);
              reads = ran.reads;
              inside = ran.inside;
              within = taken_small;
              kept = g.kept ++ b;
              put = rw size (given_put b e fits);
              room = omega (arith, length-append g.kept b, g.room);
              rest = list_given b (sym is ∙ e) ∙ regrouped g.kept b last.taken ahead.taken _ ∙ rw (fewer, smaller, ← steps_is) refl;
            } in
            (stands, omega (arith, steps_is, run_met_steps M to_next_exit left g.event is_met))

        -- or ends with it
        answered_last : {f : Refusal} → answer ≡ Err f → (z : Question) → a ≡ refused z → Turned program ds q variables steps before last (answered_listing last r (Err f)) here' after
        unfolding answer_number answer_length reply_with
        answered_last {f} o z e =
            let number : refusal_number f ≡ question_number z = rw (o, e) at w.number_is in
            let p : ListAnswer = record { outcome = Err f; written = at; taken = last.taken + r.taken } in
            list_ends p ahead.taken (question_number z) after (list_refused z (sym is ∙ e)) number (ap (λ t. last.taken + t) ran.tells.taken_is) refl (unwritten (rw e at w.output_is))

        -- a number other than 0 is a refusal's
        answered : Turned program ds q variables steps before last (answered_listing last r answer) here' after
        unfolding answer_number
        answered = go answer refl a refl
          where
            go : (o : Result ℕ Refusal) → answer ≡ o → (x : Answer (List ℕ)) → a ≡ x → Turned program ds q variables steps before last (answered_listing last r o) here' after
            go (Ok n) i (gives b) e = answered_on i b e
            go (Err f) i (refused z) e = answered_last i z e
            go (Ok n) i (refused z) e = absurd (number_positive z (sym (rw (i, e) at w.number_is)))
            go (Err f) i (gives b) e = absurd (refusal_positive f (rw (i, e) at w.number_is))

        pub turned : {p : ControlFlow ListAnswer Listing} → p ≡ answered_listing last r answer → Turned program ds q variables steps before last p here' after
        turned e = rw e answered
