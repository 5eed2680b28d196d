-- What a planner may rely on in a list of answers (SPECIFICATION 9.10), of the service on bytes. `reply n out` is what the service replies for a program's
-- and a query's record, n steps and the output `out`, and `kept_answers` are the bytes of the answers that it keeps. `begin_answer` is the door; where it gives
-- trees, q is the query's goal and M has the program's rules. `events M n e` is the walk of n steps behind the event e, `answer_exits q` has the bets of
-- its exits of q whose only ancestor is 1/q,fail, and `failed q` is the fail of 'q, fail'. `AnswersExample` has lists.
use Rattle.std.specs.Prelude.{◌≡◌, List, [], ◌↔◌, ℕ, ◌-◌, ◌+◌, ◌≤◌, ◌<◌}
use Rattle.std.proofs.Math.Path.{refl, sym, ap}
use Rattle.std.proofs.Common.{◌∙◌}
use native.Mathlib.Omega.{arith}
use Rattle.std.proofs.Math.ListN.{length}
use Rattle.records.specs.Format.Formed.{All}
use Rattle.records.specs.Format.Syntax.{Goal, Bet, Event, Definition}
use Rattle.records.specs.Gate.Door.{Trees}
use Rattle.records.specs.Gate.Gate.{tree, read_program, read_query, read_event}
use Rattle.records.specs.Gate.Question.{possible, question_number}
use Rattle.records.specs.Gate.RecordRules.{bound}
use Rattle.records.specs.Gate.Reply.{Answer, refused, gives}
use Rattle.records.specs.Gate.ReplyLaws.{number_injective}
use Rattle.terms.specs.Values.ValueService.{bets_of}
use Rattle.stepper.specs.Rules.Machine.{Machine}
use Rattle.stepper.specs.Rules.Rules.{first_event}
use Rattle.stepper.specs.Services.Desk.{layers}
use Rattle.stepper.specs.Services.Services.{machine}
use Rattle.stepper.specs.Walks.Reached.{Reached}
use Rattle.answers.specs.Form.Answer.{query_variables, QuerySolution, solution}
use Rattle.answers.specs.Form.Answers.{all_of, events, answers_from, answers}
use Rattle.answers.specs.Form.Service.{begin_answer, AnswersReply, answers_record}
use Rattle.answers.specs.Form.Continued.{continued, own_exits, answer_exits}
use Rattle.answers.specs.Form.Told.{ToldAnswers}
use Rattle.answers.specs.Form.AnswerLaws.{ValueServed, solution_variables, solution_values}
use Rattle.answers.specs.Form.FrontLaws.{Front, front_same, front_front, whole_answers, front_steps, front_room, whole_list}
use Rattle.answers.specs.Form.EndLaws.{failed, record_limits, six_iff}
use Rattle.answers.specs.Form.ContinuedLaws.{same_exits}
use Rattle.answers.specs.Form.ToldLaws.{told, walk_six}
use Rattle.answers.specs.Form.ServiceLaws.{begin_more, begin_never_six, kept_answers, kept_nothing, kept_bytes, reply_number_is, reply_taken_is}

module _ (program query : List ℕ) where
  abbrev pub reply : ℕ → List ℕ → AnswersReply
  reply n out = answers_record layers n program query out

  abbrev pub opened : List ℕ → Answer (Trees (List Definition) Goal)
  opened out = begin_answer (read_program program) (read_query query) (length out)

  -- What is kept are whole answers.
  pub kept_are_answers : (n : ℕ) (out : List ℕ) → Front [] (kept_answers (reply n out))
  kept_are_answers n out = go (opened out) refl
    where
      go : (a : Answer (Trees (List Definition) Goal)) → opened out ≡ a → Front [] (kept_answers (reply n out))
      go (refused x) i = rw (kept_nothing n program query out i).0 (front_same [])
      go (gives t) i = rw (kept_bytes n program query out i) (whole_answers (machine layers t.program) t.event n (length out) _)

  -- Under fewer steps, or in a shorter output, they are a front of those under more: behind them come other answers, or none.
  pub fewer_are_front : (n m : ℕ) (out wider : List ℕ) → n ≤ m → length out ≤ length wider → Front (kept_answers (reply n out)) (kept_answers (reply m wider))
  fewer_are_front n m out wider h k = go (opened out) refl
    where
      go : (a : Answer (Trees (List Definition) Goal)) → opened out ≡ a → Front (kept_answers (reply n out)) (kept_answers (reply m wider))
      go (refused x) i = rw (kept_nothing n program query out i).0 (kept_are_answers m wider)
      go (gives t) i =
          let M = machine layers t.program in
          let e = first_event (all_of t.event) in
          let j = begin_more _ _ (length out) (length wider) i k in
          let steps = front_steps M t.event n (m - n) (length out) e in
          let room = front_room M t.event (n + (m - n)) (length out) (length wider - length out) e in
          let x : n + (m - n) ≡ m = omega arith in
          let y : length out + (length wider - length out) ≡ length wider = omega arith in
          rw (kept_bytes n program query out i, kept_bytes m program query wider j) (rw (x, y) at (front_front steps room))

  -- The number 6 is said only of records that pass the door.
  pub six_passes : (n : ℕ) (out : List ℕ) → (reply n out).number ≡ 6 → (t : Trees (List Definition) Goal) × (opened out ≡ gives t)
  unfolding question_number
  six_passes n out h = go (opened out) refl
    where
      go : (a : Answer (Trees (List Definition) Goal)) → opened out ≡ a → (t : Trees (List Definition) Goal) × (opened out ≡ gives t)
      go (refused x) i = absurd (begin_never_six _ _ _ (i ∙ ap refused (number_injective x possible (sym (kept_nothing n program query out i).1 ∙ h))))
      go (gives t) i = (t, i)

  module _ (n : ℕ) (out : List ℕ) (t : Trees (List Definition) Goal) (passes : opened out ≡ gives t) where
    abbrev pub M : Machine
    M = machine layers t.program

    abbrev pub q : Goal
    q = t.event

    -- It is said exactly where the walk of 'Q, fail' ended in fail: the walk stands there after the steps made, and one more was allowed.
    pub six_is_fail : ((reply n out).number ≡ 6) ↔ (((reply n out).taken < n) × Reached M (all_of q) (reply n out).taken (failed q))
    six_is_fail = rw (reply_number_is n program query out passes, reply_taken_is n program query out passes) (six_iff M record_limits q n (length out))

    -- Then no larger step count and no larger output gives another answer.
    pub six_is_whole : (reply n out).number ≡ 6 → (m : ℕ) (wider : List ℕ) → n ≤ m → length out ≤ length wider
        → (kept_answers (reply m wider) ≡ kept_answers (reply n out)) × ((reply m wider).number ≡ 6) × ((reply m wider).taken ≡ (reply n out).taken)
    unfolding question_number
    six_is_whole h m wider k l =
        let j = begin_more _ _ (length out) (length wider) passes l in
        let same = whole_list M q n (m - n) (length out) (length wider - length out) (first_event (all_of q)) (sym (reply_number_is n program query out passes) ∙ h) in
        let x : n + (m - n) ≡ m = omega arith in
        let y : length out + (length wider - length out) ≡ length wider = omega arith in
        let z : answers M q m (length wider) ≡ answers M q n (length out) = rw (x, y) at same in (
          kept_bytes m program query wider j ∙ ap (λ w. w.bytes) z ∙ sym (kept_bytes n program query out passes),
          reply_number_is m program query wider j ∙ ap (λ w. w.number) z ∙ sym (reply_number_is n program query out passes) ∙ h,
          reply_taken_is m program query wider j ∙ ap (λ w. w.taken) z ∙ sym (reply_taken_is n program query out passes),
        )

    -- The answers kept are told at the exits of the walk, in their order from the first on, and at all of them unless the number is 8 or 10.
    pub told_at_exits : ToldAnswers q (events M n (first_event (all_of q))) (record { bytes = kept_answers (reply n out); taken = (reply n out).taken; number = (reply n out).number })
    unfolding answers_from
    told_at_exits =
        rw (kept_bytes n program query out passes, reply_taken_is n program query out passes, reply_number_is n program query out passes)
        (told q _ (length out) (events M n (first_event (all_of q))))

    -- Those exits have the bets of the exits of Q's own walk, continued by redo at each, in the same order; and where the number is 6, Q's own walk so
    -- continued has no other exit, however far it goes on.
    pub exits_by_redo : (m : ℕ) × (answer_exits q (events M n (first_event (all_of q))) ≡ own_exits (continued M m (first_event q)))
        × ((reply n out).number ≡ 6 → (k : ℕ) → own_exits (continued M (m + k) (first_event q)) ≡ own_exits (continued M m (first_event q)))
    unfolding question_number answers_from
    exits_by_redo =
        let (m, same, ended) = same_exits t.program q n in
        (m, same, λ h. ended (walk_six q _ (length out) (events M n (first_event (all_of q))) (sym (reply_number_is n program query out passes) ∙ h)))

    -- An answer has the variables of Q by rising number, each once, and the values that the value service gives at its exit.
    pub variables_are_those_of_query : (s : List Bet) (x : QuerySolution) → solution q s ≡ gives x → bound x.values ≡ query_variables q
    variables_are_those_of_query s x h = solution_variables q s x h

    pub values_are_served : (s : List Bet) (x : QuerySolution) → solution q s ≡ gives x
        → (r : List ℕ) (e : Event) → read_event r ≡ tree e → bets_of e ≡ s → (room : ℕ) → 32768 ≤ room → All (ValueServed r room) x.values
    values_are_served s x h = solution_values q s x h
