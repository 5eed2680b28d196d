-- Laws of the text: what follows an event's line is the lines of a run's log, and then the stop line or what follows the event reached; and how a walk
-- starts, from the first event, whose record has five bytes more than the query's.
use Rattle.std.specs.Prelude.{◌≡◌, false, List, ◌++◌, length, take, drop}
use Rattle.std.proofs.Math.Path.{refl}
use Rattle.std.proofs.Common.{sym, ap, ◌∙◌, append_assoc, length-append, take_at}
use Rattle.std.proofs.Math.Option.{none}
use Prim.Native.Nat.{ℕ, zero, suc, ◌+◌, ◌-◌, ◌≤◌}
use Rattle.std.proofs.Math.Nat.{add-zero}
use native.Mathlib.Omega.{arith}
use Rattle.records.specs.Format.Never.{never}
use Rattle.records.specs.Format.Syntax.{Goal, Event, Definition}
use Rattle.records.specs.Format.Encode.{goal_bytes, event_bytes, record_of, event_record}
use Rattle.records.specs.Format.HeadLaws.{Known, bytes_all}
use Rattle.records.specs.Gate.Question.{Question, question_number}
use Rattle.records.specs.Gate.Gate.{tree, read_program, read_query, read_event}
use Rattle.records.specs.Gate.GateLaws.{query_tree}
use Rattle.records.specs.Writing.EmittedLaws.{length_record_of}
use Rattle.stepper.specs.Rules.Machine.{Machine, refused, gives}
use Rattle.stepper.specs.Rules.Rules.{step, step_forward, fitting, first_event}
use Rattle.stepper.specs.Rules.AnswerLaws.{fitting_put}
use Rattle.records.specs.Gate.ReplyLaws.{reply_gives}
use Rattle.records.specs.Gate.Door.{event_door, with_room}
use Rattle.records.specs.Gate.DoorLaws.{room_gives}
use Rattle.stepper.specs.Walks.Walk.{forward}
use Rattle.stepper.specs.Services.Services.{Start, record_limit, reply, first_answer, first_record}
use Rattle.stepper.specs.Services.ServiceLaws.{Recordable, limit_fits, done_reads, start_record}
use Rattle.stepper.specs.Services.Desk.{layers}
use Rattle.stepper.specs.Services.DeskLaws.{lawful}
use Rattle.records.specs.Gate.Reply.{through, reply_with, Replied, answer_length}
use Rattle.stepper.specs.Step.Stepped.{BothPassed}
use Rattle.stepper.specs.Run.Run.{mark, meets, Order, Stop, spent, met, full, by, RunEnd, past, run, stop_number}
use Rattle.stepper.specs.Run.RunLaws.{Course, no_count, no_room, no_step, last_step, one_step, course}
use Rattle.walk_text.specs.Line.{mark_line, line_bytes, mark_lines, stop_bytes}
use Rattle.walk_text.specs.Text.{after_line}

line_marked : (at : ℕ) (e : Event) → line_bytes at e ≡ mark_line at (mark e)
unfolding line_bytes
line_marked at e = refl

module _ (M : Machine) where
  -- what is printed behind the lines of a run's log, where the run stopped so, with n steps to go from e on: a full log alone lets the walk go on
  unfoldable pub after_stop : Stop → (n step : ℕ) → Event → List ℕ
  unfolding stop_number
  after_stop spent n step e = stop_bytes (stop_number spent)
  after_stop met n step e = stop_bytes (stop_number met)
  after_stop full n step e = after_line M n step e
  after_stop (by q) n step e = stop_bytes (stop_number (by q))

  -- what follows an event's line: after the last step, after a refused step, and after an accepted one
  module _ (at : ℕ) (e : Event) where
    after_last : after_line M zero at e ≡ stop_bytes 0
    unfolding after_line
    after_last = refl

    after_refused : (n : ℕ) (q : Question) → step_forward M e ≡ refused q → after_line M (suc n) at e ≡ stop_bytes (question_number q)
    unfolding after_line
    after_refused n q h = rw h

    after_given : (n : ℕ) (c : Event) → step_forward M e ≡ gives c → after_line M (suc n) at e ≡ line_bytes (suc at) c ++ after_line M n (suc at) c
    unfolding after_line
    after_given n c h = rw h

  text_goes : {o : Order} {n : ℕ} {e : Event} {r : RunEnd} → Course M o n e r → o.direction ≡ forward → o.aim ≡ none → (at : ℕ)
      → after_line M n at e ≡ mark_lines (suc at) r.log ++ after_stop r.why (n - r.taken) (at + r.taken) r.event
  unfolding after_stop mark_lines past step meets stop_number
  text_goes (no_count {e = e}) d a at = after_last at e
  text_goes (no_room {n = n} {e = e} f) d a at = let m : suc n - 0 ≡ suc n = omega arith in rw (m, add-zero at) refl
  text_goes (no_step {n = n} {e = e} q f h) d a at = after_refused at e n q (rw d at h)
  text_goes (last_step c f h m) d a at = never (sym (rw a at m))
  text_goes (one_step {n = n} {e = e} {r = r} c f h m k) d a at =
      let x : suc n - suc r.taken ≡ n - r.taken = omega arith in
      let y : at + suc r.taken ≡ suc at + r.taken = omega arith in
      after_given at e n c (rw d at h) ∙ rw (line_marked (suc at) c, text_goes k d a (suc at), x, y, append_assoc) refl

  -- the text after an event's line
  pub text_of_run : (o : Order) → o.direction ≡ forward → o.aim ≡ none → (n at : ℕ) (e : Event)
      → after_line M n at e ≡ mark_lines (suc at) (run M o n e).log ++ after_stop (run M o n e).why (n - (run M o n e).taken) (at + (run M o n e).taken) (run M o n e).event
  text_of_run o d a n at e = text_goes (course M o n e) d a at

-- the first bytes of an output read as the first event of a query
pub record Begun (query : List ℕ) (room : ℕ) (after : List ℕ) : Type 0 where
  pub goal : Goal
  pub answers : first_answer layers query room ≡ gives (first_event goal)
  pub query_reads : read_query query ≡ tree goal
  pub reads : read_event (take (length query + 5) after) ≡ tree (first_event goal)
  pub inside : length query + 5 ≤ length after

-- a number that is 0 says that the answer is the first event
pub first_given : (query out : List ℕ) (g : Goal) → read_query query ≡ tree g → (first_record layers query out).number ≡ 0
    → first_answer layers query (length out) ≡ gives (first_event g)
unfolding first_record first_answer through event_door
first_given query out g r z =
    let e = first_event g in
    let n = length out in
    let answer : first_answer layers query n ≡ with_room n (fitting false (record_limit e) (gives e)) = rw r in
    let given = reply_gives event_record out (first_answer layers query n) z in
    let same = fitting_put (record_limit e) (gives e) given.0 (room_gives n _ (sym answer ∙ given.1)).1 in
    given.1 ∙ sym same.1

-- and that it was written
first_written : (query out : List ℕ) (g : Goal) → read_query query ≡ tree g → (first_record layers query out).number ≡ 0
    → (first_record layers query out).output ≡ event_record (first_event g) ++ drop (length (event_record (first_event g))) out
unfolding first_record reply_with
first_written query out g r z = ap (λ a. (reply out a).output) (first_given query out g r z)

first_length : (query : List ℕ) (g : Goal) → query ≡ record_of (goal_bytes g) → length (event_record (first_event g)) ≡ length query + 5
unfolding first_event
first_length query g e = rw (e, length_record_of (goal_bytes g), length_record_of (event_bytes (first_event g))) (simp length-append (omega arith))

pub begun : (query out : List ℕ) {question_number : ℕ} {after : List ℕ} → Known query → Replied (first_record layers query out) question_number after → question_number ≡ 0 → Begun query (length out) after
begun query out known r z =
    let done : (first_record layers query out).number ≡ 0 = sym r.number_is ∙ z in
    let goal = done_reads layers query out done in
    let start : Start layers = record { query = query; bytes = bytes_all query known; buffer = out; goal = goal.0; reads = goal.1; done = done } in
    let e = first_event goal.0 in
    let fits : Recordable e = (start_record layers lawful start).1 in
    let size : length (event_record e) ≡ length query + 5 = first_length query goal.0 (query_tree query (bytes_all query known) goal.0 goal.1).laid in
    let is = r.output_is ∙ first_written query out goal.0 goal.1 done in
    record {
      goal = goal.0;
      answers = first_given query out goal.0 goal.1 done;
      query_reads = goal.1;
      reads = rw (is, take_at (event_record e) (drop (length (event_record e)) out) (length query + 5) size) (lawful.event_back e fits.0 (limit_fits e fits.1));
      inside = rw (is, length-append) (omega arith);
    }

-- the length that is told of the first event's record
pub begun_length : {query after : List ℕ} {room n : ℕ} → Known query → (b : Begun query room after) → n ≡ answer_length event_record (first_answer layers query room)
    → n ≡ length query + 5
unfolding answer_length
begun_length {query} known b is = is ∙ rw b.answers (first_length query b.goal (query_tree query (bytes_all query known) b.goal b.query_reads).laid)

-- under an accepted program the walk can go on from there
abbrev pub begun_passed : {program query here : List ℕ} {room : ℕ} (P : List Definition) → read_program program ≡ tree P → Begun query room here
    → BothPassed program (take (length query + 5) here)
begun_passed P h b = record { definitions = P; program_reads = h; event = first_event b.goal; reads = b.reads }
