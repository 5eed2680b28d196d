-- What a page gives of a text: the stop line alone, the first line, the lines of a run's log, and what is left where the records are refused or accepted.
use Rattle.std.specs.Prelude.{◌≡◌, true, false, List, [], ◌++◌, ℕ, suc, ◌+◌, ◌-◌, ◌*◌, ◌/◌, ◌≤◌, ◌<◌, min, take, Result, Err}
use Rattle.std.proofs.Math.Path.{refl}
use Rattle.std.proofs.Common.{sym, ap, ◌∙◌, subst, append-nil, append_assoc, zero-add, add-one, length-take, take_all}
use Rattle.std.proofs.Math.Option.{some, some-injective}
use Rattle.std.proofs.Math.Decide.{dec_le}
use native.Mathlib.Omega.{arith}
use Rattle.std.proofs.Math.ListN.{length}
use Rattle.records.specs.Format.Never.{never}
use Rattle.records.specs.Format.Syntax.{Goal, Event, Definition}
use Rattle.records.specs.Gate.Question.{question_number, refusal_number}
use Rattle.records.specs.Gate.Gate.{tree, read_program, read_event}
use Rattle.records.specs.declared.questions.Refusal.{Refusal}
use Rattle.records.specs.Writing.Patched.{Put}
use Rattle.records.specs.Writing.PatchedLaws.{part_patched, length_patched, put_none, put_then, put_length}
use Rattle.records.specs.Gate.Reply.{through, answer_number, outcome_number, reply_with, Replied}
use Rattle.records.specs.Gate.ReplyLaws.{number_refuses}
use Rattle.records.specs.Gate.Door.{program_door, door, BothPassed}
use Rattle.records.specs.Gate.DoorLaws.{door_both}
use Rattle.stepper.specs.Rules.Machine.{Machine, StepOutcome, refused, gives}
use Rattle.stepper.specs.Rules.Rules.{first_event}
use Rattle.stepper.specs.Services.Services.{machine, first_answer, first_record}
use Rattle.stepper.specs.Services.Desk.{layers}
use Rattle.stepper.specs.Run.Run.{spent, met, full, by, RunEnd, run, stop_number}
use Rattle.stepper.specs.Run.RunLoop.{asked, stop_case, run_outcome, log_numbers, RanTo}
use Rattle.stepper.specs.Run.Run.{Order, Stop}
use Rattle.stepper.specs.Run.RunLaws.{StopTold, run_log_length, run_told, run_within, run_log_within}
use Rattle.stepper.specs.Run.RunLoopLaws.{numbers_length}
use Rattle.stepper.specs.declared.run.RunAnswer.{RunAnswer}
use Rattle.stepper.specs.declared.run.RunStop.{RunStop}
use Rattle.stepper.specs.declared.run.RunStop.TheVariants.{Spent, Met, Full, Refused}
use Rattle.walk_text.specs.Line.{line_bytes, mark_lines, log_lines, stop_bytes}
use Rattle.walk_text.specs.LineLaws.{lines_told}
use Rattle.walk_text.specs.Text.{step_limit, after_line, rest_of_text, text_from, text}
use Rattle.walk_text.specs.TextLaws.{after_stop, text_of_run, Begun}
use Rattle.walk_text.specs.Rest.{done, present, steps_made, lines_left, left_text, pages_left, PageOf, PageOrRefusal, Paged, walk_order, full_case, first_line}
use Rattle.walk_text.specs.declared.text.Stand.{Stand}
use Rattle.walk_text.specs.declared.text.Rest.{Rest}
use Rattle.walk_text.specs.declared.text.Rest.TheVariants.{Start, Walking, Done}
use Rattle.walk_text.specs.declared.text.Page.{Page}

-- the bytes that a page gives are those it has
pub page_bytes : {program query whole before after : List ℕ} {most : ℕ} {r : Page} (g : PageOf program query whole most before 0 r after)
    → take r.used after ≡ g.bytes
page_bytes {before = before} {after} {r = r} g =
    let n : r.used ≡ length g.bytes = g.put.place ∙ zero-add (length g.bytes) in
    rw (n, g.put.output) (part_patched before 0 g.bytes (omega (arith, n, g.inside, put_length g.put)))

-- a page with the rest of the text on it
pub gives_last : {program query whole before after : List ℕ} {at used : ℕ} (most : ℕ) → Put before at whole after used → used ≤ length after
    → PageOf program query whole most before at (record { used = used; rest = Done }) after
unfolding left_text
gives_last {whole = whole} most put h = record { bytes = whole; put = put; inside = h; text_is = sym (append-nil whole); fewer = λ p. p }

-- what is left of a walk, under an accepted program, from an accepted event on
walk_left : {program : List ℕ} (stand : Stand) (w : BothPassed program (present stand)) → lines_left program stand ≡ rest_of_text (machine layers w.definitions) (steps_made stand) w.event
unfolding lines_left through
walk_left {program} stand w = rw (door_both (read_program program) (read_event (present stand)) w.program_reads w.reads)

-- more than all of a list is all of it
take_least : (n : ℕ) (l : List ℕ) → length l ≡ 32768 → take (min n 32768) l ≡ take n l
take_least n l h = go (dec_le n 32768)
  where
    go : Dec (n ≤ 32768) → take (min n 32768) l ≡ take n l
    go (yes k) = let e : min n 32768 ≡ n = omega arith in rw e refl
    go (no k) = let e : min n 32768 ≡ 32768 = omega arith in let a : length l ≤ n = omega arith in let b : length l ≤ 32768 = omega arith in rw (e, take_all n l a, take_all 32768 l b) refl

is_filled : (s : Stop) → full_case (stop_case s) ≡ true → s ≡ full
is_filled spent h = never (sym h)
is_filled met h = never (sym h)
is_filled full h = refl
is_filled (by q) h = never (sym h)

pub not_full : (s : RunStop) → (s ≡ Full → ⊥) → full_case s ≡ false
not_full Spent h = refl
not_full Met h = refl
not_full Full h = absurd (h refl)
not_full (Refused r) h = refl

not_filled : (M : Machine) (s : Stop) → full_case (stop_case s) ≡ false → (n at : ℕ) (e : Event) → after_stop M s n at e ≡ stop_bytes (stop_number s)
unfolding after_stop
not_filled M spent h n at e = refl
not_filled M met h n at e = refl
not_filled M full h n at e = never h
not_filled M (by q) h n at e = refl

-- the page of a run that was lent a log of 960 marks
module _ {program s : List ℕ} (w : BothPassed program s) (first : ℕ) (limit : first ≤ step_limit) {log log' out out' : List ℕ} {r : RunAnswer} (size : length log ≡ 2880)
    (ran : RanTo (run (machine layers w.definitions) (asked walk_order log) (step_limit - first) w.event) true log out r log' out') where
  abbrev M : Machine
  M = machine layers w.definitions

  abbrev o : Order
  o = asked walk_order log

  abbrev end : RunEnd
  end = run M o (step_limit - first) w.event

  room : o.room ≡ some 960
  room = let e : length log / 3 ≡ 960 = omega arith in ap some e

  pub taken_few : (r.taken ≤ 960) × (first + r.taken ≤ step_limit)
  taken_few = (
    omega (arith, ran.tells.taken_is, run_log_within M o (step_limit - first) w.event room),
    omega (arith, ran.tells.taken_is, run_within M o (step_limit - first) w.event),
  )

  numbers : length (log_numbers end.log) ≡ 3 * r.taken
  numbers = omega (arith, numbers_length end.log, run_log_length M o (step_limit - first) w.event, ran.tells.taken_is)

  pub log_inside : 3 * r.taken ≤ length log'
  log_inside = omega (arith, taken_few.0, ap length ran.log_is, length_patched log 0 (log_numbers end.log), size)

  -- its lines fit a page, and so does the stop line behind them
  pub lines_room : (page : List ℕ) {at : ℕ} → length page ≡ 65536 → at ≤ 11
      → (first + 1 + length (take (3 * r.taken) log') < 4294967296) × (3 * at + 68 * length (take (3 * r.taken) log') ≤ 3 * length page)
  lines_room page h k = let few = taken_few in let n = length-take (3 * r.taken) log' in (omega arith, omega arith)

  pub lines_fit : {before after : List ℕ} {at used : ℕ} → length before ≡ 65536 → at ≤ 11 → Put before at (log_lines (first + 1) (take (3 * r.taken) log')) after used
      → 3 * used ≤ 3 * at + 68 * length (take (3 * r.taken) log') → used + 26 ≤ length after
  lines_fit h few_before p k = omega (arith, put_length p, length-take (3 * r.taken) log', taken_few.0)

  -- its lines are the log's
  lines : log_lines (first + 1) (take (3 * r.taken) log') ≡ mark_lines (suc first) end.log
  lines =
      let fits : 0 + length (log_numbers end.log) ≤ length log = omega (arith, numbers, taken_few.0) in
      let printed : take (3 * r.taken) log' ≡ log_numbers end.log = rw (← numbers, ran.log_is) (part_patched log 0 (log_numbers end.log) fits) in
      rw (printed, add-one first) (lines_told (suc first) end.log)

  text_is : rest_of_text M first w.event
      ≡ log_lines (first + 1) (take (3 * r.taken) log') ++ after_stop M end.why (step_limit - first - end.taken) (first + end.taken) end.event
  text_is = text_of_run M o refl refl (step_limit - first) first w.event ∙ rw (← lines) refl

  abbrev Next : (query : List ℕ) → Page → List ℕ → ℕ → List ℕ → Type 0
  Next query page before at after = PageOf program query (rest_of_text M first w.event) (suc (step_limit - first)) before at page after

  -- the log is full, and the walk goes on
  pub page_goes : {query before after : List ℕ} {at used : ℕ} → full_case r.stop ≡ true → Put before at (log_lines (first + 1) (take (3 * r.taken) log')) after used → used ≤ length after
      → length out' ≡ 32768 → Next query (record { used = used; rest = Walking (record { step = first + r.taken; length = r.length; event = out' }) }) before at after
  unfolding left_text after_stop
  page_goes {used = used} f put inside whole =
      let stand : Stand = record { step = first + r.taken; length = r.length; event = out' } in
      let t = ran.tells.taken_is in
      let filled : end.why ≡ full = is_filled end.why (rw ran.tells.stop_is at f) in
      let all : end.taken ≡ 960 = some-injective _ _ (sym (subst (StopTold M o (step_limit - first) end) filled (run_told M o (step_limit - first) w.event)) ∙ room) in
      let on : BothPassed program (take (min r.length 32768) out') = record {
        definitions = w.definitions;
        program_reads = w.program_reads;
        event = end.event;
        reads = rw (take_least r.length out' whole) ran.reads;
      } in
      let made : steps_made stand ≡ first + end.taken = omega (arith, taken_few.1, t) in
      let left : step_limit - first - end.taken ≡ step_limit - (first + end.taken) = omega arith in
      let is : lines_left program stand ≡ after_line M (step_limit - first - end.taken) (first + end.taken) end.event = walk_left stand on ∙ rw (made, left) refl in
      record {
        bytes = log_lines (first + 1) (take (3 * r.taken) log');
        put = put;
        inside = inside;
        text_is = text_is ∙ rw (filled, is) refl;
        fewer = λ p. omega (arith, taken_few.1, t, all);
      }

  -- the walk ends, and the stop line is put behind its lines
  pub page_ends : {query before between after : List ℕ} {at used used' : ℕ} → full_case r.stop ≡ false → Put before at (log_lines (first + 1) (take (3 * r.taken) log')) between used
      → Put between used (stop_bytes (outcome_number (run_outcome r.stop))) after used' → used' ≤ length after
      → Next query (record { used = used'; rest = Done }) before at after
  page_ends f put stop inside =
      let e = not_filled M end.why (rw ran.tells.stop_is at f) (step_limit - first - end.taken) (first + end.taken) end.event in
      rw (text_is, e, ← ran.tells.number_is) (gives_last _ (put_then put stop) inside)

-- a refused program
pub program_text : (program query : List ℕ) {n : ℕ} → n ≡ answer_number (program_door (read_program program)) → (n ≡ 0 → ⊥) → text program query ≡ stop_bytes n
unfolding text through
program_text program query e z = let w = number_refuses (program_door (read_program program)) e z in rw w.refuses (ap stop_bytes (sym w.number_is))

-- a walk that goes on from a record that is refused
pub gate_text : (program : List ℕ) (stand : Stand) {n : ℕ} → n ≡ answer_number (door (read_program program) (read_event (present stand))) → (n ≡ 0 → ⊥)
    → lines_left program stand ≡ stop_bytes n
unfolding lines_left through
gate_text program stand is z =
    let w = number_refuses (door (read_program program) (read_event (present stand))) is z in
    rw w.refuses (ap stop_bytes (sym w.number_is))

-- a walk that goes on from a record that is accepted
pub gives_later : {program query before after : List ℕ} {page : Page} (stand : Stand) (w : BothPassed program (present stand))
    → PageOf program query (rest_of_text (machine layers w.definitions) (steps_made stand) w.event) (suc (step_limit - steps_made stand)) before 0 page after
    → PageOf program query (lines_left program stand) (suc (step_limit - steps_made stand)) before 0 page after
gives_later stand w g = rw (walk_left stand w) g

module _ (program query : List ℕ) (P : List Definition) (reads : read_program program ≡ tree P) where
  -- a refused query or first event
  pub first_text : {n : ℕ} (out : List ℕ) {after : List ℕ} → length out ≡ 32768 → Replied (first_record layers query out) n after → (n ≡ 0 → ⊥)
      → text program query ≡ stop_bytes n
  unfolding text through program_door first_record reply_with
  first_text {n} out room r z = go (first_answer layers query 32768) refl
    where
      go : (a : StepOutcome) → first_answer layers query 32768 ≡ a → text program query ≡ stop_bytes n
      go (refused q) x = let k : n ≡ question_number q = r.number_is ∙ rw (room, x) refl in rw (reads, x, k) refl
      go (gives c) x = absurd (z (r.number_is ∙ rw (room, x) refl))

  -- the walk from a first event
  pub start_text : (c : Event) → first_answer layers query 32768 ≡ gives c → text program query ≡ text_from (machine layers P) 0 c
  unfolding text through program_door
  start_text c x = rw (reads, x)

-- a walk whose first line is put
line_first : (g : Goal) → line_bytes 0 (first_event g) ≡ first_line
unfolding line_bytes first_event
line_first g = refl

pub page_starts : {program query before between event after : List ℕ} {used : ℕ} {page : Page} (P : List Definition) (reads : read_program program ≡ tree P) (b : Begun query 32768 event)
    → Put before 0 first_line between used
    → PageOf program query (rest_of_text (machine layers P) 0 (first_event b.goal)) (suc step_limit) between used page after
    → PageOf program query (text program query) (suc step_limit) before 0 page after
page_starts {program} {query} P reads b put g = record {
  bytes = first_line ++ g.bytes;
  put = put_then put g.put;
  inside = g.inside;
  text_is = start_text program query P reads (first_event b.goal) b.answers ∙ rw (line_first b.goal, g.text_is, append_assoc) refl;
  fewer = g.fewer;
}

-- the page of the stop line, where the records are refused
pub page_stops : {program query whole before between after : List ℕ} {most : ℕ} {r : Result Page Refusal} {e : Refusal} {page : Page}
    → PageOrRefusal program query whole most before r between → r ≡ Err e → PageOf program query (stop_bytes (refusal_number e)) most between 0 page after
    → PageOf program query whole most before 0 page after
page_stops g is stop = let told = rw is at g in rw (told.0, ← told.1) stop

-- what is left, by the case
module _ {program query before after : List ℕ} {page : Page} where
  pub paged_start : PageOf program query (text program query) (suc step_limit) before 0 page after → Paged program query Start before page after
  unfolding left_text
  paged_start g = g

  pub paged_walking : (stand : Stand) → PageOf program query (lines_left program stand) (suc (step_limit - steps_made stand)) before 0 page after
      → Paged program query (Walking stand) before page after
  unfolding left_text lines_left
  paged_walking stand g = g

pub paged_done : {program query before : List ℕ} → Paged program query Done before (record { used = 0; rest = Done }) before
paged_done = record { bytes = []; put = put_none; inside = omega arith; text_is = refl; fewer = λ h. h }

-- where something is left, so are pages; where nothing is, no text
pub pages_more : (rest : Rest) → done rest ≡ false → 0 < pages_left rest
pages_more Start h = omega arith
pages_more (Walking s) h = omega arith
pages_more Done h = never h

pub nothing_left : (program query : List ℕ) (rest : Rest) → done rest ≡ true → left_text program query rest ≡ []
unfolding left_text
nothing_left program query Start h = never (sym h)
nothing_left program query (Walking s) h = never (sym h)
nothing_left program query Done h = refl
