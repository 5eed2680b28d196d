-- Laws of the loop of a run: a turn takes the run that is held to the run of one step more, and the loop's end is the run of all steps, or of any
-- number from there on where it was stopped.
use Rattle.std.specs.Prelude.{◌≡◌, Bool, true, false, cond, ℕ, suc, ◌+◌, ◌-◌, ◌*◌, ◌/◌, ◌≤◌, ◌<◌, eqb, leb, take, set, Option as Optional, None, Some, Ok, Err}
use Rattle.std.proofs.Math.Path.{refl, sym, ap}
use Rattle.std.proofs.Common.{◌∙◌, subst, add-zero, arith, length-take, length-take-le, eq-eqb, ne_eqb, le-leb}
use mathlib.Core.List.{List, [], ◌∷◌, ◌++◌, append-nil}
use Rattle.std.proofs.Math.Decide.{dec_le}
use Rattle.std.proofs.Math.ListN.{length, drop}
use Rattle.std.proofs.Math.Seq.{take-append_seam}
use Rattle.std.proofs.lemmas.Bool.{eqb-false, lt-leb}
use Rattle.records.specs.Format.Never.{never}
use Rattle.records.specs.Format.Syntax.{Event, event}
use Rattle.records.specs.Format.Encode.{event_record}
use Rattle.records.specs.Format.HeadLaws.{Known, bytes_all}
use Rattle.records.specs.Gate.Gate.{tree, read_event}
use Rattle.records.specs.Ends.Places.{event_places, part_ends, EndsOf}
use Rattle.records.specs.Writing.Patched.{Put}
use Rattle.records.specs.Writing.PatchedLaws.{put_set, put_then, put_front, put_length, front_put, patched_nil, patched_append, length_patched}
use Rattle.records.specs.declared.places.Places.{Places}
use Rattle.records.specs.declared.places.PartEnds.{PartEnds}
use Rattle.records.specs.Gate.Question.{refusal}
use Rattle.records.specs.Gate.OutcomeLaws.{refusal_same, refusal_positive}
use Rattle.records.specs.declared.questions.Refusal.{Refusal}
use Rattle.stepper.specs.Services.PassedLaws.{question_named}
use Rattle.stepper.specs.declared.emit.Reached.{Reached}
use Rattle.stepper.specs.Rules.Machine.{Machine, StepOutcome, refused, gives}
use Rattle.stepper.specs.Rules.Rules.{step}
use Rattle.stepper.specs.Services.Services.{Program, machine, reply}
use Rattle.records.specs.Gate.ReplyLaws.{reply_gives}
use Rattle.stepper.specs.Services.ServiceLaws.{Recordable, limit_fits, read_recordable, step_recordable}
use Rattle.stepper.specs.Services.Desk.{layers}
use Rattle.stepper.specs.Services.DeskLaws.{lawful}
use Rattle.records.specs.Gate.Reply.{reply_with, answer_length, outcome_number}
use Rattle.stepper.specs.Plans.ViewLaws.{ends_known}
use Rattle.stepper.specs.Step.Stepped.{StepAnswer, reached_length, reached_ends, Stepped, BothPassed}
use Rattle.stepper.specs.Run.Run.{Mark, mark, meets, Order, is_full, less_room, with_marks, Stop, spent, met, full, by, RunEnd, ended, past, run, stop_number}
use Rattle.stepper.specs.Run.RunLoop.{direction, told_mark, mark_numbers, with_mark, room_of, aim_told, asked, aimed_at, aimed_by, stop_at, stop_case, met_case, stopped_case, run_outcome, log_numbers, with_log, started_run, Tells, RanTo, RanHere, turns_left, Held, RunStands, run_so_far, RunHolds, Keeps}
use Rattle.stepper.specs.Run.RunLaws.{then, Course, no_count, no_room, no_step, last_step, one_step, course, course_run, course_then, StopTold, run_log_length, run_told, run_over}
use Rattle.stepper.specs.Run.RunServiceLaws.{run_recordable}
use Rattle.stepper.specs.declared.run.RunAim.{RunAim}
use Rattle.stepper.specs.declared.run.RunOrder.{RunOrder}
use Rattle.stepper.specs.declared.run.RunMark.{RunMark}
use Rattle.stepper.specs.declared.run.RunStop.{RunStop}
use Rattle.stepper.specs.declared.run.RunStop.TheVariants.{Spent, Met, Full, Refused}
use Rattle.stepper.specs.declared.run.RunAnswer.{RunAnswer}

-- the mark of an event, by its parts
pub mark_placed : {p : Places} (e : Event) → p ≡ event_places e → record { port = p.port; ancestors = p.ancestors.count; bets = p.bets.count } ≡ told_mark (mark e)
unfolding event_places mark
mark_placed (event p g u s) h = rw h

-- the room of a lent slice
pub full_told : (taken n : ℕ) → leb (n / 3) taken ≡ is_full (less_room taken (room_of true n))
unfolding is_full less_room
full_told taken n = go (dec_le (n / 3) taken)
  where
    go : Dec (n / 3 ≤ taken) → leb (n / 3) taken ≡ eqb (n / 3 - taken) 0
    go (yes h) = le-leb (n / 3) taken h ∙ sym (eq-eqb (n / 3 - taken) 0 (omega arith))
    go (no h) = lt-leb (n / 3) taken (omega arith) ∙ sym (ne_eqb (n / 3 - taken) 0 (λ z. omega arith))

pub room_left : (taken n : ℕ) → is_full (less_room taken (room_of true n)) ≡ false → 3 * taken + 3 ≤ n
unfolding is_full less_room
room_left taken n h = let z = eqb-false (n / 3 - taken) 0 h in omega arith

-- three stores are a mark
pub three_set : (log : List ℕ) (at a b c : ℕ) → Put log at (a ∷ (b ∷ (c ∷ []))) (set (set (set log at a) (at + 1) b) (at + 2) c) (at + 3)
three_set log at a b c =
    let e : at + 1 + 1 ≡ at + 2 = omega arith in
    let f : at + 2 + 1 ≡ at + 3 = omega arith in
    let w : Put log at (a ∷ (b ∷ (c ∷ []))) (set (set (set log at a) (at + 1) b) (at + 1 + 1) c) (at + 1 + 1 + 1) = put_then put_set (put_then put_set put_set) in
    rw (e, f) at w

-- a log with one mark more behind those that it has
pub numbers_length : (l : List Mark) → length (log_numbers l) ≡ 3 * length l
unfolding log_numbers
numbers_length [] = refl
numbers_length (m ∷ l) = omega (arith, numbers_length l)

numbers_append : (l : List Mark) (m : Mark) → log_numbers (l ++ (m ∷ [])) ≡ log_numbers l ++ mark_numbers (told_mark m)
unfolding log_numbers
numbers_append [] m = refl
numbers_append (x ∷ l) m = ap (λ k. mark_numbers (told_mark x) ++ k) (numbers_append l m)

log_more : (logged : Bool) (log : List ℕ) (l : List Mark) (m : Mark) (n : ℕ) → n ≡ length l
    → with_mark logged (with_log logged log l) n (told_mark m) ≡ with_log logged log (l ++ (m ∷ []))
log_more true log l m n e =
    let at : 3 * n ≡ 0 + length (log_numbers l) = omega (arith, numbers_length l, e) in
    rw (at, numbers_append l m) (patched_append log 0 (log_numbers l) _)
log_more false log l m n e = refl

pub log_kept : (logged : Bool) (log : List ℕ) (l : List Mark) → length (with_log logged log l) ≡ length log
log_kept true log l = length_patched log 0 (log_numbers l)
log_kept false log l = refl

-- why a run stops at an event that its last step gave
stop_told : (o : RunOrder) (log : List ℕ) (m : Mark) → stop_at o (told_mark m) ≡ stop_case (cond (meets (asked o log).aim m) met spent)
unfolding meets
stop_told o log m = go o.aim
  where
    as_case : (b : Bool) → cond b Met Spent ≡ stop_case (cond b met spent)
    as_case true = refl
    as_case false = refl

    go : (a : Optional RunAim) → cond (aimed_by a (told_mark m)) Met Spent ≡ stop_case (cond (meets (aim_told a) m) met spent)
    go (Some a) = as_case (aimed_at a (told_mark m))
    go None = refl

-- the number by which code says it
stop_numbered : (s : Stop) → outcome_number (run_outcome (stop_case s)) ≡ stop_number s
unfolding stop_number
stop_numbered spent = refl
stop_numbered met = refl
stop_numbered full = refl
stop_numbered (by q) = refusal_same q

pub no_number : (b : Bool) → 0 ≡ stop_number (cond b met spent)
unfolding stop_number
no_number true = refl
no_number false = refl

-- a turn of the loop
module _ {program : List ℕ} (byte : Known program) {order : RunOrder} {now : RunAnswer} {here log : List ℕ} (g : RunStands program order now here log) where
  abbrev M : Machine
  M = machine layers g.definitions

  abbrev o : Order
  o = asked order g.before

  abbrev so_far : RunEnd
  so_far = run M o now.taken g.start

  abbrev rules : Program layers
  rules = record { program = program; bytes = bytes_all program byte; definitions = g.definitions; reads = g.program_reads }

  reached : Recordable so_far.event
  reached = run_recordable layers lawful rules o now.taken g.start g.recordable

  -- the present event is accepted
  pub standing_reads : read_event (take now.length here) ≡ tree so_far.event
  standing_reads = rw g.held.front (lawful.event_back so_far.event reached.0 (limit_fits so_far.event reached.1))

  abbrev pub standing_passed : BothPassed program (take now.length here)
  standing_passed = record { definitions = g.definitions; program_reads = g.program_reads; event = so_far.event; reads = standing_reads }

  pub standing_ends : EndsOf (take now.length here) now.ends
  standing_ends = ends_known (take now.length here) standing_reads g.held.tells.ends_are

  -- the run of one step more
  next : {s : RunEnd} → Course M (with_marks now.taken o) 1 so_far.event s → run M o (now.taken + 1) g.start ≡ then so_far s
  next k = course_run M (course_then M (course M o now.taken g.start) g.going k)

  same_room : length log ≡ length g.before
  same_room = ap length g.held.log_is ∙ log_kept order.logged g.before so_far.log

  abbrev Room : Bool → Type 0
  Room b = is_full (less_room now.taken (room_of order.logged (length log))) ≡ b

  lent_room : {b : Bool} → Room b → is_full (with_marks now.taken o).room ≡ b
  lent_room f = ap (λ n. is_full (less_room now.taken (room_of order.logged n))) (sym same_room) ∙ f

  -- the run stops where it stands
  stopped_here : (s : Stop) → Course M (with_marks now.taken o) 1 so_far.event (ended so_far.event s)
      → RunHolds g (now.taken + 1) (record { stop = stop_case s; taken = now.taken; length = now.length; ends = now.ends }) here log
  unfolding then
  stopped_here s k =
      let h = g.held in
      rw (next k) (record {
        tells = record {
          number_is = stop_numbered s;
          stop_is = refl;
          taken_is = h.tells.taken_is ∙ sym (add-zero _);
          length_is = h.tells.length_is;
          ends_are = h.tells.ends_are;
        };
        front = h.front;
        inside = h.inside;
        log_is = h.log_is ∙ rw append-nil refl;
      })

  pub turn_full : Room true → RunHolds g (now.taken + 1) (record { stop = Full; taken = now.taken; length = now.length; ends = now.ends }) here log
  turn_full f = stopped_here full (no_room (lent_room f))

  module _ (f : Room false) {there there' : List ℕ} {moved : StepAnswer} (m : Stepped (step M (direction order.back) so_far.event) there moved there') where
    pub turn_refused : {r : Refusal} → moved ≡ Err r → RunHolds g (now.taken + 1) (record { stop = Refused r; taken = now.taken; length = now.length; ends = now.ends }) here log
    unfolding reply_with
    turn_refused {r} z = go (step M (direction order.back) so_far.event) refl m
      where
        go : (a : StepOutcome) → step M (direction order.back) so_far.event ≡ a → Stepped a there moved there'
            → RunHolds g (now.taken + 1) (record { stop = Refused r; taken = now.taken; length = now.length; ends = now.ends }) here log
        go (refused q) h w =
            let same : refusal q ≡ r = question_named q (sym (ap outcome_number z) ∙ w.number_is) in
            rw same at (stopped_here (by q) (no_step q (lent_room f) h))
        go (gives c) h w = absurd (refusal_positive r (sym (ap outcome_number z) ∙ w.number_is))

    -- the step gives an event
    module _ {to : Reached} (z : moved ≡ Ok to) where
      abbrev given : (c : Event) × (step M (direction order.back) so_far.event ≡ gives c)
      given = reply_gives event_record there _ (sym m.number_is ∙ ap outcome_number z)

      given_recordable : Recordable given.0
      given_recordable = step_recordable layers lawful rules (direction order.back) so_far.event given.0 reached given.1

      given_size : to.length ≡ length (event_record given.0)
      unfolding answer_length
      given_size = sym (ap reached_length z) ∙ m.length_is ∙ ap (answer_length event_record) given.1

      pub given_short : to.length ≤ 32768
      given_short = omega (arith, given_size, limit_fits given.0 given_recordable.1)

      given_front : take to.length there' ≡ event_record given.0
      unfolding reply_with
      given_front = ap (λ n. take n there') given_size ∙ rw (m.output_is ∙ ap (λ x. (reply there x).output) given.1) (take-append_seam _ _)

      pub given_room : 32768 ≤ length here → 0 + length (take to.length there') ≤ length here
      given_room h = omega (arith, length-take to.length there', given_short)

      pub given_reads : read_event (take to.length there') ≡ tree given.0
      given_reads = rw given_front (lawful.event_back given.0 given_recordable.0 (limit_fits given.0 given_recordable.1))

      given_ends_are : to.ends ≡ part_ends given.0
      given_ends_are = sym (ap reached_ends z) ∙ m.ends_are given.0 given.1

      pub given_ends : EndsOf (take to.length there') to.ends
      given_ends = ends_known (take to.length there') given_reads given_ends_are

      turned : Course M (with_marks now.taken o) 1 so_far.event (past (mark given.0) (ended given.0 (cond (meets o.aim (mark given.0)) met spent)))
      turned = go (meets o.aim (mark given.0)) refl
        where
          go : (b : Bool) → meets o.aim (mark given.0) ≡ b
              → Course M (with_marks now.taken o) 1 so_far.event (past (mark given.0) (ended given.0 (cond b met spent)))
          go true h = last_step given.0 (lent_room f) given.1 h
          go false h = one_step given.0 (lent_room f) given.1 h no_count

      pub turn_given : {here' log' : List ℕ} {at : ℕ} {k : RunMark} {s : RunStop} → 32768 ≤ length here → k ≡ told_mark (mark given.0)
          → Put here 0 (take to.length there') here' at → log' ≡ with_mark order.logged log now.taken k → s ≡ stop_at order k
          → RunHolds g (now.taken + 1) (record { stop = s; taken = now.taken + 1; length = to.length; ends = to.ends }) here' log'
      unfolding then past
      turn_given {here'} {s = s} room marked p logged stops =
          let c = given.0 in
          let h = g.held in
          let size = given_size in
          let short = given_short in
          let told : s ≡ stop_case (cond (meets o.aim (mark c)) met spent) = stops ∙ rw marked (stop_told order g.before (mark c)) in
          let whole : here' ≡ event_record c ++ drop (length (event_record c)) here = rw given_front at (put_front p (rw given_front (omega arith))) in
          let count : now.taken ≡ length so_far.log = h.tells.taken_is ∙ sym (run_log_length M o now.taken g.start) in
          rw (next turned) (record {
            tells = record {
              number_is = ap (λ x. outcome_number (run_outcome x)) told ∙ stop_numbered (cond (meets o.aim (mark c)) met spent);
              stop_is = told;
              taken_is = ap (λ n. n + 1) h.tells.taken_is;
              length_is = size;
              ends_are = given_ends_are;
            };
            front = ap (λ n. take n here') size ∙ rw whole (take-append_seam _ _);
            inside = omega (arith, put_length p);
            log_is = logged ∙ rw (marked, h.log_is) (log_more order.logged g.before so_far.log (mark c) now.taken count);
          })

goes_on : (s : Stop) → stopped_case (stop_case s) ≡ false → s ≡ spent
goes_on spent h = refl
goes_on met h = never h
goes_on full h = never h
goes_on (by q) h = never h

-- the loop from where it stands
module _ {program : List ℕ} {order : RunOrder} {first : RunAnswer} {here₀ log₀ : List ℕ} (g : RunStands program order first here₀ log₀) where
  module _ (n : ℕ) {r : RunAnswer} {here log : List ℕ} (h : RunHolds g (n + 1) r here log) where
    -- after a turn that leaves steps to take
    pub keeps_on : stopped_case r.stop ≡ false → (r.taken ≡ n + 1) × Keeps g r here log
    keeps_on s =
        let spends : (run_so_far g (n + 1)).why ≡ spent = goes_on (run_so_far g (n + 1)).why (rw h.tells.stop_is at s) in
        let all : (run_so_far g (n + 1)).taken ≡ n + 1 =
        subst (StopTold (machine layers g.definitions) (asked order g.before) (n + 1) (run_so_far g (n + 1))) spends (run_told (machine layers g.definitions) (asked order g.before) (n + 1) g.start) in
        let taken : r.taken ≡ n + 1 = h.tells.taken_is ∙ all in
        (taken, subst (λ k. ((run_so_far g k).why ≡ spent) × RunHolds g k r here log) (sym taken) (spends, h))

    -- after one that stops the run
    pub keeps_stopped : (steps : ℕ) → n < steps → stopped_case r.stop ≡ true → RunHolds g steps r here log
    keeps_stopped steps l s =
        let more : steps ≡ n + 1 + (steps - (n + 1)) = omega arith in
        let over = run_over (machine layers g.definitions) (asked order g.before) (n + 1) g.start (steps - (n + 1)) (λ y. never (sym s ∙ ap stopped_case (h.tells.stop_is ∙ ap stop_case y))) in
        rw (ap (run_so_far g) more ∙ over) h

  -- all steps are taken
  pub keeps_all : {r : RunAnswer} {here log : List ℕ} (steps : ℕ) → Keeps g r here log → r.taken ≡ steps → RunHolds g steps r here log
  keeps_all {r} {here} {log} steps k e = subst (λ n. RunHolds g n r here log) e k.1

-- a slice that is too short for a mark is as good as none
pub asked_alike : (o : RunOrder) (log : List ℕ) → length log ≡ 1 → asked o log ≡ asked o []
asked_alike o log h = ap (λ n. record { direction = direction o.back; aim = aim_told o.aim; room = n }) (ap (room_of o.logged) h ∙ go o.logged)
  where
    go : (b : Bool) → room_of b 1 ≡ room_of b 0
    go true = refl
    go false = refl

-- an empty log
log_none : (logged : Bool) (log : List ℕ) → log ≡ with_log logged log []
unfolding log_numbers
log_none true log = sym (patched_nil log 0)
log_none false log = refl

pub start_going : {n : ℕ} {ends : PartEnds} {first : RunAnswer} (M : Machine) (o : Order) (e : Event) → first ≡ started_run n ends → (run M o first.taken e).why ≡ spent
unfolding run
start_going M o e is = rw is refl

-- the start of a run: the event's record is at the front of the buffer, and no step is taken
module _ {program s here : List ℕ} (order : RunOrder) {n : ℕ} {ends : PartEnds} {first : RunAnswer} (log : List ℕ) (known : Known s) (w : BothPassed program s) (inside : n ≤ length here)
    (f : take n here ≡ s) (k : EndsOf s ends) (is : first ≡ started_run n ends) where
  pub start_held : Held order.logged log (run (machine layers w.definitions) (asked order log) first.taken w.event) first here log
  unfolding run stop_number
  start_held =
      let r = lawful.event_read s (bytes_all s known) w.event w.reads in
      rw is (record {
        tells = record { number_is = refl; stop_is = refl; taken_is = refl; length_is = sym (length-take-le n here inside) ∙ ap length (f ∙ r.0); ends_are = k w.event w.reads };
        front = f ∙ r.0;
        inside = inside;
        log_is = log_none order.logged log;
      })

  abbrev pub standing_first : RunStands program order first here log
  standing_first = record {
    definitions = w.definitions;
    program_reads = w.program_reads;
    start = w.event;
    recordable = read_recordable layers lawful s (bytes_all s known) w.event w.reads;
    before = log;
    going = start_going (machine layers w.definitions) (asked order log) w.event is;
    held = start_held;
  }

-- so it is where the record was put there
abbrev pub standing_put : {program s zeros here : List ℕ} (order : RunOrder) {n : ℕ} {ends : PartEnds} {first : RunAnswer} (log : List ℕ) → Known s → BothPassed program s → length s ≤ length zeros
    → Put zeros 0 s here n → EndsOf s ends → first ≡ started_run n ends → RunStands program order first here log
standing_put order log known w room p k is = standing_first order log known w (omega (arith, p.place, put_length p)) (front_put p room) k is

-- its end: the record reached is put into the output
module _ {program s here log log' : List ℕ} (byte : Known program) (known : Known s) (w : BothPassed program s) (order : RunOrder) (steps : ℕ) {r : RunAnswer}
    (h : Held order.logged log (run (machine layers w.definitions) (asked order log) steps w.event) r here log') where
  abbrev end : RunEnd
  end = run (machine layers w.definitions) (asked order log) steps w.event

  end_recordable : Recordable end.event
  end_recordable =
      run_recordable layers lawful (record { program = program; bytes = bytes_all program byte; definitions = w.definitions; reads = w.program_reads }) (asked order log) steps w.event
      (read_recordable layers lawful s (bytes_all s known) w.event w.reads)

  end_reads : read_event (event_record end.event) ≡ tree end.event
  end_reads = lawful.event_back end.event end_recordable.0 (limit_fits end.event end_recordable.1)

  pub end_short : r.length ≤ 32768
  end_short = omega (arith, h.tells.length_is, limit_fits end.event end_recordable.1)

  pub end_room : (out : List ℕ) → 32768 ≤ length out → 0 + length (take r.length here) ≤ length out
  end_room out room = omega (arith, length-take r.length here, end_short)

  pub ran_to : {out out' : List ℕ} {next : ℕ} → 32768 ≤ length out → Put out 0 (take r.length here) out' next → RanTo end order.logged log out r log' out'
  unfolding reply_with
  ran_to {out} {out'} room p =
      let short = end_short in
      let size = h.tells.length_is in
      let whole : out' ≡ event_record end.event ++ drop (length (event_record end.event)) out = rw h.front at (put_front p (rw h.front (omega arith))) in
      record {
        tells = h.tells;
        output_is = whole;
        reads = rw (whole, size, take-append_seam) end_reads;
        log_is = h.log_is;
      }

  -- or it is left where it is, and the log asks for what no log does
  ran_alike : {before : List ℕ} → asked order log ≡ asked order [] → length here ≡ length before
      → RanHere (run (machine layers w.definitions) (asked order []) steps w.event) r before here
  ran_alike {before} alike same =
      subst (λ o. RanHere (run (machine layers w.definitions) o steps w.event) r before here) alike
      (record { tells = h.tells; front = h.front; reads = rw h.front end_reads; inside = h.inside; same_length = same })

  -- so it is with a log of one number, which is no mark, and with none
  pub ran_held : {before : List ℕ} → length log ≡ 1 → length here ≡ length before → RanHere (run (machine layers w.definitions) (asked order []) steps w.event) r before here
  ran_held short = ran_alike (asked_alike order log short)

  pub ran_unlogged : {before : List ℕ} → log ≡ [] → length here ≡ length before → RanHere (run (machine layers w.definitions) (asked order []) steps w.event) r before here
  ran_unlogged empty = ran_alike (ap (asked order) empty)

-- what an answer tells of a run that met its aim, and of one that did not
pub tells_met : {end : RunEnd} {r : RunAnswer} → Tells end r → met_case r.stop ≡ true → end.why ≡ met
tells_met {end} {r} t m = go end.why refl
  where
    go : (s : Stop) → end.why ≡ s → end.why ≡ met
    go spent e = never (sym (rw (t.stop_is, e) at m))
    go met e = e
    go full e = never (sym (rw (t.stop_is, e) at m))
    go (by q) e = never (sym (rw (t.stop_is, e) at m))

pub tells_unmet : {end : RunEnd} {r : RunAnswer} → Tells end r → met_case r.stop ≡ false → end.why ≡ met → ⊥
tells_unmet t m e = never (rw (t.stop_is, e) at m)

-- a loop over runs that goes on has taken more steps, so fewer turns are left
pub turns_fewer : {g h : Bool} {n k l : ℕ} → g ≡ true → (h ≡ true → (k < l) × (l ≤ n)) → turns_left h n l < turns_left g n k
turns_fewer {g} {h} {n} {k} {l} e f = rw e (go h f)
  where
    go : (h : Bool) → (h ≡ true → (k < l) × (l ≤ n)) → turns_left h n l < suc (n - k)
    go true f = omega (arith, (f refl).0, (f refl).1)
    go false f = omega arith
