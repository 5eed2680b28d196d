-- Laws of a run: it is so many single steps, its log has the marks of the events passed, none but the last of them meets the aim, it tells why it
-- stopped, a longer one goes on where a shorter one stopped, steps back are undone by as many forward, and from a query's first event it comes to the
-- events that are reached.
use Rattle.std.specs.Prelude.{◌≡◌, Bool, cond, List, [], ◌∷◌, ◌++◌, length, get_or, replicate}
use Rattle.std.proofs.Math.Path.{refl, sym, ap, subst}
use Rattle.std.proofs.Common.{◌∙◌, append_assoc, zero-add, add-suc, add_assoc}
use Rattle.std.proofs.Math.Bool.{true, false}
use Rattle.std.proofs.Math.Option.{Option, none, some, none-ne-some, some-injective}
use Prim.Native.Nat.{ℕ, zero, suc, ◌+◌, ◌-◌, ◌<◌, ◌≤◌}
use Rattle.std.proofs.Math.Nat.{add-zero, suc-add}
use Rattle.std.proofs.Math.Numerals.{add-one}
use native.Mathlib.Omega.{arith}
use borrow.Author.Tests.{eqb-true, eqb-false}
use Rattle.records.specs.Format.Never.{never}
use Rattle.records.specs.Format.Syntax.{Goal, Event}
use Rattle.records.specs.Gate.Question.{Question}
use Rattle.stepper.specs.Rules.Machine.{Machine, StepOutcome, refused, gives}
use Rattle.stepper.specs.Rules.Rules.{first_event, step, accepted}
use Rattle.stepper.specs.Rules.AnswerLaws.{accepted_gives, gives_accepted}
use Rattle.stepper.specs.Rules.ListedLaws.{back_steps_forward}
use Rattle.stepper.specs.Walks.Reached.{accepted_step, Reached}
use Rattle.stepper.specs.Walks.Walk.{Direction, forward, back, Tally, at_start, after, moves, walk, Reach}
use Rattle.stepper.specs.Run.Run.{Mark, mark, meets, Order, plain, is_full, less_room, with_marks, Stop, spent, met, full, by, RunEnd, ended, past, on_answer, run}

-- a run with another one behind it
unfoldable pub then : RunEnd → RunEnd → RunEnd
then a b = record { event = b.event; taken = a.taken + b.taken; why = b.why; log = a.log ++ b.log }

pub then_then : (a b c : RunEnd) → then a (then b c) ≡ then (then a b) c
unfolding then
then_then a b c = rw (add_assoc, append_assoc) refl

pub then_ended : (e : Event) (s : Stop) (r : RunEnd) → r ≡ then (ended e s) r
unfolding then
then_ended e s r = rw zero-add refl

pub past_then : (m : Mark) (a b : RunEnd) → past m (then a b) ≡ then (past m a) b
unfolding past then
past_then m a b = rw suc-add refl

-- the room of an order
room_full : (r : Option ℕ) → is_full r ≡ true → r ≡ some 0
unfolding is_full
room_full none f = never (sym f)
room_full (some k) f = ap some (eqb-true k 0 f)

room_more : {n : ℕ} (r : Option ℕ) → is_full r ≡ false → less_room 1 r ≡ some n → r ≡ some (suc n)
unfolding is_full less_room
room_more none f h = absurd (none-ne-some _ h)
room_more {n} (some k) f h = let x : k - 1 ≡ n = some-injective _ _ h in let y = eqb-false k 0 f in ap some (omega arith)

no_marks : (o : Order) → with_marks 0 o ≡ o
unfolding less_room
no_marks o = ap (λ r. record { direction = o.direction; aim = o.aim; room = r }) (go o.room)
  where
    go : (r : Option ℕ) → less_room 0 r ≡ r
    go none = refl
    go (some k) = ap some (omega arith)

more_marks : (n : ℕ) (o : Order) → with_marks n (with_marks 1 o) ≡ with_marks (suc n) o
unfolding less_room
more_marks n o = ap (λ r. record { direction = o.direction; aim = o.aim; room = r }) (go o.room)
  where
    go : (r : Option ℕ) → less_room n (less_room 1 r) ≡ less_room (suc n) r
    go none = refl
    go (some k) = ap some (omega arith)

module _ (M : Machine) where
  -- How a run goes from an event, turn by turn, to its end.
  pub data Course : Order → ℕ → Event → RunEnd → Type 0 where
    no_count : {o : Order} {e : Event} → Course o zero e (ended e spent)
    no_room : {o : Order} {n : ℕ} {e : Event} → is_full o.room ≡ true → Course o (suc n) e (ended e full)
    no_step : {o : Order} {n : ℕ} {e : Event} (q : Question) → is_full o.room ≡ false → step M o.direction e ≡ refused q → Course o (suc n) e (ended e (by q))
    last_step : {o : Order} {n : ℕ} {e : Event} (c : Event) → is_full o.room ≡ false → step M o.direction e ≡ gives c → meets o.aim (mark c) ≡ true
        → Course o (suc n) e (past (mark c) (ended c met))
    one_step : {o : Order} {n : ℕ} {e : Event} {r : RunEnd} (c : Event) → is_full o.room ≡ false → step M o.direction e ≡ gives c → meets o.aim (mark c) ≡ false
        → Course (with_marks 1 o) n c r → Course o (suc n) e (past (mark c) r)

  pub course : (o : Order) (n : ℕ) (e : Event) → Course o n e (run M o n e)
  unfolding run
  course o zero e = no_count
  course o (suc n) e = go (is_full o.room) refl (step M o.direction e) refl (course (with_marks 1 o) n)
    where
      aimed : is_full o.room ≡ false → (c : Event) → step M o.direction e ≡ gives c → Course (with_marks 1 o) n c (run M (with_marks 1 o) n c)
          → (b : Bool) → meets o.aim (mark c) ≡ b → Course o (suc n) e (past (mark c) (cond b (ended c met) (run M (with_marks 1 o) n c)))
      aimed f c h k true m = last_step c f h m
      aimed f c h k false m = one_step c f h m k

      go : (b : Bool) → is_full o.room ≡ b → (a : StepOutcome) → step M o.direction e ≡ a → ((c : Event) → Course (with_marks 1 o) n c (run M (with_marks 1 o) n c))
          → Course o (suc n) e (run M o (suc n) e)
      go true f a h k = rw f (no_room f)
      go false f (refused q) h k = rw (f, h) (no_step q f h)
      go false f (gives c) h k = rw (f, h) (aimed f c h (k c) (meets o.aim (mark c)) refl)

  -- there is one course
  pub course_run : {o : Order} {n : ℕ} {e : Event} {r : RunEnd} → Course o n e r → run M o n e ≡ r
  unfolding run on_answer
  course_run no_count = refl
  course_run (no_room f) = rw f
  course_run (no_step q f h) = rw (f, h)
  course_run (last_step c f h m) = rw (f, h, m)
  course_run (one_step c f h m k) = rw (f, h, m) (ap (past (mark c)) (course_run k))

  -- By its first step.
  pub run_none : (o : Order) (e : Event) → run M o 0 e ≡ ended e spent
  run_none o e = course_run no_count

  pub run_first : (d : Direction) (n : ℕ) (e c : Event) → step M d e ≡ gives c → run M (plain d) (suc n) e ≡ past (mark c) (run M (plain d) n c)
  unfolding is_full meets less_room
  run_first d n e c h = course_run {o = plain d} (one_step c refl h refl (course (plain d) n c))

  -- It is so many single steps: steps alone, as many as were taken, reach the same event and pass the same ones.
  plain_course : {o : Order} {n : ℕ} {e : Event} {r : RunEnd} → Course o n e r
      → Course (plain o.direction) r.taken e (record { event = r.event; taken = r.taken; why = spent; log = r.log })
  unfolding is_full less_room meets past
  plain_course no_count = no_count
  plain_course (no_room f) = no_count
  plain_course (no_step q f h) = no_count
  plain_course (last_step c f h m) = one_step c refl h refl no_count
  plain_course (one_step c f h m k) = one_step c refl h refl (plain_course k)

  -- Its log has a mark for each step.
  log_length : {o : Order} {n : ℕ} {e : Event} {r : RunEnd} → Course o n e r → length r.log ≡ r.taken
  unfolding past
  log_length no_count = refl
  log_length (no_room f) = refl
  log_length (no_step q f h) = refl
  log_length (last_step c f h m) = refl
  log_length (one_step c f h m k) = ap suc (log_length k)

  -- The i-th mark is that of the event which i + 1 steps reach.
  log_marks : {o : Order} {n : ℕ} {e : Event} {r : RunEnd} → Course o n e r → (i : ℕ) (m : Mark) → i < r.taken
      → get_or r.log i m ≡ mark (run M (plain o.direction) (suc i) e).event
  unfolding past is_full meets less_room
  log_marks no_count i d l = absurd (omega arith)
  log_marks (no_room f) i d l = absurd (omega arith)
  log_marks (no_step q f h) i d l = absurd (omega arith)
  log_marks (last_step c f h m) i d l =
      let z : i ≡ 0 = omega arith in rw z (ap (λ r. mark r.event) (sym (course_run {o = plain _} (one_step c refl h refl no_count))))
  log_marks (one_step c f h m k) zero d l = ap (λ r. mark r.event) (sym (course_run {o = plain _} (one_step c refl h refl no_count)))
  log_marks (one_step c f h m k) (suc i) d l =
      log_marks k i d (omega arith) ∙ ap (λ r. mark r.event) (sym (course_run {o = plain _} (one_step c refl h refl (course (plain _) (suc i) c))))

  -- None but the last meets the aim, and that one where the run stopped so.
  unmet : {o : Order} {n : ℕ} {e : Event} {r : RunEnd} → Course o n e r → (i : ℕ) (m : Mark) → i < r.taken → (suc i ≡ r.taken → r.why ≡ met → ⊥)
      → meets o.aim (get_or r.log i m) ≡ false
  unfolding past
  unmet no_count i d l z = absurd (omega arith)
  unmet (no_room f) i d l z = absurd (omega arith)
  unmet (no_step q f h) i d l z = absurd (omega arith)
  unmet (last_step c f h m) i d l z = absurd (z (omega arith) refl)
  unmet (one_step c f h m k) zero d l z = m
  unmet (one_step c f h m k) (suc i) d l z = unmet k i d (omega arith) (λ x y. z (ap suc x) y)

  -- It tells why it stopped.
  abbrev pub StopTold : Order → ℕ → RunEnd → Stop → Type 0
  StopTold o n r spent = r.taken ≡ n
  StopTold o n r met = meets o.aim (mark r.event) ≡ true
  StopTold o n r full = o.room ≡ some r.taken
  StopTold o n r (by q) = step M o.direction r.event ≡ refused q

  told : {o : Order} {n : ℕ} {e : Event} {r : RunEnd} → Course o n e r → StopTold o n r r.why
  unfolding past
  told no_count = refl
  told (no_room {o = o} f) = room_full o.room f
  told (no_step q f h) = h
  told (last_step c f h m) = m
  told (one_step {o = o} {n} {r = r} c f h m k) = go r.why (told k)
    where
      go : (w : Stop) → StopTold (with_marks 1 o) n r w → StopTold o (suc n) (past (mark c) r) w
      go spent t = ap suc t
      go met t = t
      go full t = room_more o.room f t
      go (by q) t = t

  -- It takes no more steps than asked for, and passes no more events than its log has room for.
  taken_within : {o : Order} {n : ℕ} {e : Event} {r : RunEnd} → Course o n e r → r.taken ≤ n
  unfolding past
  taken_within no_count = omega arith
  taken_within (no_room f) = omega arith
  taken_within (no_step q f h) = omega arith
  taken_within (last_step c f h m) = omega arith
  taken_within (one_step c f h m k) = omega (arith, taken_within k)

  log_within : {o : Order} {n : ℕ} {e : Event} {r : RunEnd} {room : ℕ} → Course o n e r → o.room ≡ some room → r.taken ≤ room
  unfolding past is_full less_room
  log_within no_count s = omega arith
  log_within (no_room f) s = omega arith
  log_within (no_step q f h) s = omega arith
  log_within {room = room} (last_step c f h m) s = let z = eqb-false room 0 (rw s at f) in omega arith
  log_within {room = room} (one_step c f h m k) s = let z = eqb-false room 0 (rw s at f) in omega (arith, log_within {room = room - 1} k (rw s refl))

  -- A longer one goes on where a shorter one stopped.
  pub course_then : {o : Order} {n m : ℕ} {e : Event} {r s : RunEnd} → Course o n e r → r.why ≡ spent → Course (with_marks n o) m r.event s → Course o (n + m) e (then r s)
  unfolding past then
  course_then {o} {m = m} {s = s} (no_count {e = e}) y l = rw (zero-add, zero-add) (subst (λ x. Course x m e s) (no_marks o) l)
  course_then (no_room f) y l = never cc
  course_then (no_step q f h) y l = never cc
  course_then (last_step c f h m) y l = never cc
  course_then {o} {m = i} {s = s} (one_step {n = n} {r = r} c f h m k) y l =
      rw (suc-add, suc-add) (one_step c f h m (course_then k y (subst (λ x. Course x i r.event s) (sym (more_marks n o)) l)))

  course_over : {o : Order} {n : ℕ} {e : Event} {r : RunEnd} (m : ℕ) → Course o n e r → (r.why ≡ spent → ⊥) → Course o (n + m) e r
  unfolding past
  course_over k no_count z = absurd (z refl)
  course_over k (no_room f) z = rw suc-add (no_room f)
  course_over k (no_step q f h) z = rw suc-add (no_step q f h)
  course_over k (last_step c f h m) z = rw suc-add (last_step c f h m)
  course_over k (one_step c f h m l) z = rw suc-add (one_step c f h m (course_over k l z))

  -- One that meets its aim makes a step.
  course_met : {o : Order} {n : ℕ} {e : Event} {r : RunEnd} → Course o n e r → r.why ≡ met → 0 < r.taken
  unfolding past
  course_met no_count w = never cc
  course_met (no_room f) w = never cc
  course_met (no_step p f h) w = never cc
  course_met (last_step c f h m) w = omega arith
  course_met (one_step c f h m y) w = omega arith

  -- Steps back are undone by as many forward, since a step back is one only where its event steps forward to the one that it came from.
  pub record Undone (n : ℕ) (d e : Event) : Type 0 where
    pub marks : List Mark
    pub again : Course (plain forward) n d (record { event = e; taken = n; why = spent; log = marks })

  course_undone : {n : ℕ} {e : Event} {r : RunEnd} → Course (plain back) n e r → r.why ≡ spent → Undone n r.event e
  unfolding past step is_full less_room meets then
  course_undone no_count w = record { marks = []; again = no_count }
  course_undone (no_room f) w = never cc
  course_undone (no_step q f h) w = never cc
  course_undone (last_step c f h m) w = never cc
  course_undone {e = e} (one_step {n = n} {r = r} c f h m k) w = go (course_undone k w)
    where
      go : Undone n r.event c → Undone (suc n) r.event e
      go u = record {
        marks = u.marks ++ (mark e ∷ []);
        again = subst (λ i. Course (plain forward) i r.event (record { event = e; taken = i; why = spent; log = u.marks ++ (mark e ∷ []) })) (add-one n)
            (course_then u.again refl (one_step {o = plain forward} e refl (back_steps_forward M e c h) refl no_count));
      }

  -- The laws of runs.
  module _ (o : Order) (n : ℕ) (e : Event) where
    pub run_is_plain : run M (plain o.direction) (run M o n e).taken e
        ≡ record { event = (run M o n e).event; taken = (run M o n e).taken; why = spent; log = (run M o n e).log }
    run_is_plain = course_run (plain_course (course o n e))

    pub run_within : (run M o n e).taken ≤ n
    run_within = taken_within (course o n e)

    pub run_log_within : {room : ℕ} → o.room ≡ some room → (run M o n e).taken ≤ room
    run_log_within = log_within (course o n e)

    pub run_log_length : length (run M o n e).log ≡ (run M o n e).taken
    run_log_length = log_length (course o n e)

    pub run_log : (i : ℕ) (m : Mark) → i < (run M o n e).taken → get_or (run M o n e).log i m ≡ mark (run M (plain o.direction) (suc i) e).event
    run_log = log_marks (course o n e)

    pub run_unmet : (i : ℕ) (m : Mark) → i < (run M o n e).taken → (suc i ≡ (run M o n e).taken → (run M o n e).why ≡ met → ⊥)
        → meets o.aim (get_or (run M o n e).log i m) ≡ false
    run_unmet = unmet (course o n e)

    pub run_told : StopTold o n (run M o n e) (run M o n e).why
    run_told = told (course o n e)

    pub run_met_steps : (run M o n e).why ≡ met → 0 < (run M o n e).taken
    run_met_steps = course_met (course o n e)

    pub run_on : (m : ℕ) → (run M o n e).why ≡ spent → run M o (n + m) e ≡ then (run M o n e) (run M (with_marks n o) m (run M o n e).event)
    run_on m y = course_run (course_then (course o n e) y (course (with_marks n o) m _))

    pub run_over : (m : ℕ) → ((run M o n e).why ≡ spent → ⊥) → run M o (n + m) e ≡ run M o n e
    run_over m z = course_run (course_over m (course o n e) z)

  -- The event that a run forward from one of a walk comes to is one of the walk.
  course_reached : (q : Goal) {o : Order} {n : ℕ} {e : Event} {r : RunEnd} → Course o n e r → o.direction ≡ forward → (i : ℕ) → Reached M q i e
      → Reached M q (i + r.taken) r.event
  unfolding past step Reach
  course_reached q no_count d i k = rw add-zero k
  course_reached q (no_room f) d i k = rw add-zero k
  course_reached q (no_step p f h) d i k = rw add-zero k
  course_reached q (last_step {e = e} c f h m) d i k = rw add-one (e, k, gives_accepted _ c (rw d at h))
  course_reached q (one_step {e = e} {r = r} c f h m y) d i k =
      subst (λ n. Reached M q n r.event) (suc-add i r.taken ∙ sym (add-suc i r.taken)) (course_reached q y d (suc i) (e, k, gives_accepted _ c (rw d at h)))

  pub run_reached : (q : Goal) (o : Order) → o.direction ≡ forward → (n i : ℕ) (e : Event) → Reached M q i e
      → Reached M q (i + (run M o n e).taken) (run M o n e).event
  run_reached q o d n i e h = course_reached q (course o n e) d i h

  -- From where n steps back lead, n steps forward lead back.
  pub run_undone : (n : ℕ) (e : Event) → (run M (plain back) n e).why ≡ spent
      → ((run M (plain forward) n (run M (plain back) n e).event).event ≡ e)
      × ((run M (plain forward) n (run M (plain back) n e).event).taken ≡ n)
      × ((run M (plain forward) n (run M (plain back) n e).event).why ≡ spent)
  run_undone n e h = let all = course_run (course_undone (course (plain back) n e) h).again in (ap (λ r. r.event) all, ap (λ r. r.taken) all, ap (λ r. r.why) all)

-- a run of n steps forward from a query's first event
abbrev first_run : Machine → Goal → ℕ → RunEnd
first_run M q n = run M (plain forward) n (first_event q)

-- The event n steps from the first is where it ends, and it takes them all.
pub reached_run : (M : Machine) (q : Goal) (n : ℕ) (e : Event) → Reached M q n e → ((first_run M q n).event ≡ e) × ((first_run M q n).taken ≡ n) × ((first_run M q n).why ≡ spent)
unfolding Reach run is_full on_answer less_room meets past then
reached_run M q zero e h = (h, refl, refl)
reached_run M q (suc n) e h = go (reached_run M q n d h.1)
  where
    d : Event
    d = h.0

    one : run M (plain forward) 1 d ≡ past (mark e) (ended e spent)
    one = rw (accepted_gives (step M forward d) e h.2)

    go : ((first_run M q n).event ≡ d) × ((first_run M q n).taken ≡ n) × ((first_run M q n).why ≡ spent)
        → ((first_run M q (suc n)).event ≡ e) × ((first_run M q (suc n)).taken ≡ suc n) × ((first_run M q (suc n)).why ≡ spent)
    go (y, t, w) =
        let more : suc n ≡ n + 1 = omega arith in
        let all : first_run M q (suc n) ≡ then (first_run M q n) (past (mark e) (ended e spent))
        = ap (first_run M q) more ∙ run_on M (plain forward) n (first_event q) 1 w
        ∙ ap (λ b. then (first_run M q n) (run M (plain forward) 1 b)) y ∙ ap (then (first_run M q n)) one in
        (ap (λ r. r.event) all, ap (λ r. r.taken) all ∙ ap (λ k. k + 1) t ∙ sym more, ap (λ r. r.why) all)

-- a walk with a run after it
unfoldable pub and_run : Direction → Tally Event → RunEnd → Tally Event
and_run forward t r = record { event = r.event; forwards = t.forwards + r.taken; backs = t.backs }
and_run back t r = record { event = r.event; forwards = t.forwards; backs = t.backs + r.taken }

and_run_none : {e : Event} (d : Direction) (t : Tally Event) (s : Stop) → t.event ≡ e → t ≡ and_run d t (ended e s)
unfolding and_run
and_run_none forward t s y = rw (← y, add-zero)
and_run_none back t s y = rw (← y, add-zero)

and_run_past : (d : Direction) (t : Tally Event) (c : Event) (m : Mark) (r : RunEnd) → and_run d (after d (some c) t) r ≡ and_run d t (past m r)
unfolding and_run after past
and_run_past forward t c m r = rw (suc-add, add-suc)
and_run_past back t c m r = rw (suc-add, add-suc)

after_event : (d : Direction) (c : Event) (t : Tally Event) → (after d (some c) t).event ≡ c
unfolding after
after_event forward c t = refl
after_event back c t = refl

-- A move that is a single step and refuses nothing of its own.
module _ (M : Machine) {Move : Type 0} (direction : Move → Direction) (attempt : Move → Event → Option Event) (m : Move)
    (single : (e : Event) → attempt m e ≡ accepted_step M (direction m) e) where
  -- after a refusal the moves that follow are refused too
  still : (n : ℕ) (t : Tally Event) → attempt m t.event ≡ none → moves direction attempt (replicate n m) t ≡ t
  unfolding moves after
  still zero t h = refl
  still (suc n) t h = ap (λ o. moves direction attempt (replicate n m) (after (direction m) o t)) h ∙ still n t h

  answered : {e : Event} {a : StepOutcome} (t : Tally Event) → t.event ≡ e → step M (direction m) e ≡ a → attempt m t.event ≡ accepted a
  answered t y h = rw y (single _ ∙ ap accepted h)

  moves_run : {n : ℕ} {e : Event} {r : RunEnd} → Course M (plain (direction m)) n e r → (t : Tally Event) → t.event ≡ e
      → moves direction attempt (replicate n m) t ≡ and_run (direction m) t r
  unfolding moves accepted is_full meets less_room
  moves_run no_count t y = and_run_none (direction m) t spent y
  moves_run (no_room f) t y = never (sym f)
  moves_run (no_step {n = n} q f h) t y = still (suc n) t (answered t y h) ∙ and_run_none (direction m) t (by q) y
  moves_run (last_step c f h k) t y = never (sym k)
  moves_run (one_step {n = n} {r = r} c f h k l) t y =
      ap (λ o. moves direction attempt (replicate n m) (after (direction m) o t)) (answered t y h)
      ∙ moves_run l (after (direction m) (some c) t) (after_event (direction m) c t) ∙ and_run_past (direction m) t c (mark c) r

  -- steps alone are that many moves
  pub run_is_steps : (n : ℕ) (e : Event) → walk direction attempt e (replicate n m) ≡ and_run (direction m) (at_start e) (run M (plain (direction m)) n e)
  unfolding walk
  run_is_steps n e = moves_run (course M (plain (direction m)) n e) (at_start e) refl
