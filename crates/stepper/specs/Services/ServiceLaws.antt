-- Laws of the services on bytes: they answer for an event's record as the rules answer for the event.
use Rattle.std.specs.Prelude.{◌≡◌, refl, Bool, true, false, List, [], ◌∷◌, ◌++◌, ℕ, zero, suc, ◌≤◌, ltb, leb, length}
use Rattle.std.proofs.Math.Path.{sym, ap, subst}
use Rattle.std.proofs.Common.{◌∙◌, arith, length-append, ltb-true, ltb-false, le-ltb, le-leb}
use Rattle.std.proofs.Math.Option.{Option, none, some, none-ne-some, some-injective, map}
use Rattle.std.proofs.lemmas.Bool.{lt-leb}
use Rattle.records.specs.Format.Syntax.{Goal, Ancestor, called, in_conj, in_disj, Bet, unifier, or, by, Event, event, Definition}
use Rattle.records.specs.Format.Encode.{each, ancestor_bytes, bet_bytes, event_bytes, record_of, event_record}
use Rattle.records.specs.Gate.RecordRules.{event_rules}
use Rattle.records.specs.Gate.Question.{output, fits, question_number}
use Rattle.records.specs.Gate.Door.{event_door, with_room}
use Rattle.records.specs.Gate.DoorLaws.{room_gives, room_then, event_gives, gate_room}
use Rattle.records.specs.Gate.ReplyLaws.{number_positive, through_gives, reply_gives}
use Rattle.records.specs.Format.HeadLaws.{Bytes}
use Rattle.records.specs.Gate.Gate.{tree, front_record}
use Rattle.records.specs.Gate.GateLaws.{front_is_record}
use Rattle.records.specs.Format.WrittenLaws.{event_written}
use Rattle.records.specs.Gate.Reply.{on_yes, through, reply_with}
use Rattle.records.specs.Writing.Emitted.{emit_answer}
use Rattle.stepper.specs.Services.Layers.{Layers, ProgramSound, Lawful}
use Rattle.stepper.specs.Rules.Machine.{LimitLaws, StepOutcome, refused, gives}
use Rattle.stepper.specs.Rules.Rules.{fitting, step, first_event, accepted, Lent, attempt}
use Rattle.stepper.specs.Rules.Formed.{EventSound, CountsFit, LawfulMachine}
use Rattle.stepper.specs.Rules.AnswerLaws.{Given, fitting_put, accepted_gives}
use Rattle.stepper.specs.Walks.Walk.{Direction, encoded, walk}
use Rattle.stepper.specs.Walks.WalkLaws.{walk_encoded}
use Rattle.stepper.specs.Rules.FormedLaws.{counted_sound, step_formed}
use Rattle.stepper.specs.Walks.Reached.{attempted, steps}
use Rattle.stepper.specs.Walks.ReachedLaws.{attempt_steps}
use Rattle.stepper.specs.Services.Services.{too_long, record_limit, machine, reply, first_answer, first_record, step_answer, step_record, next_record, Move, serve, Program, rules_of, Start, start, served}

-- an event that has a record
abbrev pub Recordable : Event → Type 0
Recordable e = EventSound e × (record_limit e ≡ none)

-- question 10 says yes exactly when the record is at most 32,768 bytes
pub limit_fits : (e : Event) → record_limit e ≡ none → length (event_record e) ≤ 32768
unfolding record_limit too_long
limit_fits e h = go (ltb 32768 (length (event_record e))) refl h
  where
    go : (b : Bool) → ltb 32768 (length (event_record e)) ≡ b → too_long b ≡ none → length (event_record e) ≤ 32768
    go true k h = absurd (none-ne-some fits (sym h))
    go false k h = ltb-false 32768 _ k

pub fits_limit : (e : Event) → length (event_record e) ≤ 32768 → record_limit e ≡ none
unfolding record_limit too_long
fits_limit e h = ap too_long (le-ltb 32768 (length (event_record e)) h)

-- an event's record is emitted exactly where questions 5 and 10 give the event
pub emit_answer_event : (room : ℕ) (e : Event) → emit_answer room (event_record e)
    ≡ through refused (with_room room (fitting false (record_limit e) (gives e))) (λ x. gives (event_record x))
unfolding emit_answer with_room on_yes through fitting record_limit too_long
emit_answer_event room e = go (leb 32768 room) (ltb 32768 (length (event_record e))) refl
  where
    go : (b t : Bool) → ltb 32768 (length (event_record e)) ≡ t
        → on_yes output b (on_yes fits (leb (length (event_record e)) 32768) (gives (event_record e)))
        ≡ through refused (on_yes output b (fitting false (too_long t) (gives e))) (λ x. gives (event_record x))
    go false t q = refl
    go true true q = rw (lt-leb (length (event_record e)) 32768 (ltb-true _ _ q))
    go true false q = rw (le-leb (length (event_record e)) 32768 (ltb-false _ _ q))

-- the front of a buffer that begins with an event's record is that record
pub front_event : (e : Event) (rest : List ℕ) → record_limit e ≡ none → front_record (event_record e ++ rest) ≡ event_record e
unfolding record_of
front_event e rest h = front_is_record (event_bytes e) rest (omega (arith, limit_fits e h))

-- each part takes a byte or more, so a record has no more parts than bytes
each_long : {A : Type 0} (f : A → List ℕ) → ((x : A) → 1 ≤ length (f x)) → (l : List A) → length l ≤ length (each f l)
each_long f h [] = omega arith
each_long f h (x ∷ l) = simp length-append (omega (arith, h x, each_long f h l))

ancestor_long : (a : Ancestor) → 1 ≤ length (ancestor_bytes a)
ancestor_long (called p ts) = omega arith
ancestor_long (in_conj n a b) = omega arith
ancestor_long (in_disj n a b) = omega arith

bet_long : (b : Bet) → 1 ≤ length (bet_bytes b)
bet_long (unifier m) = omega arith
bet_long (or n) = omega arith
bet_long (by g) = omega arith

counts_fit : (e : Event) → record_limit e ≡ none → CountsFit e
unfolding record_of
counts_fit (event p g u s) h =
    let k = simp length-append at (limit_fits (event p g u s) h) in
    (omega (arith, k, each_long ancestor_bytes ancestor_long u), omega (arith, k, each_long bet_bytes bet_long s))

-- the events that are read are those that have records
pub read_recordable : (L : Layers) → Lawful L → (s : List ℕ) → Bytes s → (e : Event) → L.read_event s ≡ tree e → Recordable e
read_recordable L laws s b e h =
    let r = laws.event_read s b e h in
    (r.1, fits_limit e (subst (λ x. length x ≤ 32768) r.0 r.2))

-- the limits of the desk are one, in which the port has no part
pub machine_limits : (L : Layers) (P : List Definition) → LimitLaws (machine L P)
unfolding record_limit record_of
machine_limits L P = record { as_candidate = λ e. (λ h. h, λ h. h); any_port = λ g u s. (λ h. h, λ h. h) }

-- a machine of lawful layers is lawful
machine_lawful : (L : Layers) → Lawful L → (P : List Definition) → ProgramSound P → LawfulMachine (machine L P)
machine_lawful L laws P f = record {
  unifier_sound = laws.unifier_sound;
  body_formed = λ p ts u s g. laws.body_formed P p ts u s g f;
  admitted_sound = λ e f n. counted_sound e f (counts_fit e n);
  limits = machine_limits L P;
}

not_done : (n : ℕ) (out : List ℕ) → (n ≡ 0 → ⊥) → next_record n out ≡ none
unfolding next_record
not_done zero out h = absurd (h refl)
not_done (suc n) out h = refl

-- what the next step gets is the record of the event that the answer gives
next_reply : (out : List ℕ) (a : StepOutcome) → Given Recordable a
    → next_record (reply out a).number (reply out a).output ≡ map event_record (accepted a)
unfolding next_record reply_with accepted
next_reply out (refused q) f = not_done (question_number q) out (number_positive q)
next_reply out (gives e) f = ap {B = Option (List ℕ)} some (front_event e _ f.1)

abbrev pub lent : Move → Lent
lent m = record { direction = m.direction; room = length m.buffer }

-- a query for which the query service gives 0 reads as a goal, so every such query is a start
pub done_reads : (L : Layers) (query out : List ℕ) → (first_record L query out).number ≡ 0 → (g : Goal) × (L.read_query query ≡ tree g)
unfolding first_record first_answer
done_reads L query out h =
    let w = through_gives (event_door (L.read_query query)) _ (reply_gives event_record out (first_answer L query (length out)) h).1 in
    (w.0, event_gives (L.read_query query) w.1)

-- a list starts from the record of its query's first event, which has one
pub start_record : (L : Layers) → Lawful L → (q : Start L)
    → (start q ≡ event_record (first_event q.goal)) × Recordable (first_event q.goal)
unfolding first_record first_answer through event_door first_event reply_with event_rules
start_record L laws q =
    let e = first_event q.goal in
    let n = length q.buffer in
    let answer : first_answer L q.query n ≡ with_room n (fitting false (record_limit e) (gives e)) = rw q.reads in
    let given = reply_gives event_record q.buffer (first_answer L q.query n) q.done in
    let r = fitting_put (record_limit e) (gives e) given.0 (room_gives n _ (sym answer ∙ given.1)).1 in
    let formed = laws.query_read q.query q.bytes q.goal q.reads in (
      ap (λ a. front_record (reply q.buffer a).output) (given.1 ∙ sym r.1) ∙ front_event e _ r.0,
      (((formed, (omega arith, tt), (omega arith, tt)), refl), r.0),
    )

module _ (L : Layers) (laws : Lawful L) (c : Program L) where
  pub rules_lawful : LawfulMachine (rules_of c)
  rules_lawful = machine_lawful L laws c.definitions (laws.program_read c.program c.bytes c.definitions c.reads)

  -- a step on an event's record answers as the rules do for the event
  pub step_of_record : (l : Lent) (e : Event) → Recordable e → step_answer L c.program l (event_record e) ≡ attempt (rules_of c) l e
  unfolding step_answer attempt
  step_of_record l e f =
      let back = laws.event_back e f.0 (limit_fits e f.1) in
      rw (gate_room (L.read_program c.program) (L.read_event (event_record e)) l.room c.reads back) (room_then l.room _ _)

  -- an accepted step gives an event that has a record
  pub step_recordable : (s : Direction) (d e : Event) → Recordable d → step (rules_of c) s d ≡ gives e → Recordable e
  step_recordable s d e f h =
      step_formed (rules_of c) rules_lawful s d e f.0 f.1 h

  pub attempt_recordable : (l : Lent) (d e : Event) → Recordable d → attempt (rules_of c) l d ≡ gives e → Recordable e
  attempt_recordable l d e f h = step_recordable l.direction d e f (attempt_steps (rules_of c) l d e h)

  given_recordable : (l : Lent) (d : Event) → Recordable d → Given Recordable (attempt (rules_of c) l d)
  given_recordable l d f = go (attempt (rules_of c) l d) refl
    where
      go : (a : StepOutcome) → attempt (rules_of c) l d ≡ a → Given Recordable a
      go (refused q) h = tt
      go (gives e) h = attempt_recordable l d e f h

  -- a step of a list, on bytes, is the step on the event
  pub serve_agrees : (m : Move) (e : Event) → Recordable e
      → serve L c.program m (event_record e) ≡ map event_record (attempted (rules_of c) (lent m) e)
  unfolding serve step_record
  serve_agrees m e f =
      ap (λ a. next_record (reply m.buffer a).number (reply m.buffer a).output) (step_of_record (lent m) e f)
      ∙ next_reply m.buffer (attempt (rules_of c) (lent m) e) (given_recordable (lent m) e f)

  -- a list of steps on the records of events walks as the list on the events does
  pub served_from : (e : Event) (ms : List Move) → Recordable e
      → (walk (λ m. m.direction) (serve L c.program) (event_record e) ms
      ≡ encoded event_record (walk (λ m. m.direction) (λ m. attempted (rules_of c) (lent m)) e ms))
      × Recordable (walk (λ m. m.direction) (λ m. attempted (rules_of c) (lent m)) e ms).event
  served_from =
      walk_encoded (λ m. m.direction) (λ m. attempted (rules_of c) (lent m)) Recordable
      (λ m d e f h. attempt_recordable (lent m) d e f (accepted_gives _ e h)) event_record (serve L c.program) serve_agrees

  pub served_steps : (q : Start L) (ms : List Move)
      → (served c q ms ≡ encoded event_record (steps (rules_of c) lent q.goal ms))
      × Recordable (steps (rules_of c) lent q.goal ms).event
  served_steps q ms =
      let s = start_record L laws q in
      let w = served_from (first_event q.goal) ms s.1 in
      (ap (λ r. walk (λ m. m.direction) (serve L c.program) r ms) s.0 ∙ w.0, w.1)

  -- it ends at bytes
  pub served_bytes : (q : Start L) (ms : List Move) → Bytes (served c q ms).event
  unfolding encoded
  served_bytes q ms =
      let w = served_steps q ms in
      subst (λ t. Bytes t.event) (sym w.0) (event_written (steps (rules_of c) lent q.goal ms).event w.1.0.0)

  -- a step that leads on from an event's record leads to the record of the event that the rules give, and the other way round
  pub serve_accepts : (m : Move) (e : Event) (r : List ℕ) → Recordable e → serve L c.program m (event_record e) ≡ some r
      → (d : Event) × (r ≡ event_record d) × (attempt (rules_of c) (lent m) e ≡ gives d)
  unfolding accepted
  serve_accepts m e r f h = go (attempt (rules_of c) (lent m) e) (sym (serve_agrees m e f) ∙ h)
    where
      go : (a : StepOutcome) → map event_record (accepted a) ≡ some r → (d : Event) × (r ≡ event_record d) × (a ≡ gives d)
      go (refused q) k = absurd (none-ne-some r k)
      go (gives d) k = (d, sym (some-injective (event_record d) r k), refl)

  pub serve_gives : (m : Move) (e d : Event) → Recordable e → attempt (rules_of c) (lent m) e ≡ gives d
      → serve L c.program m (event_record e) ≡ some (event_record d)
  unfolding accepted
  serve_gives m e d f h = serve_agrees m e f ∙ ap (λ a. map event_record (accepted a)) h
