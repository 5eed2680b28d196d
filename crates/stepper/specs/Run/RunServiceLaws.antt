-- Laws of the run service on bytes: it does what that many single steps do, its number is that of the step that stopped it, and its output
-- keeps its length; and what code replies for it.
use Rattle.std.specs.Prelude.{◌≡◌, List, ℕ, ◌≤◌, drop, replicate, false, Result, Err}
use Rattle.std.proofs.Math.Path.{refl, sym, ap}
use Rattle.std.proofs.Common.{◌∙◌, zero-add, arith}
use Rattle.std.proofs.Math.Option.{none-ne-some}
use Rattle.std.proofs.Math.ListN.{length}
use Rattle.records.specs.Format.Never.{never}
use Rattle.records.specs.Format.Syntax.{Event}
use Rattle.records.specs.Format.Encode.{event_record}
use Rattle.records.specs.Gate.Question.{Question, refusal_number}
use Rattle.records.specs.Format.HeadLaws.{Bytes}
use Rattle.records.specs.Gate.Gate.{tree, front_record, read_program, read_event}
use Rattle.records.specs.Gate.Reply.{through, reply_with, told, outcome_number}
use Rattle.stepper.specs.Services.Layers.{Layers, Lawful}
use Rattle.stepper.specs.Rules.Machine.{Machine, refused, gives}
use Rattle.stepper.specs.Rules.Rules.{step, accepted, Lent}
use Rattle.stepper.specs.Walks.Walk.{Direction, forward, back, Tally, encoded, at_start, walk}
use Rattle.stepper.specs.Run.Run.{meets, Order, plain, Stop, spent, met, full, by, RunEnd, past, run, stop_number}
use Rattle.stepper.specs.Run.RunService.{RunReply, run_reply, gated, run_answer, run_record, RunReplied}
use Rattle.stepper.specs.Run.RunLaws.{Course, no_count, no_room, no_step, last_step, one_step, course, StopTold, run_told, and_run, run_is_steps}
use Rattle.stepper.specs.Walks.Reached.{attempted}
use Rattle.stepper.specs.Walks.ReachedLaws.{steps_attempt}
use Rattle.stepper.specs.Services.Services.{reply, step_answer, step_record, Move, serve, Program, rules_of, machine}
use Rattle.stepper.specs.Services.ServiceLaws.{Recordable, limit_fits, front_event, read_recordable, step_recordable, step_of_record, lent, served_from}
use Rattle.stepper.specs.Services.Desk.{layers}
use Rattle.stepper.specs.Step.Stepped.{BothPassed}
use Rattle.stepper.specs.Run.RunLoop.{run_outcome, RanTo}
use Rattle.records.specs.Gate.ReplyLaws.{number_positive, gives_injective, through_gives, reply_length}
use Rattle.records.specs.Gate.OutcomeLaws.{told_refuses, refusal_same}
use Rattle.records.specs.declared.questions.Refusal.{Refusal}
use Rattle.records.specs.Gate.Door.{gate}
use Rattle.records.specs.Gate.DoorLaws.{gate_both, gate_gives}
use Rattle.stepper.specs.declared.run.RunAnswer.{RunAnswer}

-- what a run's reply says of a walk: the record in its output, and the steps taken
unfoldable pub served_run : Direction → RunReply → Tally (List ℕ)
unfolding front_record
served_run forward r = record { event = front_record r.output; forwards = r.taken; backs = 0 }
served_run back r = record { event = front_record r.output; forwards = 0; backs = r.taken }

run_encoded : (d : Direction) (r : RunEnd) (e : Event) (out : List ℕ) → Recordable r.event
    → encoded event_record (and_run d (at_start e) r) ≡ served_run d (run_reply out (gives r))
unfolding encoded and_run served_run run_reply through reply_with
run_encoded forward r e out f = rw (front_event r.event (drop (length (event_record r.event)) out) f.1, zero-add)
run_encoded back r e out f = rw (front_event r.event (drop (length (event_record r.event)) out) f.1, zero-add)

-- what the number of steps alone says: none of them met an aim or filled a log
module _ (M : Machine) (d : Direction) (n : ℕ) (r : RunEnd) where
  all_taken : (s : Stop) → StopTold M (plain d) n r s → stop_number s ≡ 0 → r.taken ≡ n
  unfolding stop_number meets
  all_taken spent t z = t
  all_taken met t z = never (sym t)
  all_taken full t z = absurd (none-ne-some _ t)
  all_taken (by q) t z = absurd (number_positive q z)

  stopped_by : (s : Stop) → StopTold M (plain d) n r s → (stop_number s ≡ 0 → ⊥) → (q : Question) × (s ≡ by q) × (step M d r.event ≡ refused q)
  unfolding stop_number
  stopped_by spent t z = absurd (z refl)
  stopped_by met t z = absurd (z refl)
  stopped_by full t z = absurd (z refl)
  stopped_by (by q) t z = (q, refl, t)

module _ (L : Layers) (laws : Lawful L) (c : Program L) where
  -- a run keeps events such that they have records
  course_recordable : {o : Order} {n : ℕ} {e : Event} {r : RunEnd} → Course (rules_of c) o n e r → Recordable e → Recordable r.event
  unfolding past
  course_recordable no_count f = f
  course_recordable (no_room x) f = f
  course_recordable (no_step q x h) f = f
  course_recordable (last_step b x h m) f = step_recordable L laws c _ _ b f h
  course_recordable (one_step b x h m k) f = course_recordable k (step_recordable L laws c _ _ b f h)

  pub run_recordable : (o : Order) (n : ℕ) (e : Event) → Recordable e → Recordable (run (rules_of c) o n e).event
  run_recordable o n e = course_recordable (course (rules_of c) o n e)

  -- what is begun at an event that passes questions 11 to 14, with an output that passes 5
  pub gated_of_tree : (begun : Machine → Event → RunEnd) (s : List ℕ) (e : Event) (out : List ℕ) → L.read_event s ≡ tree e → 32768 ≤ length out
      → gated L begun c.program s (length out) ≡ gives (begun (rules_of c) e)
  unfolding gated through
  gated_of_tree begun s e out h k = rw (gate_both (L.read_program c.program) (L.read_event s) c.reads h k)

  pub run_of_tree : (d : Direction) (n : ℕ) (s : List ℕ) (e : Event) (out : List ℕ) → L.read_event s ≡ tree e → 32768 ≤ length out
      → run_record L d n c.program s out ≡ run_reply out (gives (run (rules_of c) (plain d) n e))
  unfolding run_record run_answer
  run_of_tree d n s e out h k = ap (run_reply out) (gated_of_tree (λ M. run M (plain d) n) s e out h k)

  -- a run is that many single steps of the service, each lent the same output
  pub run_is_served : (m : Move) (n : ℕ) (s : List ℕ) → Bytes s → (e : Event) → L.read_event s ≡ tree e → 32768 ≤ length m.buffer
      → walk (λ m. m.direction) (serve L c.program) s (replicate n m)
      ≡ served_run m.direction (run_record L m.direction n c.program s m.buffer)
  run_is_served m n s i e h k =
      let f = read_recordable L laws s i e h in
      ap (λ r. walk (λ m. m.direction) (serve L c.program) r (replicate n m)) (laws.event_read s i e h).0
      ∙ (served_from L laws c e (replicate n m) f).0
      ∙ ap (encoded event_record)
      (run_is_steps (rules_of c) (λ m. m.direction) (λ m. attempted (rules_of c) (lent m)) m
      (λ b. ap accepted (steps_attempt (rules_of c) (lent m) b k)) n e)
      ∙ run_encoded m.direction (run (rules_of c) (plain m.direction) n e) e m.buffer (run_recordable (plain m.direction) n e f)
      ∙ ap (served_run m.direction) (sym (run_of_tree m.direction n s e m.buffer h k))

  -- a run whose number is 0 took all its steps
  pub run_number_done : (d : Direction) (n : ℕ) (s : List ℕ) (e : Event) (out : List ℕ) → L.read_event s ≡ tree e → 32768 ≤ length out
      → (run_record L d n c.program s out).number ≡ 0 → (run_record L d n c.program s out).taken ≡ n
  unfolding run_reply through
  run_number_done d n s e out h k z =
      let same = run_of_tree d n s e out h k in
      ap (λ r. r.taken) same ∙ all_taken (rules_of c) d n (run (rules_of c) (plain d) n e) (run (rules_of c) (plain d) n e).why (run_told (rules_of c) (plain d) n e) (sym (ap (λ r. r.number) same) ∙ z)

  -- any other number is that of the single step that would come next
  pub run_number_stopped : (d : Direction) (n : ℕ) (s : List ℕ) → Bytes s → (e : Event) (out : List ℕ) → L.read_event s ≡ tree e → 32768 ≤ length out
      → ((run_record L d n c.program s out).number ≡ 0 → ⊥)
      → (step_record L d c.program (front_record (run_record L d n c.program s out).output) out).number ≡ (run_record L d n c.program s out).number
  unfolding run_reply through step_record reply_with stop_number
  run_number_stopped d n s i e out h k z =
      let M = rules_of c in
      let l : Lent = record { direction = d; room = length out } in
      let r = run M (plain d) n e in
      let f = run_recordable (plain d) n e (read_recordable L laws s i e h) in
      let same = run_of_tree d n s e out h k in
      let q = stopped_by M d n r r.why (run_told M (plain d) n e) (λ y. z (ap (λ r. r.number) same ∙ y)) in
      let reached : front_record (run_record L d n c.program s out).output ≡ event_record r.event
      = ap (λ r. front_record r.output) same ∙ front_event r.event _ f.1 in
      let answer : step_answer L c.program l (event_record r.event) ≡ refused q.0
      = step_of_record L laws c l r.event f ∙ steps_attempt M l r.event k ∙ q.2 in
      ap (λ x. (reply out (step_answer L c.program l x)).number) reached ∙ ap (λ a. (reply out a).number) answer
      ∙ sym (ap stop_number q.1) ∙ sym (ap (λ r. r.number) same)

-- the output of a run keeps its length
pub run_output_length : (L : Layers) → Lawful L → (d : Direction) (n : ℕ) (program s out : List ℕ) → Bytes program → Bytes s
    → length (run_record L d n program s out).output ≡ length out
unfolding run_record run_reply run_answer gated
run_output_length L laws d n program s out b i = reply_length (λ r. event_record r.event) out (run_answer L d n program s (length out)) fits
  where
    fits : (r : RunEnd) → run_answer L d n program s (length out) ≡ gives r → length (event_record r.event) ≤ length out
    fits r h =
        let w = through_gives (gate (L.read_program program) (L.read_event s) (length out)) _ h in
        let t = w.0 in
        let passed = gate_gives (L.read_program program) (L.read_event s) (length out) w.1 in
        let P : Program L = record { program = program; bytes = b; definitions = t.program; reads = passed.0 } in
        let f = run_recordable L laws P (plain d) n t.event (read_recordable L laws s i t.event passed.1) in
        rw (← gives_injective w.2) (omega (arith, limit_fits _ f.1, passed.2))

-- in code: the gate says no,
pub gated_refused : (begun : Machine → Event → RunEnd) (program s out : List ℕ) {outcome : Result (Unit {0}) Refusal} {r : Refusal}
    → outcome ≡ told (gate (read_program program) (read_event s) (length out)) → outcome ≡ Err r
    → RunReplied (run_reply out (gated layers begun program s (length out))) (refusal_number r) 0 out
unfolding run_reply gated through reply_with
gated_refused begun program s out e z =
    let w = told_refuses (gate (read_program program) (read_event s) (length out)) e z in
    rw w.1 (record { number_is = ap refusal_number (sym w.2) ∙ refusal_same w.0; taken_is = refl; output_is = refl })

pub run_gate_refused : (d : Direction) (steps : ℕ) (program s out : List ℕ) {outcome : Result (Unit {0}) Refusal} {r : Refusal}
    → outcome ≡ told (gate (read_program program) (read_event s) (length out)) → outcome ≡ Err r
    → RunReplied (run_record layers d steps program s out) (refusal_number r) 0 out
unfolding run_record run_answer
run_gate_refused d steps program s out e z = gated_refused (λ M. run M (plain d) steps) program s out e z

-- or what is begun comes to its end
pub gated_replied : {program s out' : List ℕ} {number taken : ℕ} (out : List ℕ) (begun : Machine → Event → RunEnd) (w : BothPassed program s) → 32768 ≤ length out
    → number ≡ stop_number (begun (machine layers w.definitions) w.event).why → taken ≡ (begun (machine layers w.definitions) w.event).taken
    → out' ≡ (reply out (gives (begun (machine layers w.definitions) w.event).event)).output
    → RunReplied (run_reply out (gated layers begun program s (length out))) number taken out'
unfolding run_reply gated through reply_with
gated_replied {program} {s} out begun w room x y z =
    rw (gate_both (read_program program) (read_event s) w.program_reads w.reads room) (record { number_is = x; taken_is = y; output_is = z })

pub run_replied : {program s out log log' out' : List ℕ} {r : RunAnswer} (d : Direction) (steps : ℕ) (w : BothPassed program s) → 32768 ≤ length out
    → RanTo (run (machine layers w.definitions) (plain d) steps w.event) false log out r log' out'
    → RunReplied (run_record layers d steps program s out) (outcome_number (run_outcome r.stop)) r.taken out'
unfolding run_record run_answer
run_replied {out = out} d steps w room h = gated_replied out (λ M. run M (plain d) steps) w room h.tells.number_is h.tells.taken_is h.output_is
