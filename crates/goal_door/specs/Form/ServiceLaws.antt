-- What the service's reply has to do with the way, and with runs and steps of the desk, on bytes.
use Rattle.std.specs.Prelude.{◌≡◌, true, List, ◌++◌, ℕ, ◌<◌, ◌≤◌, drop}
use Rattle.std.proofs.Math.Path.{refl, sym, ap}
use Rattle.std.proofs.Common.{◌∙◌, subst, inl, inr, arith}
use Rattle.std.proofs.Math.ListN.{length}
use Rattle.records.specs.Format.Encode.{event_record}
use Rattle.records.specs.Format.HeadLaws.{Bytes}
use Rattle.records.specs.Format.Never.{never}
use Rattle.records.specs.Format.Syntax.{Event}
use Rattle.records.specs.Gate.Gate.{tree, front_record, read_event}
use Rattle.records.specs.Gate.Question.{Question, possible, allowed, question_number}
use Rattle.records.specs.Gate.Reply.{through, reply_with}
use Rattle.records.specs.Gate.ReplyLaws.{number_positive, number_injective}
use Rattle.terms.specs.Values.ValueService.{bets_of}
use Rattle.stepper.specs.Rules.Machine.{Machine, refused, gives}
use Rattle.stepper.specs.Rules.Rules.{step, step_back, Lent}
use Rattle.stepper.specs.Run.Run.{plain, Stop, spent, met, full, by, RunEnd, run, stop_number}
use Rattle.stepper.specs.Run.RunService.{RunReply, run_reply, run_record}
use Rattle.stepper.specs.Run.RunServiceLaws.{run_recordable, gated_of_tree, run_of_tree}
use Rattle.stepper.specs.Services.Desk.{layers}
use Rattle.stepper.specs.Services.DeskLaws.{lawful}
use Rattle.stepper.specs.Services.ServiceLaws.{Recordable, limit_fits, front_event, read_recordable, rules_lawful, start_record, step_of_record}
use Rattle.stepper.specs.Services.Services.{Program, rules_of, reply, step_record, Start, Move, served}
use Rattle.stepper.specs.Walks.ByteDemands.{read_reached}
use Rattle.stepper.specs.Walks.ReachedLaws.{steps_attempt}
use Rattle.stepper.specs.Walks.Walk.{forward, back}
use Rattle.goal_door.specs.Form.Service.{goal_door_answer, goal_door_record}
use Rattle.goal_door.specs.Form.GoalDoor.{is_door, to_door}
use Rattle.goal_door.specs.Form.ReachedLaws.{reached_door}
use Rattle.goal_door.specs.Form.Told.{DoorOf, EndsSo, at_door, no_step, no_more, DoorBack}
use Rattle.goal_door.specs.Form.GoalDoorLaws.{door_is, is_a_door}
use Rattle.goal_door.specs.Form.NeverSixLaws.{record_is_ten, not_allowed, never_six}
use Rattle.goal_door.specs.Form.NearestLaws.{EndTold, way_told, forward_again}

-- what is the door, as the definition tells it
door_here : (e : Event) {d : Event} → DoorOf e d → is_door e d ≡ true
door_here e (s, w) = ap (is_door e) w ∙ is_a_door e s

module _ (c : Program layers) (s : List ℕ) (e : Event) (h : read_event s ≡ tree e) (n : ℕ) where
  -- the way's reply to an event record that passes questions 11 to 14, with an output that passes 5
  pub door_of_tree : (out : List ℕ) → 32768 ≤ length out → goal_door_record layers n c.program s out ≡ run_reply out (gives (to_door (rules_of c) n e))
  unfolding goal_door_record goal_door_answer
  door_of_tree out room = ap (run_reply out) (gated_of_tree layers lawful c (λ M. to_door M n) s e out h room)

module _ (c : Program layers) (s : List ℕ) (b : Bytes s) (e : Event) (h : read_event s ≡ tree e) (n : ℕ) where
  abbrev M : Machine
  M = rules_of c

  abbrev way : RunEnd
  way = to_door M n e

  -- a run from there
  back_run : (k : ℕ) → Recordable (run M (plain back) k e).event
  back_run k = run_recordable layers lawful c (plain back) k e (read_recordable layers lawful s b e h)

  pub way_recordable : Recordable way.event
  way_recordable = subst Recordable (ap (λ r. r.event) (way_told M e n e).steps) (back_run way.taken)

  module _ (out : List ℕ) (room : 32768 ≤ length out) where
    abbrev told : RunReply
    told = goal_door_record layers n c.program s out

    -- the record that is written is that of the event where the way ends,
    pub written_record : front_record told.output ≡ event_record way.event
    unfolding run_reply through reply_with
    written_record = ap (λ r. front_record r.output) (door_of_tree c s e h n out room) ∙ front_event way.event _ way_recordable.1

    pub written_reads : read_event (front_record told.output) ≡ tree way.event
    written_reads = ap read_event written_record ∙ lawful.event_back way.event way_recordable.0 (limit_fits way.event way_recordable.1)

    -- the steps are the way's, and its number that of its end;
    pub told_taken : told.taken ≡ way.taken
    unfolding run_reply through
    told_taken = ap (λ r. r.taken) (door_of_tree c s e h n out room)

    pub told_number : told.number ≡ stop_number way.why
    unfolding run_reply through
    told_number = ap (λ r. r.number) (door_of_tree c s e h n out room)

    -- as many steps back write that,
    pub run_there : run_record layers back told.taken c.program s out ≡ record { number = 0; taken = told.taken; output = told.output }
    unfolding run_reply through reply_with stop_number
    run_there =
        rw (told_taken, ap (λ r. r.output) (door_of_tree c s e h n out room))
        (run_of_tree layers lawful c back way.taken s e out h room ∙ ap (λ r. run_reply out (gives r)) (way_told M e n e).steps)

    -- and fewer write the record of an event between;
    pub between_reads : (j : ℕ) → read_event (front_record (run_record layers back j c.program s out).output) ≡ tree (run M (plain back) j e).event
    unfolding run_reply through reply_with
    between_reads j =
        let f = back_run j in
        ap (λ r. read_event (front_record r.output)) (run_of_tree layers lawful c back j s e out h room)
        ∙ ap read_event (front_event (run M (plain back) j e).event _ f.1) ∙ lawful.event_back _ f.0 (limit_fits _ f.1)

    -- as many steps forward from there write the given record again;
    pub run_again : (o : List ℕ) → 32768 ≤ length o
        → run_record layers forward told.taken c.program (front_record told.output) o ≡ record { number = 0; taken = told.taken; output = s ++ drop (length s) o }
    unfolding run_reply through reply_with stop_number
    run_again o k =
        let (x, y, z) = forward_again M e n in
        let given = (lawful.event_read s b e h).0 in
        rw told_taken (run_of_tree layers lawful c forward way.taken (front_record told.output) way.event o written_reads k ∙ rw (x, y, z, given) refl)

    -- and the number of the next step back is that of the rules.
    pub next_step : (step_record layers back c.program (front_record told.output) out).number ≡ (reply out (step_back M way.event)).number
    unfolding step_record step reply_with
    next_step =
        let l : Lent = record { direction = back; room = length out } in
        ap (λ x. (step_record layers back c.program x out).number) written_record
        ∙ ap (λ a. (reply out a).number) (step_of_record layers lawful c l way.event way_recordable ∙ steps_attempt M l way.event room)

    -- The limit is kept,
    pub told_within : told.taken ≤ n
    told_within = omega (arith, told_taken, (way_told M e n e).within)

    -- none of the events passed on the way is a door,
    pub none_between : (j : ℕ) → j < told.taken → (d : Event) × (read_event (front_record (run_record layers back j c.program s out).output) ≡ tree d) × (DoorOf e d → ⊥)
    none_between j l = (_, between_reads j, λ w. never (sym (door_here e w) ∙ (way_told M e n e).nearest j (omega (arith, told_taken))))

    abbrev next : ℕ
    next = (step_record layers back c.program (front_record told.output) out).number

    -- and the number says why it ends.
    pub number_told : EndsSo e way.event n told.taken told.number next
    unfolding stop_number reply_with question_number
    number_told = go way.why refl (way_told M e n e).end
      where
        not_32 : (q : Question) → step_back M way.event ≡ refused q → question_number q ≡ 32 → ⊥
        not_32 q k y = not_allowed M record_is_ten way.event (k ∙ ap refused (number_injective q allowed y))

        go : (w : Stop) → way.why ≡ w → EndTold M e n way w → EndsSo e way.event n told.taken told.number next
        go spent i t = absurd t
        go full i t = absurd t
        go met i t = at_door (bets_of way.event, door_is e way.event t) (told_number ∙ ap stop_number i)
        go (by q) i (f, inl k) =
            let z : next ≡ question_number q = next_step ∙ ap (λ a. (reply out a).number) k in
            no_step (λ w. never (sym (door_here e w) ∙ f)) (λ y. number_positive q (sym z ∙ y)) (λ y. not_32 q k (sym z ∙ y)) (told_number ∙ ap stop_number i ∙ sym z)
        go (by q) i (f, inr (x, y, (d, k))) =
            no_more (λ w. never (sym (door_here e w) ∙ f)) (next_step ∙ ap (λ a. (reply out a).number) k) (told_taken ∙ y) (told_number ∙ ap stop_number (i ∙ ap by x))

    -- It is never 6.
    pub number_not_six : told.number ≡ 6 → ⊥
    unfolding stop_number question_number
    number_not_six z = go way.why refl (way_told M e n e).end
      where
        go : (w : Stop) → way.why ≡ w → EndTold M e n way w → ⊥
        go spent i t = t
        go full i t = t
        go met i t = let y = sym (told_number ∙ ap stop_number i) ∙ z in omega (arith, y)
        go (by q) i t =
            let six : q ≡ possible = number_injective q possible (sym (told_number ∙ ap stop_number i) ∙ z) in
            never_six M (rules_lawful layers lawful c).limits record_is_ten e n way_recordable.1 (i ∙ ap by six)

-- From a reached event there is a door, so many steps back.
module _ (c : Program layers) (q : Start layers) (ms : List Move) (e : Event) (h : read_event (served c q ms).event ≡ tree e) where
  abbrev behind : ℕ → List ℕ → RunReply
  behind n out = goal_door_record layers n c.program (served c q ms).event out

  pub door_back : DoorBack e (served c q ms) behind
  unfolding run_reply through reply_with stop_number question_number
  door_back =
      let M = rules_of c in
      let (i, r, z) = read_reached layers lawful c q ms e h in
      let d = reached_door M (rules_lawful layers lawful c).limits q.goal (start_record layers lawful q).1.1 i e r in
      record {
        steps = d.steps;
        within = omega (arith, d.there, z);
        event = d.event;
        door = (bets_of d.event, door_is e d.event d.door);
        enough = λ n out room l. let (x, y, w) = d.enough n l in door_of_tree c _ e h n out room ∙ rw (x, y, w) refl;
        fewer = λ n out room l.
            let (y, w) = d.fewer n l in
            let is = door_of_tree c _ e h n out room in
            (ap (λ r. r.number) is ∙ ap stop_number w, ap (λ r. r.taken) is ∙ y);
      }
