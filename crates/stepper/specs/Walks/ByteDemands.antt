-- Demand 2's step back and demand 3, on bytes: for all lawful layers, every program, and lists of the services' own steps. Such a list ends at the record
-- of a reached event, and n steps forward at that of the event which n steps reach.
use Rattle.std.specs.Prelude.{◌≡◌, ◌↔◌, ◌⊎◌, List, ℕ, zero, suc, ◌+◌, ◌≤◌, length, replicate}
use Rattle.std.proofs.Common.{sym, ◌∙◌, subst, inl, inr, zero-add, arith}
use Rattle.std.proofs.Math.Path.{ap}
use Rattle.std.proofs.Math.Option.{Option, none, some, map}
use Rattle.records.specs.Gate.GateLaws.{tree_injective}
use Rattle.records.specs.Format.Syntax.{Event}
use Rattle.records.specs.Format.Encode.{event_record}
use Rattle.records.specs.Gate.Gate.{tree}
use Rattle.stepper.specs.Services.Layers.{Layers, Lawful}
use Rattle.stepper.specs.Rules.Machine.{Machine}
use Rattle.stepper.specs.Rules.AnswerLaws.{accepted_gives}
use Rattle.stepper.specs.Rules.Rules.{first_event, step, step_forward, step_back, accepted}
use Rattle.stepper.specs.Walks.Reached.{attempted, steps, Reached}
use Rattle.stepper.specs.Walks.ReachedLaws.{attempt_steps, steps_attempt, one_event}
use Rattle.stepper.specs.Walks.Walk.{back, net, encoded, Reach}
use Rattle.stepper.specs.Walks.WalkLaws.{net_encoded}
use Rattle.stepper.specs.Run.RunLaws.{and_run, run_is_steps, reached_run}
use Rattle.stepper.specs.Walks.TreeDemands.{same_end_always, first_back, reached_back, steps_reach}
use Rattle.stepper.specs.Services.Services.{serve, CameFrom, Move, forward_into, back_into, Program, rules_of, Start, start, served}
use Rattle.stepper.specs.Services.ServiceLaws.{Recordable, lent, limit_fits, rules_lawful, start_record, step_recordable, attempt_recordable, serve_agrees, serve_accepts, serve_gives, served_steps, served_bytes}

module _ (L : Layers) (laws : Lawful L) (c : Program L) where
  -- the event at which a list of steps ends
  abbrev pub end_of : Start L → List Move → Event
  end_of q ms = (steps (rules_of c) lent q.goal ms).event

  module _ (q : Start L) (ms : List Move) where
    -- its record is where the list on bytes ends,
    ends_recorded : (served c q ms).event ≡ event_record (end_of q ms)
    unfolding encoded
    ends_recorded = ap (λ w. w.event) (served_steps L laws c q ms).0

    end_recordable : Recordable (end_of q ms)
    end_recordable = (served_steps L laws c q ms).1

    pub served_read : L.read_event (served c q ms).event ≡ tree (end_of q ms)
    served_read = ap L.read_event ends_recorded ∙ laws.event_back _ end_recordable.0 (limit_fits _ end_recordable.1)

    -- an event is reached, in as many steps as the list's net number
    abbrev pub NetReached : Event → Type 0
    NetReached e = (n : ℕ) × Reached (rules_of c) q.goal n e × (n + (served c q ms).backs ≡ (served c q ms).forwards)

    -- and so is that event.
    pub served_reached : NetReached (end_of q ms)
    unfolding encoded
    served_reached =
        let (n, r, z) = steps_reach (rules_of c) (rules_lawful L laws c).limits lent q.goal ms (start_record L laws q).1.1 in
        let s = (served_steps L laws c q ms).0 in
        (n, r, ap (λ w. n + w.backs) s ∙ z ∙ ap (λ w. w.forwards) (sym s))

    -- The same of the event that its record reads as;
    pub read_reached : (e : Event) → L.read_event (served c q ms).event ≡ tree e → NetReached e
    read_reached e h = subst NetReached (tree_injective (sym served_read ∙ h)) served_reached

    -- and the event reached in that many steps is the one that its record reads as.
    pub reached_read : (n : ℕ) (e : Event) → n + (served c q ms).backs ≡ (served c q ms).forwards → Reached (rules_of c) q.goal n e
        → L.read_event (served c q ms).event ≡ tree e
    reached_read n e z h =
        let (i, r, y) = served_reached in
        let same : i ≡ n = omega arith in
        served_read ∙ ap tree (one_event (rules_of c) q.goal n _ e (subst (λ n. Reached (rules_of c) q.goal n (end_of q ms)) same r) h)

  -- n steps forward, each lent an output that passes question 5, are all accepted and end at the record of the event which n steps reach
  pub reached_served : (q : Start L) (n : ℕ) (e : Event) → Reached (rules_of c) q.goal n e → (out : List ℕ) → 32768 ≤ length out
      → served c q (replicate n (forward_into out)) ≡ record { event = event_record e; forwards = n; backs = 0 }
  unfolding encoded and_run
  reached_served q n e h out k =
      let M = rules_of c in
      let m = forward_into out in
      let (y, t, _) = reached_run M q.goal n e h in
      let walked : steps M lent q.goal (replicate n m) ≡ record { event = e; forwards = n; backs = 0 }
      = run_is_steps M (λ m. m.direction) (λ m. attempted M (lent m)) m (λ d. ap accepted (steps_attempt M (lent m) d k)) n (first_event q.goal) ∙ rw (y, t, zero-add) in
      (served_steps L laws c q (replicate n m)).0 ∙ ap (encoded event_record) walked

  -- Demand 2, the step back. From the record at which a list of steps ends, a step forward that is accepted is undone by a step back, if that
  -- is lent an output of 32,768 bytes or more.
  pub undone : (q : Start L) (ms : List Move) (a b r : List ℕ) → 32768 ≤ length b
      → serve L c.program (forward_into a) (served c q ms).event ≡ some r
      → serve L c.program (back_into b) r ≡ some (served c q ms).event
  unfolding step
  undone q ms a b r n h =
      let M = rules_of c in
      let t = end_of q ms in
      let ends = ends_recorded q ms in
      let recorded = end_recordable q ms in
      let (d, gave, ahead) = serve_accepts L laws c _ t r recorded (ap (serve L c.program _) (sym ends) ∙ h) in
      let (i, reached, _) = served_reached q ms in
      let backs = reached_back M (rules_lawful L laws c).limits q.goal i t d (start_record L laws q).1.1 reached (attempt_steps M _ t d ahead) in
      ap (serve L c.program _) gave
      ∙ serve_gives L laws c _ d t (attempt_recordable L laws c _ t d recorded ahead) (steps_attempt M _ d n ∙ backs)
      ∙ ap {B = Option (List ℕ)} some (sym ends)

  -- Every reached event but a query's first came from another.
  pub came_from : (q : Start L) (ms : List Move) (b : List ℕ) → 32768 ≤ length b
      → (((served c q ms).event ≡ start q) × (serve L c.program (back_into b) (served c q ms).event ≡ none)) ⊎ CameFrom L c.program (served c q ms).event b
  unfolding step Reach accepted
  came_from q ms b k = go (served_reached q ms).0 (served_reached q ms).1
    where
      M : Machine
      M = rules_of c

      t : Event
      t = end_of q ms

      recorded : Recordable t
      recorded = end_recordable q ms

      ends : (served c q ms).event ≡ event_record t
      ends = ends_recorded q ms

      go : (n : ℕ) → Reached M q.goal n t
          → (((served c q ms).event ≡ start q) × (serve L c.program (back_into b) (served c q ms).event ≡ none)) ⊎ CameFrom L c.program (served c q ms).event b
      go zero h = inl (
        ends ∙ ap event_record (sym h) ∙ sym (start_record L laws q).0,
        ap (serve L c.program _) ends ∙ serve_agrees L laws c _ t recorded
            ∙ ap (λ a. map event_record (accepted a)) (steps_attempt M _ t k ∙ ap (step_back M) (sym h) ∙ first_back M q.goal),
      )
      go (suc n) h =
          let d = h.0 in
          let ahead = accepted_gives (step_forward M d) t h.2 in
          let before = reached_back M (rules_lawful L laws c).limits q.goal n d t (start_record L laws q).1.1 h.1 ahead in
          let kept = step_recordable L laws c back t d recorded before in
          inr (
            event_record d,
            ap (serve L c.program _) ends ∙ serve_gives L laws c _ t d recorded (steps_attempt M _ t k ∙ before),
            λ a j. serve_gives L laws c _ d t kept (steps_attempt M _ d j ∙ ahead) ∙ ap {B = Option (List ℕ)} some (sym ends),
          )

  -- Demand 3. Two lists of steps, each from a query's first event, end at the records of two events d and e; these are equal exactly where the goals
  -- of the queries are and so are the net numbers.
  pub same_end : (p q : Start L) (ms ns : List Move)
      → (d : Event) × (e : Event)
      × (L.read_event (served c p ms).event ≡ tree d)
      × (L.read_event (served c q ns).event ≡ tree e)
      × ((d ≡ e) ↔ ((p.goal ≡ q.goal) × (net (served c p ms) ≡ net (served c q ns))))
  same_end p q ms ns =
      let m : net (served c p ms) ≡ net (steps (rules_of c) lent p.goal ms) = ap net (served_steps L laws c p ms).0 ∙ net_encoded event_record _ in
      let n : net (served c q ns) ≡ net (steps (rules_of c) lent q.goal ns) = ap net (served_steps L laws c q ns).0 ∙ net_encoded event_record _ in
      let t = same_end_always (rules_of c) lent p.goal q.goal ms ns in (
        end_of p ms,
        end_of q ns,
        served_read p ms,
        served_read q ns,
        ((λ h. ((t.0 h).0, m ∙ (t.0 h).1 ∙ sym n)), (λ h. t.1 (h.0, sym m ∙ h.1 ∙ n))),
      )

  -- The same of the records at which they end.
  pub same_end_records : (p q : Start L) (ms ns : List Move)
      → ((served c p ms).event ≡ (served c q ns).event)
      ↔ ((p.goal ≡ q.goal) × (net (served c p ms) ≡ net (served c q ns)))
  same_end_records p q ms ns =
      let r = same_end p q ms ns in
      let d = r.0 in
      let e = r.1 in (
        (λ h. r.4.0 (tree_injective (sym r.2 ∙ ap L.read_event h ∙ r.3))),
        (λ h. (laws.event_read _ (served_bytes L laws c p ms) d r.2).0 ∙ ap event_record (r.4.1 h) ∙ sym (laws.event_read _ (served_bytes L laws c q ns) e r.3).0),
      )
