-- The last question 7 where it is a comparison: equal bytes are the same unifier, and the same body; and the number determines the step.
use Rattle.std.specs.Prelude.{◌≡◌, Bool, true, false, ℕ, ◌+◌, ◌≤◌, ◌<◌, Some}
use Rattle.std.proofs.Math.Path.{refl, ap}
use Rattle.std.proofs.Common.{sym, ◌∙◌}
use mathlib.Core.List.{List, [], ◌∷◌}
use Rattle.std.proofs.Math.Logic.{⊎_elim}
use Rattle.std.proofs.Math.Option.{none}
use native.Mathlib.Omega.{arith}
use Rattle.std.proofs.Math.ListN.{length, length-append}
use Rattle.records.specs.Format.Never.{never}
use Rattle.records.specs.Format.Syntax.{Goal, equal, called, Binding, unifier, Term, Terms, atom, Ancestor, Bet, event, Definition, Event, call, exit}
use Rattle.records.specs.Format.Encode.{term_bytes, goal_bytes, bet_bytes, event_record, record_of}
use Rattle.records.specs.Format.Formed.{GoalFormed, BetFormed}
use Rattle.records.specs.Gate.Question.{question_number, matches, values, locals}
use Rattle.records.specs.Format.HeadLaws.{Known, bytes_all}
use Rattle.records.specs.Format.Heads.{pick}
use Rattle.records.specs.Ends.Range.{cut}
use Rattle.records.specs.Ends.Same.{same_bytes}
use Rattle.records.specs.Ends.SameLaws.{same_true, same_refl}
use Rattle.records.specs.Ends.StandsLaws.{stands_second, same_tree}
use Rattle.records.specs.Format.ItemLaws.{goal_exact}
use Rattle.records.specs.Format.Exact.{bet_exact}
use Rattle.records.specs.Gate.GateLaws.{program_tree, event_tree}
use Rattle.records.specs.Ends.Places.{goal_end, EventParts}
use Rattle.records.specs.Ends.PlacesLaws.{event_parts}
use Rattle.records.specs.Gate.Gate.{tree}
use Rattle.records.specs.declared.plan.Plan.{Plan}
use Rattle.terms.specs.Theory.Outcome.{Unified, too_large, clash, unified, unified_under}
use Rattle.terms.specs.Theory.OutcomeLaws.{unified_formed}
use Rattle.terms.specs.Body.Body.{Body, too_many, undefined, defined, body}
use Rattle.terms.specs.Body.BodyLaws.{body_formed}
use Rattle.terms.specs.Standing.BetRow.{RuledBets}
use Rattle.terms.specs.Values.Applied.{TermAt}
use Rattle.terms.specs.Body.BodyBytes.{AtomAt}
use Rattle.terms.specs.Unifier.Equality.{unifier_bytes}
use Rattle.terms.specs.Standing.Accepted.{top_end, bets_at, frame_under, bets_moved, term_moved, atom_moved}
use Rattle.terms.specs.Standing.AcceptedLaws.{accepted_rest, left_side, right_side, parts_under}
use Rattle.terms.specs.declared.variables.Frame.{Frame}
use Rattle.terms.specs.Unifier.Told.{UnifierHere, UnifierLong, BodyHere, BodyLong}
use Rattle.stepper.specs.Rules.Machine.{unified?, body?, StepOutcome, gives, Machine, refused}
use Rattle.stepper.specs.Plans.View.{event_view}
use Rattle.stepper.specs.Plans.ViewLaws.{top_stands, rest_stands}
use Rattle.stepper.specs.Plans.Made.{Cuts, Plans}
use Rattle.stepper.specs.Plans.MadeLaws.{cuts, put_cuts}
use Rattle.stepper.specs.Plans.LayoutLaws.{goal_starts, goal_ends, goal_stops, bet_dropped_plans, atom_left_plans}
use Rattle.stepper.specs.Rules.AdmittedLaws.{back_refuses}
use Rattle.stepper.specs.Step.AtomStep.{ProgramRead}
use Rattle.stepper.specs.Step.LastSeven.{compared_number, unifier_number, body_number, UnifierViewed, BodyViewed, ancestor_frame}
use Rattle.stepper.specs.Step.SteppedLaws.{event_limited}
use Rattle.stepper.specs.declared.rules.Rule.TheVariants.{EqualCall, AtomCall}
use Rattle.stepper.specs.declared.view.View.{View}
use Rattle.stepper.specs.Rules.Rules.{by_unifier, by_body, limited_by, fitting, matching, top_unifier, ununifiable, into_call, into_exit, candidate, step_back}
use Rattle.stepper.specs.Services.Services.{record_limit, machine}
use Rattle.stepper.specs.Step.Stepped.{BothPassed, Determines, refuses, emits}
use Rattle.stepper.specs.Rules.AnswerLaws.{fitting_none}
use Rattle.stepper.specs.Rules.Back.{body_compared, unifier_compared, compared, checked_directly, step_back_direct}
use Rattle.stepper.specs.Rules.BackLaws.{step_back_directly}
use Rattle.stepper.specs.Services.ServiceLaws.{limit_fits, fits_limit}
use Rattle.stepper.specs.Services.Desk.{layers}
use Rattle.stepper.specs.Plans.Dispatch.{UnifierOf, BodyOf}
use Rattle.stepper.specs.Plans.RulePlans.{back_plan}

-- the number of a comparison by its outcome
compared_yes {ℓ} : {P : Type ℓ} (d : Dec P) → P → compared_number d ≡ 0
unfolding compared_number
compared_yes (yes p) h = refl
compared_yes (no p) h = absurd (p h)

compared_no {ℓ} : {P : Type ℓ} (d : Dec P) → (P → ⊥) → compared_number d ≡ 7
unfolding compared_number question_number
compared_no (yes p) h = absurd (h p)
compared_no (no p) h = refl

compared_by {ℓ} : {P : Type ℓ} (d : Dec P) (b : Bool) → (b ≡ true → P) → (P → b ≡ true) → pick b 0 7 ≡ compared_number d
compared_by d true f g = sym (compared_yes d (f refl))
compared_by d false f g = sym (compared_no d (λ p. never (sym (g p))))

-- the bet on top is as long as its bytes, so a longer unifier is another
module _ {s : List ℕ} {v : View} (known : Known s) (w : UnifierViewed s v) where
  unifier_parts : EventParts s w.port (equal w.left w.right) w.ancestors (unifier w.bindings ∷ w.bets)
  unifier_parts = event_parts s known w.port (equal w.left w.right) w.ancestors (unifier w.bindings ∷ w.bets) w.reads

  pub rest_from : v.bets.rest ≡ top_end (bets_at (equal w.left w.right) w.ancestors) (bet_bytes (unifier w.bindings))
  unfolding event_view
  rest_from = ap (λ x. x.bets.rest) w.same

  pub rest_count : v.bets.fewer ≡ length w.bets
  unfolding event_view
  rest_count = ap (λ x. x.bets.fewer) w.same ∙ omega arith

  pub unifier_content : v.goal.content ≡ 5
  unfolding event_view
  unifier_content = ap (λ x. x.goal.content) w.same

  pub unifier_middle : v.goal.middle ≡ 5 + length (term_bytes w.left)
  unfolding event_view
  unifier_middle = ap (λ x. x.goal.middle) w.same

  pub unifier_end : v.goal.to ≡ goal_end 4 (equal w.left w.right)
  unfolding event_view
  unifier_end = ap (λ x. x.goal.to) w.same

  abbrev pub rest_bets : RuledBets s v.bets.rest v.bets.fewer
  rest_bets = bets_moved rest_from rest_count (accepted_rest s known (equal w.left w.right) (unifier w.bindings) w.reads)

  abbrev pub unifier_left : TermAt s v.goal.content v.goal.middle
  unifier_left = term_moved unifier_content unifier_middle (left_side s known w.left w.right w.reads)

  abbrev pub unifier_right : TermAt s v.goal.middle v.goal.to
  unifier_right = term_moved unifier_middle unifier_end (right_side s known w.left w.right w.reads)

  -- the count and pairs of the bet on top
  pub unifier_cut : Cuts s (record { from = v.bet.content; to = v.bet.to }) (unifier_bytes w.bindings)
  unfolding event_view
  unifier_cut =
      rw w.same
      (cuts (stands_second (0x20 ∷ []) (unifier_bytes w.bindings) (top_stands bet_bytes (unifier w.bindings) w.bets unifier_parts.bets_stand))
      (omega (arith, (rest_stands bet_bytes (unifier w.bindings) w.bets unifier_parts.bets_stand).end)))

  abbrev its_unifier : Unified
  its_unifier = unified_under w.bets w.left w.right

  pub unifier_large : its_unifier ≡ too_large → 8 ≡ unifier_number its_unifier w.bindings
  unfolding unifier_number question_number
  unifier_large h = rw h refl

  pub unifier_clash : its_unifier ≡ clash → 7 ≡ unifier_number its_unifier w.bindings
  unfolding unifier_number
  unifier_clash h = rw h (sym (compared_no (unified? clash (unified w.bindings)) (λ e. never cc)))

  pub unifier_same : {before x : List ℕ} {n : ℕ} {r : ℕ} → UnifierHere its_unifier before x n
      → r ≡ pick (same_bytes (cut x (record { from = 0; to = n })) (cut s (record { from = v.bet.content; to = v.bet.to }))) 0 7
      → r ≡ unifier_number its_unifier w.bindings
  unfolding unifier_number
  unifier_same h e =
      e ∙ rw (h.is, (put_cuts h.put h.room).is, unifier_cut.is) (compared_by (unified? (unified σ) (unified w.bindings)) _ (λ b. there (same_true _ _ b)) again)
    where
      σ : List Binding
      σ = h.bindings

      formed : BetFormed (unifier σ)
      formed = unified_formed w.bets w.left w.right σ h.is unifier_parts.formed.2.1.1 unifier_parts.formed.0.0 unifier_parts.formed.0.1

      there : unifier_bytes σ ≡ unifier_bytes w.bindings → unified σ ≡ unified w.bindings
      there b = let k = same_tree bet_exact (unifier σ) (unifier w.bindings) formed unifier_parts.formed.2.1.0 (ap (λ (l : List ℕ). 0x20 ∷ l) b) in cc

      again : unified σ ≡ unified w.bindings → same_bytes (unifier_bytes σ) (unifier_bytes w.bindings) ≡ true
      again b = let k : σ ≡ w.bindings = cc in rw k (same_refl (unifier_bytes w.bindings))

  pub unifier_long : {room : ℕ} → 32768 ≤ room → UnifierLong its_unifier room → 7 ≡ unifier_number its_unifier w.bindings
  unfolding unifier_number
  unifier_long i h =
      rw h.is (sym (compared_no (unified? (unified h.bindings) (unified w.bindings))
      (λ e. let k : h.bindings ≡ w.bindings = cc in ⊎_elim (λ l. far (rw k at l)) (λ l. far (let z = rw k at l in omega arith)) h.long)))
    where
      far : 32768 < length (unifier_bytes w.bindings) → ⊥
      far l =
          let e = (event_tree s (bytes_all s known) _ w.reads).short in
          let z = stands_second (0x20 ∷ []) (unifier_bytes w.bindings) (top_stands bet_bytes (unifier w.bindings) w.bets unifier_parts.bets_stand) in
          omega (arith, (rest_stands bet_bytes (unifier w.bindings) w.bets unifier_parts.bets_stand).end)

-- frames that differ in nothing
same_depth : (g u b h : ℕ) {d k : ℕ} → d ≡ k
    → ◌≡◌ {A = Frame} (record { goal = g; ancestors = u; depth = d; bets = b; height = h }) (record { goal = g; ancestors = u; depth = k; bets = b; height = h })
same_depth g u b h e = rw e refl

-- the same for a body
module _ {program s : List ℕ} {v : View} (byte : Known program) (known : Known s) (d : ProgramRead program) (w : BodyViewed s v) where
  pub body_parts : EventParts s w.port w.goal (called w.predicate w.terms ∷ w.ancestors) w.bets
  body_parts = event_parts s known w.port w.goal (called w.predicate w.terms ∷ w.ancestors) w.bets w.reads

  pub under_frame : ancestor_frame v ≡ frame_under w.goal w.predicate w.terms w.ancestors w.bets
  unfolding event_view
  under_frame = ap ancestor_frame w.same ∙ same_depth _ _ _ _ (omega arith)

  abbrev pub under_atom : AtomAt s (ancestor_frame v)
  under_atom = atom_moved under_frame (parts_under body_parts)

  pub whole_goal : Cuts s (record { from = v.goal.from; to = v.goal.to }) (goal_bytes w.goal)
  unfolding event_view
  whole_goal = rw (w.same, goal_starts 4 w.goal, goal_ends 4 w.goal) (cuts body_parts.goal_stands (goal_stops body_parts))

  abbrev its_body : Body
  its_body = body d.definitions w.predicate w.terms w.ancestors w.bets

  pub body_beyond : its_body ≡ too_many → 9 ≡ body_number its_body w.goal
  unfolding body_number question_number
  body_beyond h = rw h refl

  pub body_missing : its_body ≡ undefined → 7 ≡ body_number its_body w.goal
  unfolding body_number
  body_missing h = rw h (sym (compared_no (body? undefined (defined w.goal)) (λ e. never cc)))

  pub body_same : {before x : List ℕ} {n : ℕ} {r : ℕ} → BodyHere its_body before x n
      → r ≡ pick (same_bytes (cut x (record { from = 0; to = n })) (cut s (record { from = v.goal.from; to = v.goal.to }))) 0 7
      → r ≡ body_number its_body w.goal
  unfolding body_number
  body_same h e =
      e ∙ rw (h.is, (put_cuts h.put h.room).is, whole_goal.is) (compared_by (body? (defined b) (defined w.goal)) _ (λ z. there (same_true _ _ z)) again)
    where
      b : Goal
      b = h.goal

      formed : GoalFormed b
      formed =
          let r = program_tree program (bytes_all program byte) d.definitions d.reads in
          body_formed d.definitions w.predicate w.terms w.ancestors w.bets b r.formed.1 r.keeps body_parts.formed.1.1.0 h.is

      there : goal_bytes b ≡ goal_bytes w.goal → defined b ≡ defined w.goal
      there z = ap defined (same_tree goal_exact b w.goal formed body_parts.formed.0 z)

      again : defined b ≡ defined w.goal → same_bytes (goal_bytes b) (goal_bytes w.goal) ≡ true
      again z = let k : b ≡ w.goal = cc in rw k (same_refl (goal_bytes w.goal))

  pub body_long : {room : ℕ} → 32768 ≤ room → BodyLong its_body room → 7 ≡ body_number its_body w.goal
  unfolding body_number
  body_long i h =
      rw h.is (sym (compared_no (body? (defined h.goal) (defined w.goal))
      (λ e. let k : h.goal ≡ w.goal = cc in far (let z = rw k at h.long in omega arith))))
    where
      far : 32768 < length (goal_bytes w.goal) → ⊥
      far l = let e = (event_tree s (bytes_all s known) _ w.reads).short in omega (arith, goal_stops body_parts)

-- a step back that ends in a comparison
compared_determined {ℓ} : {P : Type ℓ} {s : List ℕ} {p : Plan} {a : StepOutcome} {k : ℕ} (b : Bool) (c : Event) (d : Dec P)
    → record_limit c ≡ none → a ≡ fitting b (record_limit c) (matching d c) → k ≡ compared_number d → Plans s p c → Determines k p s a
unfolding matching compared_number question_number limited_by
compared_determined b c (yes p) l e i w = emits i w (e ∙ rw l (fitting_none b (gives c) ∙ sym (fitting_none false (gives c))))
compared_determined b c (no p) l e i w = refuses matches i (e ∙ rw l (fitting_none b (refused matches)))

-- the candidates are no longer than the given events
module _ (g : Goal) (u : List Ancestor) (s : List Bet) where
  unifier_less : (m : List Binding) → length (event_record (event call g u s)) ≤ length (event_record (event exit g u (unifier m ∷ s)))
  unfolding record_of
  unifier_less m = simp length-append (omega arith)

  body_less : (p : ℕ) (ts : Terms) → length (event_record (event call (atom p ts) u s)) ≤ length (event_record (event call g (called p ts ∷ u) s))
  unfolding record_of
  body_less p ts = simp length-append (omega arith)

module _ (P : List Definition) {k : ℕ} {t : List ℕ} {plan : Plan} where
  -- exit of an equality: question 8, and whether the bet on top is the unifier
  pub exit_equality : (l r : Term) (u : List Ancestor) (σ : List Binding) (s : List Bet) → record_limit (event exit (equal l r) u (unifier σ ∷ s)) ≡ none
      → k ≡ unifier_number (unified_under s l r) σ → Plans t plan (event call (equal l r) u s)
      → Determines k plan t (step_back (machine layers P) (event exit (equal l r) u (unifier σ ∷ s)))
  unfolding unifier_number candidate into_exit top_unifier by_unifier step_back_direct checked_directly compared unifier_compared question_number
  exit_equality l r u σ s n i w = go (unified_under s l r) refl
    where
      M : Machine
      M = machine layers P

      e : Event
      e = event exit (equal l r) u (unifier σ ∷ s)

      c : Event
      c = event call (equal l r) u s

      short : record_limit c ≡ none
      short = fits_limit c (omega (arith, unifier_less (equal l r) u s σ, limit_fits e n))

      asked : (x : Unified) → unified_under s l r ≡ x → by_unifier x c (λ m. c) ≡ gives c
          → step_back M e ≡ fitting (ununifiable M c) (record_limit c) (matching (unified? x (unified σ)) c)
      asked x q y =
          step_back_directly M e n ∙ ap (λ z. checked_directly M e (by_unifier z c (λ m. c))) q ∙ ap (checked_directly M e) y
          ∙ ap (λ z. fitting (ununifiable M c) (record_limit c) (matching (unified? z (unified σ)) c)) q

      go : (x : Unified) → unified_under s l r ≡ x → Determines k plan t (step_back M e)
      go too_large q = refuses values (i ∙ ap (λ z. unifier_number z σ) q) (back_refuses M e (ap (λ z. by_unifier z c (λ m. c)) q))
      go clash q = compared_determined (ununifiable M c) c (unified? clash (unified σ)) short (asked clash q refl) (i ∙ ap (λ z. unifier_number z σ) q) w
      go (unified τ) q =
          compared_determined (ununifiable M c) c (unified? (unified τ) (unified σ)) short (asked (unified τ) q refl) (i ∙ ap (λ z. unifier_number z σ) q) w

  -- call of a goal under an atom: question 9, and whether the goal is the body
  pub call_body : (g : Goal) (p : ℕ) (ts : Terms) (u : List Ancestor) (s : List Bet) → record_limit (event call g (called p ts ∷ u) s) ≡ none
      → k ≡ body_number (body P p ts u s) g → Plans t plan (event call (atom p ts) u s)
      → Determines k plan t (step_back (machine layers P) (event call g (called p ts ∷ u) s))
  unfolding body_number candidate into_call by_body step_back_direct checked_directly compared body_compared question_number
  call_body g p ts u s n i w = go (body P p ts u s) refl
    where
      M : Machine
      M = machine layers P

      e : Event
      e = event call g (called p ts ∷ u) s

      c : Event
      c = event call (atom p ts) u s

      short : record_limit c ≡ none
      short = fits_limit c (omega (arith, body_less g u s p ts, limit_fits e n))

      asked : (x : Body) → body P p ts u s ≡ x → by_body x c (λ b. c) ≡ gives c
          → step_back M e ≡ fitting (ununifiable M c) (record_limit c) (matching (body? x (defined g)) c)
      asked x q y =
          step_back_directly M e n ∙ ap (λ z. checked_directly M e (by_body z c (λ b. c))) q ∙ ap (checked_directly M e) y
          ∙ ap (λ z. fitting (ununifiable M c) (record_limit c) (matching (body? z (defined g)) c)) q

      go : (x : Body) → body P p ts u s ≡ x → Determines k plan t (step_back M e)
      go too_many q = refuses locals (i ∙ ap (λ z. body_number z g) q) (back_refuses M e (ap (λ z. by_body z c (λ b. c)) q))
      go undefined q = compared_determined (ununifiable M c) c (body? undefined (defined g)) short (asked undefined q refl) (i ∙ ap (λ z. body_number z g) q) w
      go (defined b) q =
          compared_determined (ununifiable M c) c (body? (defined b) (defined g)) short (asked (defined b) q refl) (i ∙ ap (λ z. body_number z g) q) w

-- from an accepted event and its view to what the code asks for, and to the step
module _ {program s : List ℕ} (known : Known s) (w : BothPassed program s) {v : View} (same : v ≡ event_view w.event) where
  abbrev pub unifier_viewed : UnifierOf w.event → UnifierViewed s v
  unifier_viewed f = record {
    port = exit;
    left = f.left;
    right = f.right;
    ancestors = f.ancestors;
    bindings = f.bindings;
    bets = f.bets;
    reads = w.reads ∙ ap tree f.is;
    same = same ∙ ap event_view f.is;
  }

  abbrev pub body_viewed : BodyOf w.event → BodyViewed s v
  body_viewed f = record {
    port = call;
    goal = f.goal;
    predicate = f.predicate;
    terms = f.terms;
    ancestors = f.ancestors;
    bets = f.bets;
    reads = w.reads ∙ ap tree f.is;
    same = same ∙ ap event_view f.is;
  }

  -- the plans of the two rules that a comparison decides
  exit_plans : (f : UnifierOf w.event) → Plans s (back_plan v (Some EqualCall)) (event call (equal f.left f.right) f.ancestors f.bets)
  unfolding back_plan
  exit_plans f = rw (same ∙ ap event_view f.is) (bet_dropped_plans call (event_parts s known _ _ _ _ (w.reads ∙ ap tree f.is)))

  called_plans : (f : BodyOf w.event) → Plans s (back_plan v (Some AtomCall)) (event call (atom f.predicate f.terms) f.ancestors f.bets)
  unfolding back_plan
  called_plans f = rw (same ∙ ap event_view f.is) (atom_left_plans call (event_parts s known _ _ _ _ (w.reads ∙ ap tree f.is)))

  module _ {k : ℕ} where
    pub back_exit : (f : UnifierOf w.event) → k ≡ unifier_number (unified_under f.bets f.left f.right) f.bindings
        → Determines k (back_plan v (Some EqualCall)) s (step_back (machine layers w.definitions) w.event)
    back_exit f i =
        rw f.is (exit_equality w.definitions f.left f.right f.ancestors f.bindings f.bets (event_limited s known _ (w.reads ∙ ap tree f.is)) i (exit_plans f))

    pub back_called : (f : BodyOf w.event) → k ≡ body_number (body w.definitions f.predicate f.terms f.ancestors f.bets) f.goal
        → Determines k (back_plan v (Some AtomCall)) s (step_back (machine layers w.definitions) w.event)
    back_called f i =
        rw f.is (call_body w.definitions f.goal f.predicate f.terms f.ancestors f.bets (event_limited s known _ (w.reads ∙ ap tree f.is)) i (called_plans f))
