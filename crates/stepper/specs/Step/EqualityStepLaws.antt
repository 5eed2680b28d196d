-- An equality in bytes: where its terms and the bets stand, what each answer for its unifier makes of the step, and that this is the step.
use Rattle.std.specs.Prelude.{◌≡◌, false, List, ◌∷◌, ℕ, ◌+◌, ◌≤◌, Ok, Err}
use Rattle.std.proofs.Math.Path.{refl, ap}
use Rattle.std.proofs.Common.{◌∙◌, subst, ⊎_elim, arith}
use Rattle.std.proofs.Math.Option.{none}
use Rattle.std.proofs.Math.Nat.{zero-add}
use Rattle.std.proofs.Math.ListN.{length}
use Rattle.records.specs.Format.Syntax.{Term, equal, unifier, Port, call, Event, event, Ancestor, Bet, Definition, exit, fail, redo}
use Rattle.records.specs.Format.Encode.{term_bytes, port_byte}
use Rattle.records.specs.Gate.Question.{values, question_number}
use Rattle.records.specs.Format.HeadLaws.{Known}
use Rattle.records.specs.Writing.Plan.{PlanInside}
use Rattle.records.specs.Ends.Places.{goal_end, EventParts}
use Rattle.records.specs.Ends.PlacesLaws.{event_parts}
use Rattle.records.specs.declared.put.Range.{Range}
use Rattle.records.specs.Gate.Gate.{tree}
use Rattle.terms.specs.Theory.Outcome.{Unified, too_large, clash, unified_under}
use Rattle.terms.specs.Standing.BetRow.{RuledBets}
use Rattle.terms.specs.Values.Applied.{TermAt}
use Rattle.terms.specs.Standing.Accepted.{bets_at, bets_moved, term_moved}
use Rattle.terms.specs.Standing.AcceptedLaws.{accepted_bets, left_side, right_side}
use Rattle.terms.specs.Unifier.Equality.{unifier_bytes, UnifierAnswer, UnifierAnswered, as_refusal}
use Rattle.terms.specs.Unifier.Told.{UnifierHere, UnifierLong, Told}
use Rattle.terms.specs.Unifier.ToldLaws.{told}
use Rattle.terms.specs.declared.equality.UnifierRefusal.{UnifierRefusal}
use Rattle.terms.specs.declared.equality.UnifierRefusal.TheVariants.{TooLarge, TooLong}
use Rattle.records.specs.declared.questions.Refusal.TheVariants.{Values, Fits}
use Rattle.stepper.specs.declared.emit.Reached.{Reached}
use Rattle.stepper.specs.Rules.Machine.{StepOutcome, gives}
use Rattle.stepper.specs.Rules.Rules.{by_unifier, limited_by, from_call, rule, step_forward, into_fail, candidate, step_back}
use Rattle.stepper.specs.Services.Services.{record_limit, machine}
use Rattle.stepper.specs.Plans.View.{event_view}
use Rattle.stepper.specs.Plans.Layouts.{kept}
use Rattle.stepper.specs.Plans.Made.{Plans}
use Rattle.stepper.specs.Plans.LayoutLaws.{kept_within, kept_plans}
use Rattle.stepper.specs.Step.Stepped.{StepAnswer, Stepped, BothPassed}
use Rattle.stepper.specs.Step.SteppedLaws.{stepped_refused, long_refused, event_short, event_limited}
use Rattle.stepper.specs.Step.Completed.{Gap, lent_part, handed_back, InOrder, unifier_front, unifier_back, unifier_ends, Completed}
use Rattle.stepper.specs.Step.CompletedLaws.{lent_room, lent_fits, lent_put, stepped_completed, in_order, unifier_place, unifier_record, unifier_record_length, unifier_ends_are}
use Rattle.stepper.specs.Rules.AdmittedLaws.{back_settled, put_always}
use Rattle.stepper.specs.Step.EqualityStep.{settled_equality, EqualityViewed}
use Rattle.stepper.specs.declared.view.View.{View}
use Rattle.stepper.specs.Rules.AnswerLaws.{given_unifier}
use Rattle.stepper.specs.Services.ServiceLaws.{machine_limits}
use Rattle.stepper.specs.Rules.Listed.{Rule, equal_clash, equal_redo}
use Rattle.stepper.specs.Services.Desk.{layers}
use Rattle.stepper.specs.Plans.Dispatch.{EqualityOf}

-- what an answer tells, where the code matched on it
pub told_as : {before after : List ℕ} {u : Unified} {r x : UnifierAnswer} → UnifierAnswered before after u r → r ≡ x → Told before after u x
told_as {before} {after} {u} w e = subst (Told before after u) e (told w)

-- where the view says the parts are
pub record EqualityPlaces (v : View) (l r : Term) (bets count : ℕ) : Type 0 where
  pub bets_from : v.bets.from ≡ bets
  pub bets_count : v.bets.count ≡ count
  pub content : v.goal.content ≡ 5
  pub middle : v.goal.middle ≡ 5 + length (term_bytes l)
  pub end : v.goal.to ≡ goal_end 4 (equal l r)

module _ {s : List ℕ} {v : View} (known : Known s) (w : EqualityViewed s v) where
  pub equality_places : EqualityPlaces v w.left w.right (bets_at (equal w.left w.right) w.ancestors + 2) (length w.bets)
  unfolding event_view
  equality_places = record {
    bets_from = ap (λ x. x.bets.from) w.same;
    bets_count = ap (λ x. x.bets.count) w.same;
    content = ap (λ x. x.goal.content) w.same;
    middle = ap (λ x. x.goal.middle) w.same;
    end = ap (λ x. x.goal.to) w.same;
  }

  abbrev pub equality_bets : RuledBets s v.bets.from v.bets.count
  equality_bets = bets_moved equality_places.bets_from equality_places.bets_count (accepted_bets s known (equal w.left w.right) w.reads)

  abbrev pub equality_left : TermAt s v.goal.content v.goal.middle
  equality_left = term_moved equality_places.content equality_places.middle (left_side s known w.left w.right w.reads)

  abbrev pub equality_right : TermAt s v.goal.middle v.goal.to
  equality_right = term_moved equality_places.middle equality_places.end (right_side s known w.left w.right w.reads)

module _ {s : List ℕ} {v : View} (known : Known s) (w : EqualityViewed s v) (p q : Port) {clash_port found_port : ℕ} (cp : port_byte p ≡ clash_port) (fp : port_byte q ≡ found_port) where
  equality_parts : EventParts s w.port (equal w.left w.right) w.ancestors w.bets
  equality_parts = event_parts s known w.port (equal w.left w.right) w.ancestors w.bets w.reads

  -- the plan of the way without a unifier
  pub clash_plans : Plans s (kept v clash_port) (event p (equal w.left w.right) w.ancestors w.bets)
  clash_plans = rw (w.same, ← cp) (kept_plans p equality_parts)

  -- each answer
  abbrev its_unifier : Unified
  its_unifier = unified_under w.bets w.left w.right

  abbrev its_answer : StepOutcome
  its_answer = settled_equality p q w.left w.right w.ancestors w.bets

  module _ {before after : List ℕ} where
    pub equality_large : its_unifier ≡ too_large → after ≡ before → Stepped its_answer before (Err Values) after
    unfolding settled_equality limited_by by_unifier question_number
    equality_large h k = rw (h, k) (stepped_refused values refl)

    pub equality_clash : {within : List ℕ} {answer : StepAnswer} → its_unifier ≡ clash → within ≡ before
        → ((e : Event) → Plans s (kept v clash_port) e → Stepped (limited_by record_limit false (gives e)) within answer after) → Stepped its_answer before answer after
    unfolding settled_equality limited_by by_unifier
    equality_clash h k m = rw (h, ← k) (m _ clash_plans)

  -- the unifier is written into the part that was lent, and the record is completed around it
  module _ {r : Range} (gap : Gap (v.bets.from + 1) (length s + 1) r) (before : List ℕ) (l : 32768 ≤ length before) where
    pub equality_found : {part after : List ℕ} {n : ℕ} {reached : Reached} → UnifierHere its_unifier (lent_part before r) part n
        → Completed (handed_back before r part) (unifier_front s v found_port n) n (unifier_back s v) (unifier_ends v) reached after → Stepped its_answer before (Ok reached) after
    unfolding settled_equality limited_by by_unifier
    equality_found {n = n} h c =
        let σ = h.bindings in
        let m : n ≡ length (unifier_bytes σ) = h.put.place ∙ zero-add _ in
        let e = equality_parts in
        rw h.is
        (stepped_completed (event q (equal w.left w.right) w.ancestors (unifier σ ∷ w.bets)) l
        (rw (unifier_record_length e q σ m) (lent_fits gap before l (unifier_bytes σ) (omega arith) h.room))
        (rw (w.same, ← fp) (unifier_place e q σ m)) m (rw (w.same, ← fp) (unifier_record e q σ m)) (rw w.same (unifier_ends_are e q σ))
        (lent_put gap before l (unifier_bytes σ) (omega arith) h.room h.put) c)

    pub equality_long : {after : List ℕ} → UnifierLong its_unifier (length (lent_part before r)) → after ≡ before → Stepped its_answer before (Err Fits) after
    unfolding settled_equality limited_by by_unifier
    equality_long h k =
        let e = unifier_record_length equality_parts q h.bindings refl in
        rw (h.is, k) (long_refused _ (⊎_elim (λ i. omega arith) (λ i. omega (arith, lent_room gap before l)) h.long))

    pub equality_refused : {part after : List ℕ} (x : UnifierRefusal) → Told (lent_part before r) part its_unifier (Err x) → (part ≡ lent_part before r → after ≡ before)
        → Stepped its_answer before (Err (as_refusal x)) after
    equality_refused TooLarge h k = equality_large h.0 (k h.1)
    equality_refused TooLong h k = equality_long h.0 (k h.1)

-- a unifier that was written into the part has room in the record
pub unifier_room : {at others : ℕ} {r : Range} (gap : Gap at others r) (before : List ℕ) → 32768 ≤ length before → {u : Unified} {part : List ℕ} {n : ℕ}
    → UnifierHere u (lent_part before r) part n → others + n ≤ 32768
unifier_room gap before l h = omega (arith, lent_fits gap before l (unifier_bytes h.bindings) (omega arith) h.room, h.put.place)

-- what the code of an equality relies on, whatever the port
module _ {s : List ℕ} {v : View} (known : Known s) (w : EqualityViewed s v) where
  pub clash_within : (port : ℕ) → PlanInside (kept v port) s
  clash_within port = rw w.same (kept_within call (equality_parts known w call call refl refl) port)

  pub equality_order : InOrder s v
  equality_order = rw w.same (in_order (equality_parts known w call call refl refl) (event_short s known w.reads))

-- the answers forward from call, and back from fail, are what the equality is settled to
module _ (P : List Definition) (u : List Ancestor) (s : List Bet) where
  pub call_equality : (l r : Term) → record_limit (event call (equal l r) u s) ≡ none
      → step_forward (machine layers P) (event call (equal l r) u s) ≡ settled_equality fail exit l r u s
  unfolding settled_equality rule from_call
  call_equality l r n = put_always (machine layers P) (machine_limits layers P) (event call (equal l r) u s) n

  pub fail_equality : (l r : Term) → record_limit (event fail (equal l r) u s) ≡ none
      → step_back (machine layers P) (event fail (equal l r) u s) ≡ settled_equality call redo l r u s
  unfolding settled_equality candidate into_fail
  fail_equality l r n =
      back_settled (machine layers P) (machine_limits layers P) (event fail (equal l r) u s) n
      (given_unifier (λ c. Rule (machine layers P) c (event fail (equal l r) u s)) (unified_under s l r) _ _ (λ h. equal_clash h) (λ m h. equal_redo))

module _ {program s : List ℕ} (known : Known s) (w : BothPassed program s) {before after : List ℕ} {answer : StepAnswer} where
  pub forward_equality : (f : EqualityOf call w.event) → Stepped (settled_equality fail exit f.left f.right f.ancestors f.bets) before answer after
      → Stepped (step_forward (machine layers w.definitions) w.event) before answer after
  forward_equality f m = rw (f.is, call_equality w.definitions f.ancestors f.bets f.left f.right (event_limited s known _ (w.reads ∙ ap tree f.is))) m

  pub back_equality : (f : EqualityOf fail w.event) → Stepped (settled_equality call redo f.left f.right f.ancestors f.bets) before answer after
      → Stepped (step_back (machine layers w.definitions) w.event) before answer after
  back_equality f m = rw (f.is, fail_equality w.definitions f.ancestors f.bets f.left f.right (event_limited s known _ (w.reads ∙ ap tree f.is))) m

-- from an accepted event and its view to what the code asks for
module _ {program s : List ℕ} (known : Known s) (w : BothPassed program s) {v : View} (same : v ≡ event_view w.event) where
  abbrev pub equality_viewed : {p : Port} → EqualityOf p w.event → EqualityViewed s v
  equality_viewed {p} f = record {
    port = p;
    left = f.left;
    right = f.right;
    ancestors = f.ancestors;
    bets = f.bets;
    reads = w.reads ∙ ap tree f.is;
    same = same ∙ ap event_view f.is;
  }
