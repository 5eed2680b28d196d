-- An atom in bytes: where it stands with its stacks, what each answer for its body makes of the step, and that this is the step.
use Rattle.std.specs.Prelude.{◌≡◌, refl, false, List, ◌∷◌, ℕ, ◌+◌, ◌≤◌, ◌<◌, Ok, Err}
use Rattle.std.proofs.Math.Path.{ap}
use Rattle.std.proofs.Common.{◌∙◌, subst, arith}
use Rattle.std.proofs.Math.Option.{none}
use Rattle.std.proofs.Math.Nat.{zero-add}
use Rattle.std.proofs.Math.ListN.{length}
use Rattle.records.specs.Format.Syntax.{atom, called, Port, call, Event, event, Definition, Terms, Ancestor, Bet, fail}
use Rattle.records.specs.Format.Encode.{goal_bytes, port_byte}
use Rattle.records.specs.Gate.Question.{locals, question_number}
use Rattle.records.specs.Format.HeadLaws.{Known}
use Rattle.records.specs.Ends.EndLaws.{goal_long}
use Rattle.records.specs.Writing.Plan.{PlanInside}
use Rattle.records.specs.Ends.Places.{EventParts}
use Rattle.records.specs.Ends.PlacesLaws.{event_parts}
use Rattle.records.specs.declared.put.Range.{Range}
use Rattle.records.specs.Gate.Gate.{tree}
use Rattle.terms.specs.Body.Body.{Body, too_many, undefined, body}
use Rattle.terms.specs.Body.BodyBytes.{AtomAt}
use Rattle.terms.specs.Standing.Accepted.{frame_of, atom_moved}
use Rattle.terms.specs.Standing.AcceptedLaws.{accepted_atom}
use Rattle.terms.specs.declared.body.BodyRefusal.{BodyRefusal}
use Rattle.terms.specs.declared.body.BodyRefusal.TheVariants.{TooMany, TooLong}
use Rattle.terms.specs.Unifier.Told.{BodyHere, BodyLong, BodyTold}
use Rattle.terms.specs.declared.body.BodyRefusal.{BodyRefusal}
use Rattle.terms.specs.declared.body.BodyRefusal.TheVariants.{TooMany, TooLong}
use Rattle.terms.specs.Unifier.ToldLaws.{body_told}
use Rattle.records.specs.declared.questions.Refusal.TheVariants.{Locals, Fits}
use Rattle.stepper.specs.declared.emit.Reached.{Reached}
use Rattle.stepper.specs.Rules.Machine.{StepOutcome, gives}
use Rattle.stepper.specs.Rules.Rules.{by_body, limited_by, from_call, rule, step_forward, into_fail, candidate, step_back}
use Rattle.stepper.specs.Services.Services.{record_limit, machine}
use Rattle.stepper.specs.Plans.View.{event_view}
use Rattle.stepper.specs.Plans.Layouts.{kept}
use Rattle.stepper.specs.Plans.Made.{Plans}
use Rattle.stepper.specs.Plans.LayoutLaws.{kept_within, kept_plans}
use Rattle.stepper.specs.Step.Stepped.{StepAnswer, Stepped, BothPassed}
use Rattle.stepper.specs.Step.SteppedLaws.{stepped_refused, long_refused, event_short, event_limited}
use Rattle.stepper.specs.Step.Completed.{Gap, lent_part, handed_back, InOrder, body_front, body_back, body_ends, Completed}
use Rattle.stepper.specs.Step.CompletedLaws.{lent_room, lent_fits, lent_put, stepped_completed, in_order, body_place, body_record, body_record_length, body_ends_are}
use Rattle.stepper.specs.Rules.AdmittedLaws.{back_settled, put_always}
use Rattle.stepper.specs.Step.AtomStep.{settled_atom, AtomViewed, goal_frame, ProgramRead}
use Rattle.stepper.specs.declared.view.View.{View}
use Rattle.stepper.specs.Rules.AnswerLaws.{given_body}
use Rattle.stepper.specs.Services.ServiceLaws.{machine_limits}
use Rattle.stepper.specs.Rules.Listed.{Rule, atom_undefined, atom_fail}
use Rattle.stepper.specs.Services.Desk.{layers}
use Rattle.stepper.specs.Plans.Dispatch.{AtomOf}
use Rattle.terms.specs.Body.BodyBytes.{BodyAnswer, BodyAnswered, as_refusal}

-- what an answer tells, where the code matched on it
pub body_told_as : {before after : List ℕ} {b : Body} {r x : BodyAnswer} → BodyAnswered before after b r → r ≡ x
    → BodyTold before after b x
body_told_as {before} {after} {b} w e = subst (BodyTold before after b) e (body_told w)

module _ {s : List ℕ} {v : View} (known : Known s) (w : AtomViewed s v) where
  pub atom_frame : goal_frame v ≡ frame_of (event w.port (atom w.predicate w.terms) w.ancestors w.bets)
  unfolding event_view
  atom_frame = ap goal_frame w.same

  abbrev pub goal_atom : AtomAt s (goal_frame v)
  goal_atom = atom_moved atom_frame (accepted_atom s known w.predicate w.terms w.reads)

module _ {s : List ℕ} {v : View} (known : Known s) (w : AtomViewed s v) (p q : Port) {undefined_port defined_port : ℕ} (up : port_byte p ≡ undefined_port) (dp : port_byte q ≡ defined_port) where
  atom_parts : EventParts s w.port (atom w.predicate w.terms) w.ancestors w.bets
  atom_parts = event_parts s known w.port (atom w.predicate w.terms) w.ancestors w.bets w.reads

  -- the plan of the way without a body
  pub undefined_plans : Plans s (kept v undefined_port) (event p (atom w.predicate w.terms) w.ancestors w.bets)
  undefined_plans = rw (w.same, ← up) (kept_plans p atom_parts)

  -- each answer
  module _ (P : List Definition) where
    abbrev its_body : Body
    its_body = body P w.predicate w.terms w.ancestors w.bets

    abbrev its_answer : StepOutcome
    its_answer = settled_atom P p q w.predicate w.terms w.ancestors w.bets

    module _ {before after : List ℕ} where
      pub atom_beyond : its_body ≡ too_many → after ≡ before → Stepped its_answer before (Err Locals) after
      unfolding settled_atom limited_by by_body question_number
      atom_beyond h k = rw (h, k) (stepped_refused locals refl)

      pub atom_missing : {within : List ℕ} {answer : StepAnswer} → its_body ≡ undefined → within ≡ before
          → ((e : Event) → Plans s (kept v undefined_port) e → Stepped (limited_by record_limit false (gives e)) within answer after) → Stepped its_answer before answer after
      unfolding settled_atom limited_by by_body
      atom_missing h k m = rw (h, ← k) (m _ undefined_plans)

    -- the body is written into the part that was lent, and the record is completed around it
    module _ {r : Range} (gap : Gap v.goal.from (length s) r) (before : List ℕ) (l : 32768 ≤ length before) where
      pub atom_defined : {part after : List ℕ} {n : ℕ} {reached : Reached} → BodyHere its_body (lent_part before r) part n
          → Completed (handed_back before r part) (body_front s defined_port n) n (body_back s v) (body_ends v n) reached after → Stepped its_answer before (Ok reached) after
      unfolding settled_atom limited_by by_body
      atom_defined {n = n} h c =
          let g = h.goal in
          let z : 0 < length (goal_bytes g) = omega (arith, goal_long g) in
          let m : n ≡ length (goal_bytes g) = h.put.place ∙ zero-add _ in
          let e = atom_parts in
          rw h.is
          (stepped_completed (event q g (called w.predicate w.terms ∷ w.ancestors) w.bets) l
          (rw (body_record_length e q g) (lent_fits gap before l (goal_bytes g) z h.room))
          (rw (w.same, ← dp) (body_place e q g m)) m (rw (w.same, ← dp) (body_record e q g m)) (rw w.same (body_ends_are e q g m))
          (lent_put gap before l (goal_bytes g) z h.room h.put) c)

      pub atom_long : {after : List ℕ} → BodyLong its_body (length (lent_part before r)) → after ≡ before → Stepped its_answer before (Err Fits) after
      unfolding settled_atom limited_by by_body
      atom_long h k =
          let e = body_record_length atom_parts q h.goal in rw (h.is, k) (long_refused _ (omega (arith, h.long, lent_room gap before l, goal_long h.goal)))

      pub atom_refused : {part after : List ℕ} (x : BodyRefusal) → BodyTold (lent_part before r) part its_body (Err x) → (part ≡ lent_part before r → after ≡ before)
          → Stepped its_answer before (Err (as_refusal x)) after
      atom_refused TooMany h k = atom_beyond h.0 (k h.1)
      atom_refused TooLong h k = atom_long h.0 (k h.1)

-- a body that was written into the part has room in the record
pub body_room : {at others : ℕ} {r : Range} (gap : Gap at others r) (before : List ℕ) → 32768 ≤ length before → {b : Body} {part : List ℕ} {n : ℕ}
    → BodyHere b (lent_part before r) part n → others + n ≤ 32768
body_room gap before l h = omega (arith, lent_fits gap before l (goal_bytes h.goal) (omega (arith, goal_long h.goal)) h.room, h.put.place)

-- what the code of an atom relies on, whatever the port
module _ {s : List ℕ} {v : View} (known : Known s) (w : AtomViewed s v) where
  pub undefined_within : (port : ℕ) → PlanInside (kept v port) s
  undefined_within port = rw w.same (kept_within call (atom_parts known w call call refl refl) port)

  pub atom_order : InOrder s v
  atom_order = rw w.same (in_order (atom_parts known w call call refl refl) (event_short s known w.reads))

-- the answers forward from call, and back from fail, are what the atom is settled to
module _ (P : List Definition) (u : List Ancestor) (s : List Bet) where
  pub call_atom : (k : ℕ) (ts : Terms) → record_limit (event call (atom k ts) u s) ≡ none
      → step_forward (machine layers P) (event call (atom k ts) u s) ≡ settled_atom P fail call k ts u s
  unfolding settled_atom rule from_call
  call_atom k ts n = put_always (machine layers P) (machine_limits layers P) (event call (atom k ts) u s) n

  pub fail_atom : (k : ℕ) (ts : Terms) → record_limit (event fail (atom k ts) u s) ≡ none
      → step_back (machine layers P) (event fail (atom k ts) u s) ≡ settled_atom P call fail k ts u s
  unfolding settled_atom candidate into_fail
  fail_atom k ts n =
      back_settled (machine layers P) (machine_limits layers P) (event fail (atom k ts) u s) n
      (given_body (λ c. Rule (machine layers P) c (event fail (atom k ts) u s)) (body P k ts u s) _ _ (λ h. atom_undefined h) (λ g h. atom_fail))

module _ {program s : List ℕ} (known : Known s) (w : BothPassed program s) {before after : List ℕ} {answer : StepAnswer} where
  pub forward_atom : (f : AtomOf call w.event) → Stepped (settled_atom w.definitions fail call f.predicate f.terms f.ancestors f.bets) before answer after
      → Stepped (step_forward (machine layers w.definitions) w.event) before answer after
  forward_atom f m = rw (f.is, call_atom w.definitions f.ancestors f.bets f.predicate f.terms (event_limited s known _ (w.reads ∙ ap tree f.is))) m

  pub back_atom : (f : AtomOf fail w.event) → Stepped (settled_atom w.definitions call fail f.predicate f.terms f.ancestors f.bets) before answer after
      → Stepped (step_back (machine layers w.definitions) w.event) before answer after
  back_atom f m = rw (f.is, fail_atom w.definitions f.ancestors f.bets f.predicate f.terms (event_limited s known _ (w.reads ∙ ap tree f.is))) m

-- from an accepted event and its view to what the code asks for
module _ {program s : List ℕ} (known : Known s) (w : BothPassed program s) {v : View} (same : v ≡ event_view w.event) where
  abbrev pub program_read : ProgramRead program
  program_read = record { definitions = w.definitions; reads = w.program_reads }

  abbrev pub atom_viewed : {p : Port} → AtomOf p w.event → AtomViewed s v
  atom_viewed {p} f = record {
    port = p;
    predicate = f.predicate;
    terms = f.terms;
    ancestors = f.ancestors;
    bets = f.bets;
    reads = w.reads ∙ ap tree f.is;
    same = same ∙ ap event_view f.is;
  }
