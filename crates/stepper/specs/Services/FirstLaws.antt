-- The query service: the number that refuses a query, or the first event's record within questions 5 and 10.
use Rattle.std.specs.Prelude.{◌≡◌, false, List, [], ℕ, length, Result, Ok, Err}
use Rattle.std.proofs.Math.Path.{refl}
use Rattle.std.proofs.Common.{ap, sym, ◌∙◌, arith}
use Rattle.records.specs.Format.Syntax.{Goal, call, Event}
use Rattle.records.specs.Format.Encode.{goal_bytes, ancestor_bytes, bet_bytes, event_record, record_of}
use Rattle.records.specs.Format.HeadLaws.{Known, bytes_all}
use Rattle.records.specs.Gate.Gate.{tree, read_query}
use Rattle.records.specs.Gate.GateLaws.{query_tree}
use Rattle.records.specs.Gate.Question.{refusal_number}
use Rattle.records.specs.Gate.OutcomeLaws.{told_refuses, refusal_same}
use Rattle.records.specs.Gate.Reply.{through, told, Replied, Receipted}
use Rattle.records.specs.Gate.ReplyLaws.{reply_number, receipted_refused, receipted_bytes}
use Rattle.records.specs.Gate.Door.{event_door, with_room}
use Rattle.stepper.specs.Services.PassedLaws.{event_passes}
use Rattle.records.specs.Ends.Stands.{Stands}
use Rattle.records.specs.Ends.StandsLaws.{body_stands}
use Rattle.records.specs.Ends.RangeLaws.{cut_at}
use Rattle.records.specs.Writing.Plan.{planned, PlanInside}
use Rattle.records.specs.Writing.PlanLaws.{nothing_inside, nothing_bytes, stack_kept}
use Rattle.records.specs.Writing.Emitted.{Emitted}
use Rattle.records.specs.Writing.EmittedLaws.{length_record_of}
use Rattle.records.specs.Gate.Receipt.{Receipt, receipt_of}
use Rattle.records.specs.declared.questions.Refusal.{Refusal}
use Rattle.records.specs.declared.plan.Lead.TheVariants.{Bare}
use Rattle.stepper.specs.Rules.Machine.{gives}
use Rattle.stepper.specs.Rules.Rules.{fitting, first_event}
use Rattle.stepper.specs.Services.Services.{record_limit, reply, first_answer, first_record}
use Rattle.stepper.specs.Services.ServiceLaws.{emit_answer_event}
use Rattle.stepper.specs.Services.Desk.{layers}
use Rattle.stepper.specs.Plans.Layouts.{plan_of}
use Rattle.stepper.specs.Plans.Made.{MakesStack, Plans}
use Rattle.stepper.specs.Plans.MadeLaws.{plan_is, cuts, piece}
use Rattle.stepper.specs.Services.FirstPlan.{no_items, first_plan}

-- what is emitted of an event's record is the answer under questions 5 and 10
emitted_receipted : (e : Event) (out after : List ℕ) (emit : Receipt) → Emitted out (event_record e) emit after
    → Receipted event_record (with_room (length out) (fitting false (record_limit e) (gives e))) out emit after
emitted_receipted e out after emit m =
    receipted_bytes event_record out (with_room (length out) (fitting false (record_limit e) (gives e))) (rw (emit_answer_event (length out) e) at m)

-- and the reply under them
pub emitted_replied : (e : Event) (out after : List ℕ) (emit : Receipt) → Emitted out (event_record e) emit after
    → Replied (reply out (with_room (length out) (fitting false (record_limit e) (gives e)))) emit.number after
emitted_replied e out after emit m =
    let w = emitted_receipted e out after emit m in
    record { number_is = w.number_is ∙ sym (reply_number event_record out (with_room (length out) (fitting false (record_limit e) (gives e)))); output_is = w.output_is }

-- a stack with nothing on it
empty : {A : Type 0} (bytes : A → List ℕ) (s : List ℕ) → MakesStack bytes s no_items []
empty bytes s = record {
  is = stack_kept bytes [] no_items s refl (nothing_bytes s) (cut_at [] [] s refl refl refl);
  top_inside = nothing_inside s;
  rest_inside = nothing_inside s;
}

module _ (s : List ℕ) (known : Known s) where
  -- the plan gives the first event's record
  pub first_plans : (g : Goal) → read_query s ≡ tree g → Plans s (first_plan (length s)) (first_event g)
  unfolding plan_of first_event
  first_plans g e = plan_is call (piece Bare (cuts (stands (query_tree s (bytes_all s known) g e).laid) (omega arith))) (empty ancestor_bytes s) (empty bet_bytes s)
    where
      stands : s ≡ record_of (goal_bytes g) → Stands s 3 (goal_bytes g) (length s)
      stands q = rw (q, length_record_of (goal_bytes g)) (body_stands (goal_bytes g))

  -- a receipt of the first event's answer is the reply
  pub first_replied : (out after : List ℕ) {emit : Receipt} → Receipted event_record (first_answer layers s (length out)) out emit after
      → Replied (first_record layers s out) emit.number after
  unfolding first_record
  first_replied out after w = record {
    number_is = w.number_is ∙ sym (reply_number event_record out (first_answer layers s (length out)));
    output_is = w.output_is;
  }

  -- by what the query's door tells
  module _ {door : Result (Unit {0}) Refusal} (is : door ≡ told (event_door (read_query s))) where
    pub first_within : {u : Unit {0}} → door ≡ Ok u → PlanInside (first_plan (length s)) s
    first_within z = let q = event_passes (read_query s) is z in (first_plans q.0 q.1).within

    -- a refused query
    pub first_refused : (out : List ℕ) {r : Refusal} → door ≡ Err r
        → Receipted event_record (first_answer layers s (length out)) out (receipt_of (Err r)) out
    unfolding first_answer through
    first_refused out z =
        let w = told_refuses (event_door (read_query s)) is z in
        rw w.1 (receipted_refused event_record out refl (ap refusal_number (sym w.2) ∙ refusal_same w.0))

    -- an accepted one
    pub first_emitted : (out after : List ℕ) (emit : Receipt) {u : Unit {0}} → door ≡ Ok u → Emitted out (planned (first_plan (length s)) s) emit after
        → Receipted event_record (first_answer layers s (length out)) out emit after
    unfolding first_answer through event_door
    first_emitted out after emit z m =
        let q = event_passes (read_query s) is z in
        rw q.1 (emitted_receipted (first_event q.0) out after emit (rw (first_plans q.0 q.1).is at m))
