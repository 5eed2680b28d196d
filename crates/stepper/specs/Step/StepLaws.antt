-- What the code of a step inside a run rests on: each way of the dispatch gives the step's answer.
use Rattle.std.specs.Prelude.{◌≡◌, List, ℕ, Option, Some, None, Err}
use Rattle.std.proofs.Common.{sym, ◌∙◌, ap, subst}
use Rattle.std.proofs.Math.Option.{none}
use Rattle.records.specs.Format.Syntax.{call, fail, Event, event}
use Rattle.records.specs.Gate.Question.{matches, question_number, refusal_number}
use Rattle.records.specs.declared.questions.Refusal.{Refusal}
use Rattle.records.specs.Format.HeadLaws.{Known}
use Rattle.records.specs.Gate.Gate.{tree, read_event}
use Rattle.records.specs.Ends.PlacesLaws.{event_parts}
use Rattle.stepper.specs.Rules.Machine.{Machine, refused}
use Rattle.stepper.specs.Rules.Rules.{rule, step_forward, candidate, step_back}
use Rattle.stepper.specs.Services.Services.{record_limit, machine}
use Rattle.stepper.specs.Services.ServiceLaws.{machine_limits}
use Rattle.stepper.specs.Services.Desk.{layers}
use Rattle.stepper.specs.Plans.View.{event_view, PartsOf}
use Rattle.stepper.specs.Plans.WhichRule.{forward_rule, back_rule}
use Rattle.stepper.specs.Plans.RulePlans.{forward_plan, back_plan}
use Rattle.stepper.specs.Plans.Made.{Plans}
use Rattle.stepper.specs.Plans.Dispatch.{no_rule_number, no_source_number, EqualityOf, AtomOf, UnifierOf, BodyOf, LeadsOn, ComesFrom, ForwardFound, BackFound}
use Rattle.stepper.specs.Plans.DispatchLaws.{Not, forward_found, forward_led, back_found, back_led}
use Rattle.stepper.specs.Plans.Halves.{HalfWhere, half_refusal, Leaves, LeavesBack, Like}
use Rattle.stepper.specs.Plans.HalfLaws.{half_where, Half?, right, wrong, forward_half, back_half}
use Rattle.stepper.specs.Rules.AdmittedLaws.{forward_put, back_put, forward_refuses, back_refuses}
use Rattle.stepper.specs.Step.Stepped.{Stepped, BothPassed, Determines, refuses, emits}
use Rattle.stepper.specs.Step.SteppedLaws.{stepped_refused, event_limited}
use Rattle.stepper.specs.declared.rules.Rule.{Rule as Found}
use Rattle.stepper.specs.declared.rules.Rule.TheVariants.{EqualCall, EqualRedo, AtomCall, AtomFail}
use Rattle.stepper.specs.declared.view.View.{View}

-- what is known of an accepted event's bytes
parts_of : (s : List ℕ) → Known s → (e : Event) → read_event s ≡ tree e → PartsOf s e
parts_of s known (event p g u b) h = event_parts s known p g u b h

module _ {program s : List ℕ} (known : Known s) (w : BothPassed program s) {v : View} (same : v ≡ event_view w.event) where
  abbrev M : Machine
  M = machine layers w.definitions

  parts : PartsOf s w.event
  parts = parts_of s known w.event w.reads

  limit : record_limit w.event ≡ none
  limit = event_limited s known w.event w.reads

  pub view_halves : HalfWhere v s
  view_halves = rw same (half_where w.event parts)

  module _ {n : Option Found} (named : n ≡ forward_rule v) where
    is_rule : n ≡ forward_rule (event_view w.event)
    is_rule = named ∙ ap forward_rule same

    found : {m : Option Found} → n ≡ m → ForwardFound M s w.event m
    found z = subst (ForwardFound M s w.event) (sym is_rule ∙ z) (forward_found M s w.event parts)

    pub forward_nothing : {before : List ℕ} {r : Refusal} → n ≡ None → refusal_number r ≡ no_rule_number v → Stepped (step_forward M w.event) before (Err r) before
    forward_nothing z e = let x = found z in rw (forward_refuses M w.event x.refuses) (stepped_refused x.question (e ∙ ap no_rule_number same ∙ x.numbered))

    pub calls_equality : n ≡ Some EqualCall → EqualityOf call w.event
    calls_equality z = found z

    pub calls_atom : n ≡ Some AtomCall → AtomOf call w.event
    calls_atom z = found z

    module _ {k : ℕ} {r : Found} (asked : k ≡ half_refusal s v 2 3) (some : n ≡ Some r) (no_equality : Not r EqualCall) (no_body : Not r AtomCall) where
      judged : Half? k (Leaves w.event → Like s w.event) (rule M w.event ≡ refused matches)
      judged = forward_half M s w.event parts (asked ∙ ap (λ x. half_refusal s x 2 3) same)

      leads : (Leaves w.event → Like s w.event) → LeadsOn M s w.event
      leads = forward_led M s w.event parts (sym is_rule ∙ some) no_equality no_body

      plans : (l : LeadsOn M s w.event) → Plans s (forward_plan v (Some r)) l.next
      plans l = rw (same, sym some ∙ is_rule) l.plans

      pub forward_determined : Determines k (forward_plan v (Some r)) s (step_forward M w.event)
      unfolding question_number
      forward_determined = go judged
        where
          go : Half? k (Leaves w.event → Like s w.event) (rule M w.event ≡ refused matches) → Determines k (forward_plan v (Some r)) s (step_forward M w.event)
          go (right i h) = let l = leads h in emits i (plans l) (forward_put M (machine_limits layers w.definitions) w.event l.next limit l.rule)
          go (wrong i h) = refuses matches i (forward_refuses M w.event h)

  module _ {n : Option Found} (named : n ≡ back_rule v) where
    is_source : n ≡ back_rule (event_view w.event)
    is_source = named ∙ ap back_rule same

    found_back : {m : Option Found} → n ≡ m → BackFound M s w.event m
    found_back z = subst (BackFound M s w.event) (sym is_source ∙ z) (back_found M s w.event parts)

    pub back_nothing : {before : List ℕ} {r : Refusal} → n ≡ None → refusal_number r ≡ no_source_number v → Stepped (step_back M w.event) before (Err r) before
    back_nothing z e = let x = found_back z in rw (back_refuses M w.event x.refuses) (stepped_refused x.question (e ∙ ap no_source_number same ∙ x.numbered))

    pub exits_equality : n ≡ Some EqualCall → UnifierOf w.event
    exits_equality z = found_back z

    pub fails_equality : n ≡ Some EqualRedo → EqualityOf fail w.event
    fails_equality z = found_back z

    pub calls_body : n ≡ Some AtomCall → BodyOf w.event
    calls_body z = found_back z

    pub fails_atom : n ≡ Some AtomFail → AtomOf fail w.event
    fails_atom z = found_back z

    module _ {k : ℕ} {r : Found} (asked : k ≡ half_refusal s v 1 4) (some : n ≡ Some r) (no_unifier : Not r EqualCall) (no_equality : Not r EqualRedo) (no_body : Not r AtomCall) (no_atom : Not r AtomFail) where
      judged_back : Half? k (LeavesBack w.event → Like s w.event) (candidate M w.event ≡ refused matches)
      judged_back = back_half M s w.event parts (asked ∙ ap (λ x. half_refusal s x 1 4) same)

      comes : (LeavesBack w.event → Like s w.event) → ComesFrom M s w.event
      comes = back_led M s w.event parts (sym is_source ∙ some) no_unifier no_equality no_body no_atom

      plans_back : (f : ComesFrom M s w.event) → Plans s (back_plan v (Some r)) f.before
      plans_back f = rw (same, sym some ∙ is_source) f.plans

      pub back_determined : Determines k (back_plan v (Some r)) s (step_back M w.event)
      unfolding question_number
      back_determined = go judged_back
        where
          go : Half? k (LeavesBack w.event → Like s w.event) (candidate M w.event ≡ refused matches) → Determines k (back_plan v (Some r)) s (step_back M w.event)
          go (right i h) =
              let f = comes h in emits i (plans_back f) (back_put M (machine_limits layers w.definitions) f.before w.event limit f.source)
          go (wrong i h) = refuses matches i (back_refuses M w.event h)
