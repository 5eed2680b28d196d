-- What the step services answer for a record that passes questions 11 to 14, with an output that passes 5: what the listed rules and refusals say.
use Rattle.std.specs.Prelude.{◌≡◌, ◌↔◌, List, ℕ, ◌≤◌, length}
use Rattle.std.proofs.Common.{sym, ◌∙◌}
use Rattle.std.proofs.Math.Path.{ap}
use Rattle.records.specs.Format.Syntax.{Event}
use Rattle.records.specs.Format.Encode.{event_record}
use Rattle.records.specs.Gate.Question.{Question, question_number}
use Rattle.records.specs.Gate.DoorLaws.{gate_both}
use Rattle.records.specs.Gate.ReplyLaws.{reply_gives, reply_refuses}
use Rattle.records.specs.Format.HeadLaws.{Bytes}
use Rattle.records.specs.Gate.Gate.{tree}
use Rattle.records.specs.Gate.Reply.{through}
use Rattle.stepper.specs.Services.Layers.{Layers, Lawful}
use Rattle.stepper.specs.Rules.Machine.{Admits, refused, gives}
use Rattle.stepper.specs.Walks.Walk.{Direction, forward, back}
use Rattle.stepper.specs.Rules.Rules.{step}
use Rattle.stepper.specs.Rules.Listed.{Rule}
use Rattle.stepper.specs.Rules.ListedLaws.{forward_iff}
use Rattle.stepper.specs.Rules.Refusals.{Refusal, BackRefusal}
use Rattle.stepper.specs.Rules.RefusalLaws.{forward_refused_iff}
use Rattle.stepper.specs.Rules.Sources.{Source}
use Rattle.stepper.specs.Rules.SourceLaws.{back_iff}
use Rattle.stepper.specs.Rules.BackRefusalLaws.{back_refused_iff}
use Rattle.stepper.specs.Rules.AdmittedLaws.{step_admitted}
use Rattle.stepper.specs.Services.Services.{reply, step_answer, step_record, Program, rules_of}
use Rattle.stepper.specs.Services.ServiceLaws.{limit_fits, fits_limit, rules_lawful, read_recordable}

module _ (L : Layers) (laws : Lawful L) (c : Program L) (s : List ℕ) (bytes : Bytes s) (e : Event) (reads : L.read_event s ≡ tree e)
    (out : List ℕ) (room : 32768 ≤ length out) where
  -- the service answers as the rules do
  pub step_answers : (d : Direction) → step_record L d c.program s out ≡ reply out (step (rules_of c) d e)
  unfolding step_record step_answer through
  step_answers d = rw (gate_both (L.read_program c.program) (L.read_event s) c.reads reads room)

  admitted : Admits (rules_of c) e
  admitted = (read_recordable L laws s bytes e reads).1

  step_done : (d : Direction) → (step_record L d c.program s out).number ≡ 0
      → (x : Event) × (step (rules_of c) d e ≡ gives x) × (length (event_record x) ≤ 32768) × (step_record L d c.program s out ≡ reply out (gives x))
  step_done d h =
      let g = reply_gives event_record out (step (rules_of c) d e) (ap (λ r. r.number) (sym (step_answers d)) ∙ h) in
      (g.0, g.1, limit_fits g.0 (step_admitted (rules_of c) (rules_lawful L laws c).limits d e g.0 admitted g.1), step_answers d ∙ ap (reply out) g.1)

  step_number : (d : Direction) (q : Question) → ((step_record L d c.program s out).number ≡ question_number q) ↔ (step (rules_of c) d e ≡ refused q)
  step_number d q =
      let i = reply_refuses event_record out (step (rules_of c) d e) q in
      let same = ap (λ r. r.number) (step_answers d) in
      (λ h. i.0 (sym same ∙ h), λ h. same ∙ i.1 h)

  -- forward: an accepted step goes by a listed rule, a listed rule to an event that fits is followed, and refusals are those listed
  pub forward_accepted : (step_record L forward c.program s out).number ≡ 0
      → (d : Event) × Rule (rules_of c) e d × (length (event_record d) ≤ 32768) × (step_record L forward c.program s out ≡ reply out (gives d))
  unfolding step
  forward_accepted h = let k = step_done forward h in (k.0, ((forward_iff (rules_of c) e k.0).0 k.1).0, k.2, k.3)

  pub forward_follows : (d : Event) → Rule (rules_of c) e d → length (event_record d) ≤ 32768 → step_record L forward c.program s out ≡ reply out (gives d)
  unfolding step
  forward_follows d r n = step_answers forward ∙ ap (reply out) ((forward_iff (rules_of c) e d).1 (r, λ h. fits_limit d n))

  pub forward_refused : (q : Question) → ((step_record L forward c.program s out).number ≡ question_number q) ↔ Refusal (rules_of c) e q
  unfolding step
  forward_refused q =
      let i = step_number forward q in
      let j = forward_refused_iff (rules_of c) e q in
      (λ h. j.0 (i.0 h), λ h. i.1 (j.1 h))

  -- back: the same with the rules read from right to left
  pub back_accepted : (step_record L back c.program s out).number ≡ 0
      → (b : Event) × Source (rules_of c) b e × (length (event_record b) ≤ 32768) × (step_record L back c.program s out ≡ reply out (gives b))
  unfolding step
  back_accepted h = let k = step_done back h in (k.0, ((back_iff (rules_of c) e k.0 admitted).0 k.1).0, k.2, k.3)

  pub back_follows : (b : Event) → Source (rules_of c) b e → length (event_record b) ≤ 32768 → step_record L back c.program s out ≡ reply out (gives b)
  unfolding step
  back_follows b r n = step_answers back ∙ ap (reply out) ((back_iff (rules_of c) e b admitted).1 (r, λ h. fits_limit b n))

  pub back_refused : (q : Question) → ((step_record L back c.program s out).number ≡ question_number q) ↔ BackRefusal (rules_of c) e q
  unfolding step
  back_refused q =
      let i = step_number back q in
      let j = back_refused_iff (rules_of c) e q in
      (λ h. j.0 (i.0 h), λ h. i.1 (j.1 h))
