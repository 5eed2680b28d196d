-- What the services do to their output, for every input, refused input too: its length stays, since a record that is written fits it.
use Rattle.std.specs.Prelude.{◌≡◌, List, ℕ, ◌≤◌}
use Rattle.std.proofs.Math.Path.{subst}
use Rattle.std.proofs.Common.{arith}
use Rattle.std.proofs.Math.ListN.{length}
use Rattle.records.specs.Format.Syntax.{Event}
use Rattle.records.specs.Format.Encode.{event_record}
use Rattle.records.specs.Format.HeadLaws.{Bytes}
use Rattle.records.specs.Gate.Door.{event_door, gate}
use Rattle.records.specs.Gate.DoorLaws.{room_gives, gate_gives}
use Rattle.records.specs.Gate.ReplyLaws.{through_gives, reply_length}
use Rattle.stepper.specs.Rules.Machine.{gives}
use Rattle.stepper.specs.Rules.Rules.{first_event, Lent}
use Rattle.stepper.specs.Rules.AnswerLaws.{fitting_put}
use Rattle.stepper.specs.Walks.Walk.{Direction}
use Rattle.stepper.specs.Services.Layers.{Layers, Lawful}
use Rattle.stepper.specs.Services.Services.{record_limit, first_answer, first_record, step_answer, step_record, Program}
use Rattle.stepper.specs.Services.ServiceLaws.{Recordable, limit_fits, read_recordable, step_recordable}

module _ (L : Layers) (laws : Lawful L) where
  -- an accepted step gives an event whose record fits the output
  pub step_fits : (program : List ℕ) → Bytes program → (l : Lent) (s : List ℕ) → Bytes s → (c : Event) → step_answer L program l s ≡ gives c
      → Recordable c × (length (event_record c) ≤ l.room)
  unfolding step_answer
  step_fits program b l s i c h =
      let w = through_gives (gate (L.read_program program) (L.read_event s) l.room) _ h in
      let t = w.0 in
      let passed = gate_gives (L.read_program program) (L.read_event s) l.room w.1 in
      let P : Program L = record { program = program; bytes = b; definitions = t.program; reads = passed.0 } in
      let k = step_recordable L laws P l.direction t.event c (read_recordable L laws s i t.event passed.1) w.2 in
      (k, omega (arith, limit_fits c k.1, passed.2))

  -- a step's output keeps its length
  pub step_output_length : (d : Direction) (program s out : List ℕ) → Bytes program → Bytes s → length (step_record L d program s out).output ≡ length out
  unfolding step_record
  step_output_length d program s out b i =
      reply_length event_record out _ (λ c h. (step_fits program b (record { direction = d; room = length out }) s i c h).1)

  -- and so does a first event's
  pub first_output_length : (query out : List ℕ) → length (first_record L query out).output ≡ length out
  unfolding first_record first_answer
  first_output_length query out = reply_length event_record out (first_answer L query (length out)) fits
    where
      fits : (c : Event) → first_answer L query (length out) ≡ gives c → length (event_record c) ≤ length out
      fits c h =
          let w = through_gives (event_door (L.read_query query)) _ h in
          let e = first_event w.0 in
          let room = room_gives (length out) _ w.2 in
          let r = fitting_put (record_limit e) (gives e) c room.1 in
          let given : gives e ≡ gives c = r.1 in
          let same : e ≡ c = cc in
          omega (arith, subst (λ x. length (event_record x) ≤ 32768) same (limit_fits e r.0), room.0)
