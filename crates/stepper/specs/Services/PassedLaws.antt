-- Laws of the doors' outcomes for code that goes by them: what passes is what the records say, and a receipt has the number of its outcome.
use Rattle.std.specs.Prelude.{◌≡◌, refl, cond, List, ℕ, ◌≤◌, eqb, Result, Ok, Err}
use Rattle.std.proofs.Common.{ap, sym, ◌∙◌}
use Rattle.records.specs.Gate.Question.{Question, question_number, refusal, refusal_number}
use Rattle.records.specs.Gate.Gate.{Reading, tree, read_program, read_event}
use Rattle.records.specs.Gate.Receipt.{receipt_of}
use Rattle.records.specs.Gate.Reply.{told, outcome_number}
use Rattle.records.specs.Gate.Door.{event_door, door, gate, BothPassed}
use Rattle.records.specs.Gate.DoorLaws.{event_gives, door_gives, gate_gives}
use Rattle.records.specs.Gate.OutcomeLaws.{told_gives, refusal_same}
use Rattle.records.specs.declared.questions.Refusal.{Refusal}
use Rattle.records.specs.declared.questions.Refusal.TheVariants.{Program, Event, Output, Possible, Matches, Values, Locals, Fits, Characters, Syntax, Space, Allowed}
use Rattle.records.specs.declared.questions.Fault.TheVariants.{Framing, Version, Grammar, Rules}

pub event_passes : {A : Type 0} (r : Reading A) {door : Result (Unit {0}) Refusal} {u : Unit {0}} → door ≡ told (event_door r) → door ≡ Ok u → (a : A) × (r ≡ tree a)
event_passes r is z = let w = told_gives (event_door r) is z in (w.0, event_gives r w.1)

module _ (program s : List ℕ) {outcome : Result (Unit {0}) Refusal} {u : Unit {0}} where
  pub door_passes : outcome ≡ told (door (read_program program) (read_event s)) → outcome ≡ Ok u → BothPassed program s
  door_passes is z =
      let w = told_gives (door (read_program program) (read_event s)) is z in
      let g = door_gives (read_program program) (read_event s) w.1 in
      record { definitions = w.0.program; program_reads = g.0; event = w.0.event; reads = g.1 }

  pub gate_passes : (room : ℕ) → outcome ≡ told (gate (read_program program) (read_event s) room) → outcome ≡ Ok u → BothPassed program s × (32768 ≤ room)
  gate_passes room is z =
      let w = told_gives (gate (read_program program) (read_event s) room) is z in
      let g = gate_gives (read_program program) (read_event s) room w.1 in
      (record { definitions = w.0.program; program_reads = g.0; event = w.0.event; reads = g.1 }, g.2)

pub receipt_number : (r : Result ℕ Refusal) → (receipt_of r).number ≡ outcome_number r
receipt_number (Ok n) = refl
receipt_number (Err q) = refl

-- no two questions have one number in code
question_of : ℕ → Refusal
question_of n =
    cond (eqb n 1) (Program Framing) (cond (eqb n 2) (Program Version) (cond (eqb n 3) (Program Grammar) (cond (eqb n 4) (Program Rules)
    (cond (eqb n 11) (Event Framing) (cond (eqb n 12) (Event Version) (cond (eqb n 13) (Event Grammar) (cond (eqb n 14) (Event Rules)
    (cond (eqb n 5) Output (cond (eqb n 6) Possible (cond (eqb n 7) Matches (cond (eqb n 8) Values (cond (eqb n 9) Locals
    (cond (eqb n 10) Fits (cond (eqb n 20) Characters (cond (eqb n 21) Syntax (cond (eqb n 22) Space Allowed))))))))))))))))

question_of_number : (r : Refusal) → question_of (refusal_number r) ≡ r
unfolding question_of
question_of_number (Program Framing) = refl
question_of_number (Program Version) = refl
question_of_number (Program Grammar) = refl
question_of_number (Program Rules) = refl
question_of_number (Event Framing) = refl
question_of_number (Event Version) = refl
question_of_number (Event Grammar) = refl
question_of_number (Event Rules) = refl
question_of_number Output = refl
question_of_number Possible = refl
question_of_number Matches = refl
question_of_number Values = refl
question_of_number Locals = refl
question_of_number Fits = refl
question_of_number Characters = refl
question_of_number Syntax = refl
question_of_number Space = refl
question_of_number Allowed = refl

pub question_named : (q : Question) {r : Refusal} → refusal_number r ≡ question_number q → refusal q ≡ r
question_named q {r} h = sym (question_of_number (refusal q)) ∙ ap question_of (refusal_same q ∙ sym h) ∙ question_of_number r
