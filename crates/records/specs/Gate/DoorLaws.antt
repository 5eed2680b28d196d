-- Laws of the door: each of its outcomes, and what passing it says of the records and the output.
use Rattle.std.specs.Prelude.{◌≡◌, Bool, true, false, List, ℕ, ◌≤◌, ◌<◌, leb, Result, Ok, Err}
use Rattle.std.proofs.Math.Path.{refl, ap}
use Rattle.std.proofs.Common.{◌∙◌, sym, le-leb, leb-true}
use Rattle.std.proofs.lemmas.Bool.{lt-leb}
use Rattle.records.specs.Format.Never.{never}
use Rattle.records.specs.Gate.Question.{Asked, framing, version, grammar, rules, of_program, of_event, output, question_number}
use Rattle.records.specs.Gate.Gate.{Reading, Verdict, tree, read_program, read_event, verdict, program_number, event_number}
use Rattle.records.specs.Gate.OutcomeLaws.{told_refuses, told_gives}
use Rattle.records.specs.declared.questions.Fault.{Fault}
use Rattle.records.specs.declared.questions.Refusal.{Refusal}
use Rattle.records.specs.declared.questions.Refusal.TheVariants.{Program, Event, Output}
use Rattle.records.specs.Gate.Reply.{Answer, refused, gives, on_yes, through, answer_number, told}
use Rattle.records.specs.Gate.ReplyLaws.{number_refuses, number_gives, yes_gives, through_gives, through_number}
use Rattle.records.specs.Gate.Door.{program_door, event_door, Trees, door, BothPassed, with_room, gate}

-- an output that is long enough, or too short
pub room_enough : {A : Type 0} {room : ℕ} (next : Answer A) → 32768 ≤ room → with_room room next ≡ next
unfolding with_room on_yes
room_enough {room = room} next h = rw (le-leb 32768 room h)

pub room_short : {A : Type 0} {room : ℕ} (next : Answer A) → room < 32768 → with_room room next ≡ refused output
unfolding with_room on_yes
room_short {room = room} next h = rw (lt-leb 32768 room h)

pub room_gives : {A : Type 0} (room : ℕ) (next : Answer A) {x : A} → with_room room next ≡ gives x → (32768 ≤ room) × (next ≡ gives x)
unfolding with_room
room_gives room next e = let w = yes_gives output (leb 32768 room) next e in (leb-true 32768 room w.0, w.1)

-- what follows an output's question
pub room_then : {A B : Type 0} (room : ℕ) (x : A) (next : A → Answer B) → through refused (with_room room (gives x)) next ≡ with_room room (next x)
unfolding with_room on_yes through
room_then room x next = go (leb 32768 room)
  where
    go : (b : Bool) → through refused (on_yes output b (gives x)) next ≡ on_yes output b (next x)
    go true = refl
    go false = refl

-- one record: what passes its door is what it says
module _ {A : Type 0} where
  pub program_gives : (r : Reading A) {a : A} → program_door r ≡ gives a → r ≡ tree a
  unfolding program_door
  program_gives (Reading.refused q) e = never cc
  program_gives (tree b) e = cc

  pub event_gives : (r : Reading A) {a : A} → event_door r ≡ gives a → r ≡ tree a
  unfolding event_door
  event_gives (Reading.refused q) e = never cc
  event_gives (tree b) e = cc

  -- by the number 0
  pub program_open : (r : Reading A) {n : ℕ} → n ≡ answer_number (program_door r) → n ≡ 0 → (a : A) × (r ≡ tree a)
  program_open r i z = let w = number_gives (program_door r) i z in (w.0, program_gives r w.1)

  pub event_open : (r : Reading A) {n : ℕ} → n ≡ answer_number (event_door r) → n ≡ 0 → (a : A) × (r ≡ tree a)
  event_open r i z = let w = number_gives (event_door r) i z in (w.0, event_gives r w.1)

  -- the number of the verdict is the door's
  pub program_door_number : (r : Reading A) → program_number (verdict r) ≡ answer_number (program_door r)
  unfolding program_door answer_number question_number
  program_door_number (Reading.refused framing) = refl
  program_door_number (Reading.refused version) = refl
  program_door_number (Reading.refused grammar) = refl
  program_door_number (Reading.refused rules) = refl
  program_door_number (tree a) = refl

  pub event_door_number : (r : Reading A) → event_number (verdict r) ≡ answer_number (event_door r)
  unfolding event_door answer_number question_number
  event_door_number (Reading.refused framing) = refl
  event_door_number (Reading.refused version) = refl
  event_door_number (Reading.refused grammar) = refl
  event_door_number (Reading.refused rules) = refl
  event_door_number (tree a) = refl

-- two records and an output
module _ {A B : Type 0} (p : Reading A) (e : Reading B) where
  -- the program is refused, the event is refused, or both pass
  pub door_program : {q : Asked} → p ≡ Reading.refused q → door p e ≡ refused (of_program q)
  unfolding door program_door through
  door_program h = rw h

  pub door_event : {a : A} {q : Asked} → p ≡ tree a → e ≡ Reading.refused q → door p e ≡ refused (of_event q)
  unfolding door program_door event_door through
  door_event h k = rw (h, k)

  pub door_both : {a : A} {b : B} → p ≡ tree a → e ≡ tree b → door p e ≡ gives (record { program = a; event = b })
  unfolding door program_door event_door through
  door_both h k = rw (h, k)

  pub gate_room : {a : A} {b : B} (room : ℕ) → p ≡ tree a → e ≡ tree b → gate p e room ≡ with_room room (gives (record { program = a; event = b }))
  unfolding gate through
  gate_room room h k = rw (door_both h k)

  pub gate_both : {a : A} {b : B} {room : ℕ} → p ≡ tree a → e ≡ tree b → 32768 ≤ room → gate p e room ≡ gives (record { program = a; event = b })
  unfolding gate through
  gate_both {a} {b} {room} h k n = gate_room room h k ∙ (room_enough (gives (record { program = a; event = b })) n)

  -- what passes is what both say
  pub door_gives : {t : Trees A B} → door p e ≡ gives t → (p ≡ tree t.program) × (e ≡ tree t.event)
  unfolding door
  door_gives {t} h =
      let w = through_gives (program_door p) _ h in
      let v = through_gives (event_door e) _ w.2 in
      let same : record { program = w.0; event = v.0 } ≡ t = cc in
      (program_gives p w.1 ∙ ap (λ x. tree x.program) same, event_gives e v.1 ∙ ap (λ x. tree x.event) same)

  pub gate_gives : (room : ℕ) {t : Trees A B} → gate p e room ≡ gives t → (p ≡ tree t.program) × (e ≡ tree t.event) × (32768 ≤ room)
  unfolding gate
  gate_gives room {t} h =
      let w = through_gives (door p e) _ h in
      let k = room_gives room (gives w.0) w.2 in
      let same : w.0 ≡ t = cc in
      let r = door_gives w.1 in
      (r.0 ∙ ap (λ x. tree x.program) same, r.1 ∙ ap (λ x. tree x.event) same, k.0)

-- by the number 0
module _ (program s : List ℕ) {n : ℕ} where
  pub door_open : n ≡ answer_number (door (read_program program) (read_event s)) → n ≡ 0 → BothPassed program s
  door_open i z =
      let w = number_gives (door (read_program program) (read_event s)) i z in
      let g = door_gives (read_program program) (read_event s) w.1 in
      record { definitions = w.0.program; program_reads = g.0; event = w.0.event; reads = g.1 }

  pub gate_open : (room : ℕ) → n ≡ answer_number (gate (read_program program) (read_event s) room) → n ≡ 0 → BothPassed program s × (32768 ≤ room)
  gate_open room i z =
      let w = number_gives (gate (read_program program) (read_event s) room) i z in
      let g = gate_gives (read_program program) (read_event s) room w.1 in
      (record { definitions = w.0.program; program_reads = g.0; event = w.0.event; reads = g.1 }, g.2)

-- the numbers of the door and the gate, from the numbers of their parts
module _ {A B : Type 0} (p : Reading A) (e : Reading B) {n : ℕ} where
  -- the program is refused
  pub number_program : n ≡ answer_number (program_door p) → (n ≡ 0 → ⊥) → n ≡ answer_number (door p e)
  unfolding door through answer_number
  number_program i z = let w = number_refuses (program_door p) i z in i ∙ rw w.refuses

  -- the program passes, and the event's number is the door's
  pub number_event : {k : ℕ} → k ≡ answer_number (program_door p) → k ≡ 0 → n ≡ answer_number (event_door e) → n ≡ answer_number (door p e)
  unfolding door through
  number_event i z j =
      let w = number_gives (program_door p) i z in
      let f : B → Trees A B = λ b. record { program = w.0; event = b } in
      rw w.1 (j ∙ through_number (event_door e) f)

  -- the door says no
  pub number_door : (room : ℕ) → n ≡ answer_number (door p e) → (n ≡ 0 → ⊥) → n ≡ answer_number (gate p e room)
  unfolding gate through answer_number
  number_door room i z = let w = number_refuses (door p e) i z in i ∙ rw w.refuses

  -- it says yes, and the output is too short or long enough
  module _ {room : ℕ} (i : n ≡ answer_number (door p e)) (z : n ≡ 0) where
    pub number_short : room < 32768 → 5 ≡ answer_number (gate p e room)
    unfolding gate through answer_number question_number
    number_short h = let w = number_gives (door p e) i z in rw (w.1, room_short (gives w.0) h)

    pub number_open : 32768 ≤ room → 0 ≡ answer_number (gate p e room)
    unfolding gate through answer_number
    number_open h = let w = number_gives (door p e) i z in rw (w.1, room_enough (gives w.0) h)

-- what the door and the gate tell, from what their parts tell
module _ {A : Type 0} (r : Reading A) {v : Verdict} (is : v ≡ verdict r) where
  pub program_told : {f : Fault} → v ≡ Err f → Err (Program f) ≡ told (program_door r)
  unfolding told program_door
  program_told z = go r (sym is ∙ z)
    where
      go : {f : Fault} (b : Reading A) → verdict b ≡ Err f → Err (Program f) ≡ told (program_door b)
      go (Reading.refused q) h = cc
      go (tree a) h = never cc

  pub event_told : {f : Fault} → v ≡ Err f → Err (Event f) ≡ told (event_door r)
  unfolding told event_door
  event_told z = go r (sym is ∙ z)
    where
      go : {f : Fault} (b : Reading A) → verdict b ≡ Err f → Err (Event f) ≡ told (event_door b)
      go (Reading.refused q) h = cc
      go (tree a) h = never cc

  pub program_passed : {u : Unit {0}} → v ≡ Ok u → Ok u ≡ told (program_door r)
  unfolding told program_door
  program_passed z = go r (sym is ∙ z)
    where
      go : {u : Unit {0}} (b : Reading A) → verdict b ≡ Ok u → Ok u ≡ told (program_door b)
      go (Reading.refused q) h = never cc
      go (tree a) h = refl

  pub event_passed : {u : Unit {0}} → v ≡ Ok u → Ok u ≡ told (event_door r)
  unfolding told event_door
  event_passed z = go r (sym is ∙ z)
    where
      go : {u : Unit {0}} (b : Reading A) → verdict b ≡ Ok u → Ok u ≡ told (event_door b)
      go (Reading.refused q) h = never cc
      go (tree a) h = refl

module _ {A B : Type 0} (p : Reading A) (e : Reading B) {r : Result (Unit {0}) Refusal} where
  pub told_program : {f : Refusal} → r ≡ told (program_door p) → r ≡ Err f → Err f ≡ told (door p e)
  unfolding door through told
  told_program i z = let w = told_refuses (program_door p) i z in rw w.1 (ap Err (sym w.2))

  pub told_event : {u : Unit {0}} → r ≡ told (program_door p) → r ≡ Ok u → told (event_door e) ≡ told (door p e)
  unfolding door through told
  told_event i z = let w = told_gives (program_door p) i z in rw w.1 (go w.0 (event_door e))
    where
      go : (x : A) (b : Answer B) → told b ≡ told {A = Trees A B} (through refused b (λ y. gives (record { program = x; event = y })))
      go x (refused q) = refl
      go x (gives y) = refl

  module _ (room : ℕ) (i : r ≡ told (door p e)) where
    pub told_door : {f : Refusal} → r ≡ Err f → Err f ≡ told (gate p e room)
    unfolding gate through told
    told_door z = let w = told_refuses (door p e) i z in rw w.1 (ap Err (sym w.2))

    pub told_short : {u : Unit {0}} → r ≡ Ok u → room < 32768 → Err Output ≡ told (gate p e room)
    unfolding gate through told
    told_short z h = let w = told_gives (door p e) i z in rw (w.1, room_short (gives w.0) h)

    pub told_open : {u : Unit {0}} → r ≡ Ok u → 32768 ≤ room → Ok u ≡ told (gate p e room)
    unfolding gate through told
    told_open z h = let w = told_gives (door p e) i z in rw (w.1, room_enough (gives w.0) h)
