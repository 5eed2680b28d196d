-- Laws of the service of the answers: what passes its door, and what a reply keeps.
use Rattle.std.specs.Prelude.{◌≡◌, Bool, List, [], ℕ, ◌≤◌, ◌<◌, leb, take, drop, Result, Err}
use Rattle.std.proofs.Math.Path.{refl, ap}
use Rattle.std.proofs.Common.{◌∙◌, sym, arith}
use Rattle.std.proofs.Math.Bool.{true, false}
use Rattle.std.proofs.Math.Dec.{ltb}
use Rattle.std.proofs.Math.ListN.{length}
use Rattle.std.proofs.Math.Seq.{take-append_seam}
use borrow.Author.Tests.{lt-ltb, le-ltb, ltb-false}
use Rattle.records.specs.Format.Never.{never}
use Rattle.records.specs.Format.Syntax.{Goal, Event, Definition}
use Rattle.records.specs.Format.Encode.{event_record}
use Rattle.records.specs.Gate.Gate.{Reading, tree, read_program, read_query}
use Rattle.records.specs.Gate.Door.{Trees, program_door, event_door, door, with_room, gate}
use Rattle.records.specs.Gate.DoorLaws.{gate_both, gate_gives}
use Rattle.records.specs.Gate.OutcomeLaws.{told_refuses}
use Rattle.records.specs.Gate.Question.{Question, possible, fits, question_number}
use Rattle.records.specs.Gate.Reply.{refused, gives, on_yes, through, reply_with, told}
use Rattle.records.specs.Gate.ReplyLaws.{through_gives, refused_not_gives}
use Rattle.records.specs.declared.questions.Refusal.{Refusal}
use Rattle.stepper.specs.Rules.Rules.{first_event, limited_by, fitting}
use Rattle.stepper.specs.Services.Desk.{layers}
use Rattle.stepper.specs.Services.Services.{machine, record_limit, too_long}
use Rattle.answers.specs.Form.Answers.{all_of, Written, answers}
use Rattle.answers.specs.Form.Service.{fitting_event, begin_answer, answers_answer, AnswersReply, answers_reply, answers_record}

module _ {A : Type 0} (p : Reading A) (r : Reading Goal) (room : ℕ) where
  -- the gate says no
  pub begin_refused : {o : Result (Unit {0}) Refusal} {f : Refusal} → o ≡ told (gate p r room) → o ≡ Err f → Err f ≡ told (begin_answer p r room)
  unfolding begin_answer through told
  begin_refused i z = let w = told_refuses (gate p r room) i z in rw w.1 (ap Err (sym w.2))

  -- it says yes, and the first event of 'Q, fail' is too long or short enough
  module _ {t : Trees A Goal} (h : gate p r room ≡ gives t) where
    pub begin_long : 32768 < length (event_record (first_event (all_of t.event))) → begin_answer p r room ≡ refused fits
    unfolding begin_answer through fitting_event limited_by fitting record_limit too_long
    begin_long k = rw (h, lt-ltb 32768 (length (event_record (first_event (all_of t.event)))) k) refl

    pub begin_given : length (event_record (first_event (all_of t.event))) ≤ 32768 → begin_answer p r room ≡ gives t
    unfolding begin_answer through fitting_event limited_by fitting record_limit too_long
    begin_given k = rw (h, le-ltb 32768 (length (event_record (first_event (all_of t.event)))) k) refl

  fitting_short : (e : Event) {c : Event} → fitting_event e ≡ gives c → length (event_record e) ≤ 32768
  unfolding fitting_event limited_by fitting record_limit too_long
  fitting_short e {c} h = go (ltb 32768 (length (event_record e))) refl
    where
      go : (b : Bool) → ltb 32768 (length (event_record e)) ≡ b → length (event_record e) ≤ 32768
      go true k = absurd (refused_not_gives (rw k at h))
      go false k = ltb-false 32768 (length (event_record e)) k

  -- what passes
  pub begin_gives : {t : Trees A Goal} → begin_answer p r room ≡ gives t
      → (p ≡ tree t.program) × (r ≡ tree t.event) × (32768 ≤ room) × (length (event_record (first_event (all_of t.event))) ≤ 32768)
  unfolding begin_answer
  begin_gives {t} h =
      let w = through_gives (gate p r room) _ h in
      let v = through_gives (fitting_event (first_event (all_of w.0.event))) _ w.2 in
      let same : w.0 ≡ t = cc in
      let g = gate_gives p r room (w.1 ∙ ap gives same) in
      let short = fitting_short (first_event (all_of w.0.event)) v.1 in
      (g.0, g.1, g.2, rw same at short)

-- what passes, passes with more room
pub begin_more : {A : Type 0} (p : Reading A) (r : Reading Goal) (room wider : ℕ) {t : Trees A Goal} → begin_answer p r room ≡ gives t → room ≤ wider
    → begin_answer p r wider ≡ gives t
begin_more p r room wider h k = let (i, j, n, l) = begin_gives p r room h in begin_given p r wider (gate_both p r i j (omega arith)) l

-- the door never says 6
pub begin_never_six : {A : Type 0} (p : Reading A) (r : Reading Goal) (room : ℕ) → begin_answer p r room ≡ refused possible → ⊥
unfolding begin_answer gate door program_door event_door with_room on_yes through fitting_event limited_by fitting record_limit too_long
begin_never_six (Reading.refused a) r room h = never cc
begin_never_six (tree a) (Reading.refused b) room h = never cc
begin_never_six (tree a) (tree q) room h = output_asked (leb 32768 room) refl
  where
    fit_asked : (b : Bool) → leb 32768 room ≡ true → ltb 32768 (length (event_record (first_event (all_of q)))) ≡ b → ⊥
    fit_asked true e k = let z = rw (e, k) at h in never cc
    fit_asked false e k = let z = rw (e, k) at h in never cc

    output_asked : (b : Bool) → leb 32768 room ≡ b → ⊥
    output_asked true e = fit_asked (ltb 32768 (length (event_record (first_event (all_of q))))) e refl
    output_asked false e = let z = rw e at h in never cc

-- the bytes that a reply keeps: as many as it says are written, from the start of the output
abbrev pub kept_answers : AnswersReply → List ℕ
kept_answers r = take r.written r.output

-- a reply where the door says no, and one where it gives trees
module _ (n : ℕ) (program query out : List ℕ) where
  abbrev reply : AnswersReply
  reply = answers_record layers n program query out

  pub kept_nothing : {k : Question} → begin_answer (read_program program) (read_query query) (length out) ≡ refused k → (kept_answers reply ≡ []) × (reply.number ≡ question_number k)
  unfolding answers_record answers_reply answers_answer through
  kept_nothing h = rw h (refl, refl)

  module _ {t : Trees (List Definition) Goal} (h : begin_answer (read_program program) (read_query query) (length out) ≡ gives t) where
    abbrev list : Written
    list = answers (machine layers t.program) t.event n (length out)

    pub kept_bytes : kept_answers reply ≡ list.bytes
    unfolding answers_record answers_reply answers_answer through reply_with
    kept_bytes = rw h (take-append_seam list.bytes (drop (length list.bytes) out))

    pub reply_number_is : reply.number ≡ list.number
    unfolding answers_record answers_reply answers_answer through
    reply_number_is = rw h refl

    pub reply_taken_is : reply.taken ≡ list.taken
    unfolding answers_record answers_reply answers_answer through
    reply_taken_is = rw h refl
