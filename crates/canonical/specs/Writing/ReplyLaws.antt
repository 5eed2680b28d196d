-- Laws of the reply: what the measuring says of questions 9 and 10, and the record that is written.
use Rattle.std.specs.Prelude.{◌≡◌, Bool, cond, List, ℕ, ◌+◌, ◌≤◌, ◌<◌, Some, None}
use Rattle.std.proofs.Math.Path.{refl, ap}
use Rattle.std.proofs.Common.{◌∙◌, arith, le-leb}
use Rattle.std.proofs.Math.Bool.{true, false}
use Rattle.std.proofs.Math.ListN.{length}
use Rattle.std.proofs.lemmas.Bool.{lt-leb}
use Rattle.records.specs.Format.Never.{never}
use Rattle.records.specs.Format.Syntax.{Definition, Clause}
use Rattle.records.specs.Format.Encode.{word, each, definition_bytes, record_of, record_head, program_record}
use Rattle.records.specs.Gate.RecordRules.{every}
use Rattle.records.specs.Writing.Patched.{Put}
use Rattle.records.specs.Writing.PatchedLaws.{put_then}
use Rattle.records.specs.Writing.EmittedLaws.{put_record}
use Rattle.records.specs.Gate.Question.{locals, fits, question_number}
use Rattle.records.specs.Gate.Gate.{Reading, Accepted, read_clauses}
use Rattle.records.specs.Gate.Reply.{Answer, refused, gives, on_yes, through, answer_number, reply_with, Replied}
use Rattle.records.specs.Gate.ReplyLaws.{number_refuses, replied_refused, replied_given}
use Rattle.records.specs.Gate.Door.{program_door}
use Rattle.records.specs.Gate.DoorLaws.{room_enough, room_short, program_open}
use Rattle.canonical.specs.Form.Canonical.{canonical}
use Rattle.canonical.specs.Writing.Service.{locals_fit, record_fits, program_answer, clauses_answer, program_reply, canonical_record}
use Rattle.canonical.specs.Sorting.Remaining.{program_of}
use Rattle.canonical.specs.Sorting.RemainingLaws.{accepted_tree}
use Rattle.canonical.specs.Writing.Program.{surveyed}
use Rattle.canonical.specs.declared.program.Survey.{Survey}

-- a program's record: the length, the version, the count, and the definitions
program_length : (ds : List Definition) → length (program_record ds) ≡ 5 + length (each definition_bytes ds)
unfolding record_of
program_length ds = omega arith

-- what the measuring said
pub record ProgramMeasured (ds : List Definition) (survey : Survey) : Type 0 where
  pub fit : every locals_fit ds ≡ true
  pub counts : survey.count ≡ length ds
  pub sizes : survey.size ≡ length (each definition_bytes ds)

pub program_measured : (ds : List Definition) {survey : Survey} → Some survey ≡ surveyed ds → ProgramMeasured ds survey
unfolding surveyed
program_measured ds {survey} e = go (every locals_fit ds) refl e
  where
    whole : Survey
    whole = record { count = length ds; size = length (each definition_bytes ds) }

    go : (b : Bool) → every locals_fit ds ≡ b → Some survey ≡ cond b (Some whole) None → ProgramMeasured ds survey
    go true f q =
        let i : survey ≡ whole = cc in
        rw i (record { fit = f; counts = refl; sizes = refl })
    go false f q = never cc

too_many : (ds : List Definition) → None ≡ surveyed ds → every locals_fit ds ≡ false
unfolding surveyed
too_many ds e = go (every locals_fit ds) refl e
  where
    whole : Survey
    whole = record { count = length ds; size = length (each definition_bytes ds) }

    go : (b : Bool) → every locals_fit ds ≡ b → None ≡ cond b (Some whole) None → every locals_fit ds ≡ false
    go true f q = never cc
    go false f q = f

module _ (out : List ℕ) (ds : List Definition) (roomy : 32768 ≤ length out) where
  -- question 9 says no
  pub reply_many : None ≡ surveyed ds → Replied (program_reply out ds) 9 out
  unfolding program_reply program_answer on_yes question_number
  reply_many e = replied_refused program_record out (room_enough _ roomy ∙ ap (λ (b : Bool). on_yes locals b (on_yes fits (record_fits ds) (gives ds))) (too_many ds e)) refl

  module _ {survey : Survey} (m : ProgramMeasured ds survey) where
    fitting : (b : Bool) → record_fits ds ≡ b → program_answer (length out) ds ≡ on_yes fits b (gives ds)
    unfolding program_answer on_yes
    fitting b e = room_enough _ roomy ∙ rw (m.fit, e)

    -- question 10 says no
    pub reply_long : 32763 < survey.size → Replied (program_reply out ds) 10 out
    unfolding program_reply on_yes question_number
    reply_long h = replied_refused program_record out (fitting false (lt-leb (length (program_record ds)) 32768 (omega (arith, program_length ds, m.sizes)))) refl

    -- the record is written
    pub reply_whole : {after : List ℕ} {n : ℕ} → survey.size ≤ 32763 → Put out 0 (program_record ds) after n → Replied (program_reply out ds) 0 after
    unfolding program_reply on_yes
    reply_whole h p =
        let k : length (program_record ds) ≤ 32768 = omega (arith, program_length ds, m.sizes) in
        replied_given program_record out (fitting true (le-leb (length (program_record ds)) 32768 k)) p (omega arith)

-- a record is written by its head, its count and its definitions, one after the other
pub put_program : {ds : List Definition} {before one two after : List ℕ} {survey : Survey} {a b c : ℕ} → ProgramMeasured ds survey
    → Put before 0 (record_head (survey.size + 5)) one a → Put one a (word survey.count) two b → Put two b (each definition_bytes ds) after c → Put before 0 (program_record ds) after c
put_program {ds} {survey = survey} m p q r =
    let n : survey.size + 5 ≡ length (program_record ds) = omega (arith, m.sizes, program_length ds) in
    put_record n p (put_then (rw m.counts at q) r)

-- a clause record that is refused
pub clauses_refused : (s out : List ℕ) {k : ℕ} → k ≡ answer_number (program_door (read_clauses s)) → (k ≡ 0 → ⊥) → Replied (canonical_record s out) k out
unfolding canonical_record clauses_answer through
clauses_refused s out e h =
    let w = number_refuses (program_door (read_clauses s)) e h in
    replied_refused program_record out (ap (λ (a : Answer (List Clause)). through refused a (λ cs. program_answer (length out) (canonical cs))) w.refuses) w.number_is

-- one that is not
pub clauses_accepted : (s : List ℕ) {k : ℕ} → k ≡ answer_number (program_door (read_clauses s)) → k ≡ 0 → Accepted (read_clauses s)
clauses_accepted s e h = rw (program_open (read_clauses s) e h).1 tt

module _ (s out : List ℕ) (a : Accepted (read_clauses s)) where
  -- the reply is the one for the record's program
  reply_made : canonical_record s out ≡ program_reply out (program_of s)
  unfolding canonical_record clauses_answer through program_door program_of program_reply
  reply_made = ap (λ (r : Reading (List Clause)). reply_with program_record out (clauses_answer (length out) r)) (accepted_tree s a)

  -- an output that is too short
  pub replied_short : length out < 32768 → Replied (canonical_record s out) 5 out
  unfolding program_reply program_answer question_number
  replied_short h = rw reply_made (replied_refused program_record out (room_short _ h) refl)

  pub replied_made : {n : ℕ} {after : List ℕ} → Replied (program_reply out (program_of s)) n after → Replied (canonical_record s out) n after
  replied_made e = rw reply_made e
