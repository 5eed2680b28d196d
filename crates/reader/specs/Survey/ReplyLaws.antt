-- Laws of the reply: the number that a survey leads to, and what is left where something is written.
use Rattle.std.specs.Prelude.{◌≡◌, Some, None, Bool, not, ◌&&◌, List, ◌++◌, ℕ, ◌+◌, ◌-◌, ◌≤◌, ◌<◌, length, drop}
use Rattle.std.proofs.Math.Path.{refl}
use Rattle.std.proofs.Common.{sym, ap, arith, length-drop, take_all}
use Rattle.std.proofs.Math.Bool.{true, false}
use Rattle.std.proofs.Math.Option.{none, some}
use Rattle.std.proofs.Math.Dec.{leb}
use borrow.Author.Tests.{le-leb, lt-leb, leb-true}
use Rattle.records.specs.Format.Never.{never}
use Rattle.records.specs.Ends.Range.{size, cut}
use Rattle.records.specs.Format.Encode.{word, each, clause_bytes, record_of, record_head, clauses_record}
use Rattle.records.specs.Format.Syntax.{Clause}
use Rattle.records.specs.declared.put.Range.{Range}
use Rattle.records.specs.Gate.Door.{with_room}
use Rattle.records.specs.Gate.Question.{Question, question_number, of_program, grammar, output, fits, characters, syntax, space}
use Rattle.records.specs.Gate.RecordRules.{every}
use Rattle.records.specs.Gate.Reply.{Answer, refused, gives, on_yes, answer_number, answer_length, reply_with}
use Rattle.records.specs.Writing.Patched.{Put}
use Rattle.records.specs.Writing.EmittedLaws.{put_record}
use Rattle.records.specs.Writing.PatchedLaws.{put_front, put_then}
use Rattle.text.specs.Grammar.{ClauseTree, text_byte}
use Rattle.text.specs.Reading.{reading}
use Rattle.reader.specs.Form.Meaning.{text_names, text_clauses, name_list}
use Rattle.reader.specs.Form.Service.{Written, written_answer, clauses_answer_of, clauses_text_answer, arities_within, variables_within, read_reply, ReadReplied}
use Rattle.reader.specs.Survey.Survey.{BodyStands, Surveyed}
use Rattle.reader.specs.declared.survey.Body.{Body}
use Rattle.reader.specs.declared.survey.Survey.{Survey}

module _ (names out : List ℕ) where
  -- a refusal
  pub reply_refused : {a : Answer Written} {q : Question} {n : ℕ} → a ≡ refused q → n ≡ question_number q → ReadReplied (read_reply names out a) n 0 names out
  unfolding read_reply answer_number answer_length reply_with
  reply_refused {a} {q} e i = rw e (record { number_is = i; named_is = refl; names_are = refl; output_is = refl })

  -- what is written
  pub reply_given : {a : Answer Written} {w : Written} {names' out' : List ℕ} {i j n : ℕ} → a ≡ gives w → n ≡ length w.list
      → Put names 0 w.list names' i → length w.list ≤ length names → Put out 0 w.bytes out' j → length w.bytes ≤ length out → ReadReplied (read_reply names out a) 0 n names' out'
  unfolding read_reply answer_number answer_length reply_with
  reply_given e l p h q k = rw e (record { number_is = refl; named_is = l; names_are = put_front p h; output_is = put_front q k })

-- what passes
pub record Passed (list rec : List ℕ) (within : Bool) (names_room room : ℕ) : Type 0 where
  pub names_fit : length list ≤ names_room
  pub within_is : within ≡ true
  pub roomy : 32768 ≤ room
  pub record_fits : length rec ≤ 32768

module _ (list rec : List ℕ) (within : Bool) (names_room room : ℕ) where
  abbrev answer : Answer Written
  answer = written_answer list rec within names_room room

  pub passed_gives : Passed list rec within names_room room → answer ≡ gives (record { list = list; bytes = rec })
  unfolding written_answer on_yes with_room
  passed_gives p = rw (le-leb (length list) names_room p.names_fit, p.within_is, le-leb 32768 room p.roomy, le-leb (length rec) 32768 p.record_fits) refl

  -- by the four questions
  pub answer_names : names_room < length list → answer ≡ refused space
  unfolding written_answer on_yes with_room
  answer_names h = rw (lt-leb (length list) names_room h) refl

  pub answer_over : length list ≤ names_room → within ≡ false → answer ≡ refused (of_program grammar)
  unfolding written_answer on_yes with_room
  answer_over h e = rw (le-leb (length list) names_room h, e) refl

  pub answer_short : length list ≤ names_room → within ≡ true → room < 32768 → answer ≡ refused output
  unfolding written_answer on_yes with_room
  answer_short h e k = rw (le-leb (length list) names_room h, e, lt-leb 32768 room k) refl

  pub answer_long : length list ≤ names_room → within ≡ true → 32768 ≤ room → 32768 < length rec → answer ≡ refused fits
  unfolding written_answer on_yes with_room
  answer_long h e k d = rw (le-leb (length list) names_room h, e, le-leb 32768 room k, lt-leb (length rec) 32768 d) refl

pub not_true : (b : Bool) → not b ≡ true → b ≡ false
not_true true e = never (sym e)
not_true false e = refl

pub not_false : (b : Bool) → not b ≡ false → b ≡ true
not_false true e = refl
not_false false e = never e

-- the number that a survey leads to; a record is so many bytes longer than its body
module _ {names bytes : List ℕ} (rec : List ℕ) {within : Bool} {n : ℕ} {list scratch : List ℕ} {v : Survey} (s : Surveyed names bytes within n list scratch v) (names_room room : ℕ) where
  pub number_names : names_room < v.listed → 22 ≡ answer_number (written_answer names rec within names_room room)
  unfolding answer_number question_number
  number_names h = rw (answer_names names rec within names_room room (omega (arith, s.listed_is))) refl

  pub number_over : v.listed ≤ names_room → v.body ≡ None → 3 ≡ answer_number (written_answer names rec within names_room room)
  unfolding answer_number question_number
  number_over h e = rw (answer_over names rec within names_room room (omega (arith, s.listed_is)) (rw e at s.body_is)) refl

  module _ {b : Body} (e : v.body ≡ Some b) where
    body_within : (within ≡ true) × BodyStands bytes n scratch b
    body_within = rw e at s.body_is

    pub number_short : v.listed ≤ names_room → room < 32768 → 5 ≡ answer_number (written_answer names rec within names_room room)
    unfolding answer_number question_number
    number_short h k = rw (answer_short names rec within names_room room (omega (arith, s.listed_is)) body_within.0 k) refl

    module _ {head : ℕ} (size : length rec ≡ head + length bytes) where
      pub number_long : v.listed ≤ names_room → 32768 ≤ room → b.at + 2 < head → 10 ≡ answer_number (written_answer names rec within names_room room)
      unfolding answer_number question_number
      number_long h k d = rw (answer_long names rec within names_room room (omega (arith, s.listed_is)) body_within.0 k (omega (arith, body_within.1.held.place, s.room))) refl

      survey_passed : 2 < head → v.listed ≤ names_room → 32768 ≤ room → head ≤ b.at + 2 → Passed names rec within names_room room
      survey_passed z h k d = record { names_fit = omega (arith, s.listed_is); within_is = body_within.0; roomy = k; record_fits = omega (arith, body_within.1.held.place, s.room) }

      pub number_done : 2 < head → v.listed ≤ names_room → 32768 ≤ room → head ≤ b.at + 2 → 0 ≡ answer_number (written_answer names rec within names_room room)
      unfolding answer_number
      number_done z h k d = rw (passed_gives names rec within names_room room (survey_passed z h k d)) refl

-- 0 says that all passed
module _ (list rec : List ℕ) (within : Bool) (names_room room : ℕ) where
  pub written_passed : 0 ≡ answer_number (written_answer list rec within names_room room) → Passed list rec within names_room room
  unfolding written_answer on_yes with_room answer_number question_number
  written_passed e = four (leb (length list) names_room) within (leb 32768 room) (leb (length rec) 32768) refl refl refl refl e
    where
      four : (a b c d : Bool) → leb (length list) names_room ≡ a → within ≡ b → leb 32768 room ≡ c → leb (length rec) 32768 ≡ d
          → 0 ≡ answer_number {A = Written} (on_yes space a (on_yes (of_program grammar) b (on_yes output c (on_yes fits d (gives (record { list = list; bytes = rec })))))) → Passed list rec within names_room room
      four false b c d i j k l h = never cc
      four true false c d i j k l h = never cc
      four true true false d i j k l h = never cc
      four true true true false i j k l h = never cc
      four true true true true i j k l h = record { names_fit = leb-true (length list) names_room i; within_is = j; roomy = leb-true 32768 room k; record_fits = leb-true (length rec) 32768 l }

-- The questions of the text.
module _ (text : List ℕ) (names_room room : ℕ) where
  pub foreign_text : every text_byte text ≡ false → clauses_text_answer text names_room room ≡ refused characters
  unfolding clauses_text_answer on_yes
  foreign_text e = rw e refl

  module _ (plain : every text_byte text ≡ true) where
    pub outside_text : reading text ≡ none → clauses_text_answer text names_room room ≡ refused syntax
    unfolding clauses_text_answer clauses_answer_of on_yes
    outside_text e = rw (plain, e) refl

    module _ {cs : List ClauseTree} (says : reading text ≡ some cs) where
      pub long_text : 65535 < length text → clauses_text_answer text names_room room ≡ refused space
      unfolding clauses_text_answer clauses_answer_of on_yes
      long_text h = rw (plain, says, lt-leb (length text) 65535 h) refl

      pub said_text : length text ≤ 65535 → clauses_text_answer text names_room room
          ≡ written_answer (name_list (text_names cs)) (clauses_record (text_clauses cs)) (every arities_within (text_clauses cs) && every variables_within (text_clauses cs)) names_room room
      unfolding clauses_text_answer clauses_answer_of on_yes
      said_text h = rw (plain, says, le-leb (length text) 65535 h) refl

-- What stands at the end of a buffer.
cut_end : (l : List ℕ) (at : ℕ) {r : Range} → r.from ≡ at → r.to ≡ length l → at ≤ length l → cut l r ≡ drop at l
unfolding cut size
cut_end l at {r} i j h = rw (i, j) (take_all (length l - at) (drop at l) (rw (length-drop at l) (omega arith)))

length_drop_end : (l : List ℕ) (at : ℕ) → at ≤ length l → length (drop at l) + at ≡ length l
length_drop_end l at h = rw (length-drop at l) (omega arith)

-- Bytes written behind their record's head.
record_length : (body : List ℕ) → length (record_of body) ≡ 3 + length body
unfolding record_of
record_length body = omega arith

pub put_goal_record : (body : List ℕ) {before between after : List ℕ} {n next end : ℕ} → n ≡ 3 + length body
    → Put before 0 (record_head n) between next → Put between next body after end → Put before 0 (record_of body) after end
put_goal_record body e p q = put_record (omega (arith, e, record_length body)) p q

pub put_clauses_record : (body : List ℕ) {before one two after : List ℕ} {n a b end clauses : ℕ} (cs : List Clause) → n ≡ 5 + length body → clauses ≡ length cs → body ≡ each clause_bytes cs
    → Put before 0 (record_head n) one a → Put one a (word clauses) two b → Put two b body after end → Put before 0 (clauses_record cs) after end
put_clauses_record body {n = n} cs e k d p1 p2 p3 =
    put_record (omega (arith, e, record_length (word (length cs) ++ each clause_bytes cs), ap length d)) p1 (put_then (rw k at p2) (rw d at p3))
