-- Laws of the answers' door in code: what it tells, the list before the first answer, and the reply.
use Rattle.std.specs.Prelude.{◌≡◌, List, [], ℕ, ◌+◌, ◌-◌, ◌*◌, ◌≤◌, ◌<◌, take, Result, Ok, Err}
use Rattle.std.proofs.Math.Path.{refl, ap}
use Rattle.std.proofs.Common.{◌∙◌, sym}
use Rattle.std.proofs.Math.Nat.{zero-add}
use native.Mathlib.Omega.{arith}
use Rattle.std.proofs.Math.ListN.{length}
use Rattle.records.specs.Format.Syntax.{Goal, Definition}
use Rattle.records.specs.Format.Encode.{event_record}
use Rattle.records.specs.Format.HeadLaws.{Known, bytes_all}
use Rattle.records.specs.Gate.Gate.{Reading, tree, read_program, read_query, read_event}
use Rattle.records.specs.Gate.GateLaws.{query_tree, event_read}
use Rattle.records.specs.Gate.Door.{Trees, door, gate}
use Rattle.records.specs.Gate.DoorLaws.{gate_gives, told_open}
use Rattle.records.specs.Gate.OutcomeLaws.{told_refuses, told_gives, told_number, refusal_same}
use Rattle.records.specs.Gate.Question.{refusal_number}
use Rattle.records.specs.Gate.Reply.{gives, through, answer_number, reply_with, told, outcome_number}
use Rattle.records.specs.Gate.ReplyLaws.{number_gives}
use Rattle.records.specs.Gate.RecordRules.{event_rules}
use Rattle.records.specs.Writing.Patched.{Put}
use Rattle.records.specs.declared.questions.Refusal.{Refusal}
use Rattle.records.specs.declared.questions.Refusal.TheVariants.{Fits}
use Rattle.records.specs.Writing.PatchedLaws.{put_none, put_length, put_front, front_put}
use Rattle.stepper.specs.Rules.Rules.{first_event}
use Rattle.stepper.specs.Services.Desk.{layers}
use Rattle.stepper.specs.Services.Services.{machine}
use Rattle.stepper.specs.Walks.Walk.{Reach}
use Rattle.answers.specs.Form.Answer.{query_variables}
use Rattle.answers.specs.Form.Answers.{all_of, answers}
use Rattle.answers.specs.Form.Service.{begin_answer, answers_answer, answers_reply, answers_record, AnswersReplied}
use Rattle.answers.specs.Form.ServiceLaws.{begin_long, begin_given, begin_gives}
use Rattle.answers.specs.Writing.BegunLaws.{begin_length}
use Rattle.answers.specs.Writing.MarkedLaws.{variables_formed, listed_few}
use Rattle.answers.specs.Writing.Listing.{first_listing, ListStands, Listed}
use Rattle.answers.specs.Writing.ListingLaws.{behind_nothing}
use Rattle.answers.specs.declared.service.ListAnswer.{ListAnswer}

-- what the door tells where the records pass and the output is long enough
module _ (program query : List ℕ) (room : ℕ) (known : Known query) {o : Result (Unit {0}) Refusal} {u : Unit {0}}
    (i : o ≡ told (door (read_program program) (read_query query))) (z : o ≡ Ok u) (h : 32768 ≤ room) where
  abbrev p : Reading (List Definition)
  p = read_program program

  abbrev r : Reading Goal
  r = read_query query

  gate_opens : (t : Trees (List Definition) Goal) × (gate p r room ≡ gives t)
  gate_opens = told_gives (gate p r room) (told_open p r room i z h) refl

  event_length : length (event_record (first_event (all_of gate_opens.0.event))) ≡ length query + 7
  event_length = begin_length query known gate_opens.0.event (gate_gives p r room gate_opens.1).1

  pub told_long : 32768 < length query + 7 → Err Fits ≡ told (begin_answer p r room)
  unfolding told
  told_long k = rw (begin_long p r room gate_opens.1 (omega (arith, event_length))) refl

  pub told_begins : length query + 7 ≤ 32768 → Ok tt ≡ told (begin_answer p r room)
  unfolding told
  told_begins k = rw (begin_given p r room gate_opens.1 (omega (arith, event_length))) refl

-- its number there
module _ (program query : List ℕ) (room : ℕ) (known : Known query) {n : ℕ} (i : n ≡ answer_number (door (read_program program) (read_query query))) (z : n ≡ 0)
    (h : 32768 ≤ room) where
  said : Ok tt ≡ told (door (read_program program) (read_query query))
  unfolding told
  said = rw (number_gives (door (read_program program) (read_query query)) i z).1 refl

  pub number_long : 32768 < length query + 7 → 10 ≡ answer_number (begin_answer (read_program program) (read_query query) room)
  number_long k = told_number (begin_answer (read_program program) (read_query query) room) (told_long program query room known said refl h k)

  pub number_begins : length query + 7 ≤ 32768 → 0 ≡ answer_number (begin_answer (read_program program) (read_query query) room)
  number_begins k = told_number (begin_answer (read_program program) (read_query query) room) (told_begins program query room known said refl h k)

-- the list before the first answer, for a program and a query that pass
module _ (program query : List ℕ) (room : ℕ) (known : Known query) (t : Trees (List Definition) Goal)
    (h : begin_answer (read_program program) (read_query query) room ≡ gives t) where
  abbrev q : Goal
  q = t.event

  passed : (read_program program ≡ tree t.program) × (read_query query ≡ tree q) × (32768 ≤ room) × (length (event_record (first_event (all_of q))) ≤ 32768)
  passed = begin_gives (read_program program) (read_query query) room h

  pub query_reads : read_query query ≡ tree q
  query_reads = passed.1

  pub begin_room : length query + 7 ≤ 32768
  begin_room = omega (arith, passed.3, begin_length query known q query_reads)

  first_reads : read_event (event_record (first_event (all_of q))) ≡ tree (first_event (all_of q))
  unfolding first_event event_rules
  first_reads =
      let f = (query_tree query (bytes_all query known) q query_reads).formed in
      event_read (first_event (all_of q)) ((f, tt), (omega arith, tt), (omega arith, tt)) refl passed.3

  few : 3 * length (query_variables q) ≤ length query
  few = listed_few query known q query_reads

  pub table_front : {before table : List ℕ} {n : ℕ} → Put before 0 (query_variables q) table n → length before ≡ 10923 → (take n table ≡ query_variables q) × (n ≤ length table)
  table_front p e = (front_put p (omega (arith, few, begin_room)), omega (arith, p.place, put_length p, few, begin_room))

  pub first_stands : {before here table₀ table out : List ℕ} {len n : ℕ} (steps : ℕ) → Put before 0 (event_record (first_event (all_of q))) here len → length before ≡ 32768
      → Put table₀ 0 (query_variables q) table n → length table₀ ≡ 10923 → ListStands program t.program q (take n table) steps out (first_listing len) here out
  unfolding Reach
  first_stands {here = here} {table = table} {out} {len} {n} steps p e r s =
      let are = (table_front r s).0 in
      record {
        program_reads = passed.0;
        variables_are = are;
        variables_few = rw are (omega (arith, few, begin_room));
        variables_small = rw are (variables_formed q (query_tree query (bytes_all query known) q query_reads).formed);
        event = first_event (all_of q);
        reached = refl;
        reads = ap read_event (front_put p (omega (arith, passed.3))) ∙ first_reads;
        inside = omega (arith, p.place, put_length p, passed.3);
        within = omega arith;
        kept = [];
        put = put_none;
        room = omega arith;
        rest = let a : steps - 0 ≡ steps = omega arith in let b : length out - 0 ≡ length out = omega arith in rw (a, b) (behind_nothing _);
      }

-- the reply where the door says no, and where the list is written
module _ (program query out : List ℕ) (steps : ℕ) where
  pub answers_unopened : {o : Result (Unit {0}) Refusal} {f : Refusal} → o ≡ told (begin_answer (read_program program) (read_query query) (length out)) → o ≡ Err f
      → AnswersReplied (answers_record layers steps program query out) (refusal_number f) 0 0 out
  unfolding answers_record answers_reply answers_answer through reply_with
  answers_unopened i z =
      let w = told_refuses (begin_answer (read_program program) (read_query query) (length out)) i z in
      rw w.1 (record { number_is = sym (ap refusal_number w.2) ∙ refusal_same w.0; written_is = refl; taken_is = refl; output_is = refl })

  pub answers_listed : {t : Trees (List Definition) Goal} {p : ListAnswer} {after : List ℕ}
      → begin_answer (read_program program) (read_query query) (length out) ≡ gives t
      → Listed (answers (machine layers t.program) t.event steps (length out)) out p after
      → AnswersReplied (answers_record layers steps program query out) (outcome_number p.outcome) p.written p.taken after
  unfolding answers_record answers_reply answers_answer through reply_with
  answers_listed h l = rw h (record { number_is = l.number_is; written_is = l.put.place ∙ zero-add _; taken_is = l.taken_is; output_is = put_front l.put l.room })
