-- Laws of the service: what it writes passes the program's questions 1 to 4 and says the clauses' canonical form; for clauses that were read it is done
-- exactly where questions 5, 9 and 10 say yes; where it is not done, the output is untouched.
use Rattle.std.specs.Prelude.{◌≡◌, ◌↔◌, true, List, ◌++◌, ℕ, ◌≤◌, ◌<◌, length, drop}
use Rattle.std.proofs.Common.{sym, ap, ◌∙◌, arith, leb-true, le-leb}
use Rattle.records.specs.Format.Syntax.{Definition, Clause}
use Rattle.records.specs.Format.Encode.{counted, definition_bytes, record_of, program_record}
use Rattle.records.specs.Gate.RecordRules.{every}
use Rattle.records.specs.Format.HeadLaws.{Bytes}
use Rattle.records.specs.Gate.Question.{locals, fits}
use Rattle.records.specs.Gate.Gate.{tree, read_clauses, read_program, front_record}
use Rattle.records.specs.Gate.Reply.{gives, on_yes, through, reply_with}
use Rattle.records.specs.Gate.ReplyLaws.{yes_gives, through_gives, reply_gives, reply_untouched, reply_length}
use Rattle.records.specs.Gate.Door.{program_door, with_room}
use Rattle.records.specs.Gate.DoorLaws.{room_gives, program_gives}
use Rattle.records.specs.Gate.GateLaws.{front_is_record, clauses_tree, program_read, tree_injective}
use Rattle.canonical.specs.Form.Canonical.{canonical}
use Rattle.canonical.specs.Writing.Service.{locals_fit, record_fits, program_answer, clauses_answer, canonical_record}
use Rattle.canonical.specs.Form.FormedLaws.{canonical_formed, canonical_rules}

-- a canonical form whose locals and whose record fit passes questions 1 to 4 of a program
pub canonical_read : (s : List ℕ) → Bytes s → (cs : List Clause) → read_clauses s ≡ tree cs → every locals_fit (canonical cs) ≡ true
    → length (program_record (canonical cs)) ≤ 32768 → read_program (program_record (canonical cs)) ≡ tree (canonical cs)
canonical_read s b cs e f n =
    let r = clauses_tree s b cs e in
    program_read (canonical cs) (canonical_formed cs r.formed r.keeps f) (canonical_rules cs r.formed r.keeps f) n

-- what is given: the clauses were read, there is room, and the program is their canonical form, whose locals and whose record fit
pub record GivesProgram (clauses : List ℕ) (room : ℕ) (ds : List Definition) : Type 0 where
  pub read : List Clause
  pub reads : read_clauses clauses ≡ tree read
  pub form : ds ≡ canonical read
  pub roomy : 32768 ≤ room
  pub locals_small : every locals_fit ds ≡ true
  pub short : length (program_record ds) ≤ 32768

pub answered_gives : (clauses : List ℕ) (room : ℕ) (ds : List Definition) → clauses_answer room (read_clauses clauses) ≡ gives ds → GivesProgram clauses room ds
unfolding clauses_answer program_answer
answered_gives clauses room ds e =
    let t = through_gives (program_door (read_clauses clauses)) _ e in
    let w = room_gives room _ t.2 in
    let x = yes_gives locals (every locals_fit (canonical t.0)) _ w.1 in
    let y = yes_gives fits (record_fits (canonical t.0)) (gives (canonical t.0)) x.1 in
    let same : canonical t.0 ≡ ds = (let z = y.1 in cc) in
    record {
      read = t.0;
      reads = program_gives (read_clauses clauses) t.1;
      form = sym same;
      roomy = w.0;
      locals_small = rw same at x.0;
      short = leb-true (length (program_record ds)) 32768 (rw same at y.0);
    }

-- what it gives, written, passes questions 1 to 4 as that program
pub gives_read : (clauses : List ℕ) → Bytes clauses → (room : ℕ) (ds : List Definition) → clauses_answer room (read_clauses clauses) ≡ gives ds
    → read_program (program_record ds) ≡ tree ds
gives_read clauses b room ds e =
    let g = answered_gives clauses room ds e in
    rw g.form (canonical_read clauses b g.read g.reads (rw g.form at g.locals_small) (rw g.form at g.short))

-- done: the front of the output is a record of the clauses' canonical form, which passes, and the bytes after it are untouched
pub record Done (clauses out after : List ℕ) : Type 0 where
  pub read : List Clause
  pub reads : read_clauses clauses ≡ tree read
  pub written : after ≡ program_record (canonical read) ++ drop (length (program_record (canonical read))) out
  pub passes : read_program (front_record after) ≡ tree (canonical read)

body_short : (ds : List Definition) → length (program_record ds) ≤ 32768 → length (counted definition_bytes ds) < 65535
unfolding record_of
body_short ds k = omega arith

pub canonical_done : (clauses : List ℕ) → Bytes clauses → (out : List ℕ) → (canonical_record clauses out).number ≡ 0
    → Done clauses out (canonical_record clauses out).output
unfolding canonical_record reply_with
canonical_done clauses b out h =
    let given = reply_gives program_record out (clauses_answer (length out) (read_clauses clauses)) h in
    let ds = given.0 in
    let g = answered_gives clauses (length out) ds given.1 in
    rw given.1
    (record {
      read = g.read;
      reads = g.reads;
      written = ap (λ (l : List Definition). program_record l ++ drop (length (program_record l)) out) g.form;
      passes =
          ap read_program (front_is_record (counted definition_bytes ds) (drop (length (program_record ds)) out) (body_short ds g.short))
          ∙ gives_read clauses b (length out) ds given.1 ∙ ap tree g.form;
    })

-- done exactly where the output passes question 5, and the canonical form's locals and its record pass 9 and 10
pub canonical_done_iff : (clauses out : List ℕ) (cs : List Clause) → read_clauses clauses ≡ tree cs
    → ((canonical_record clauses out).number ≡ 0)
    ↔ ((32768 ≤ length out) × (every locals_fit (canonical cs) ≡ true) × (length (program_record (canonical cs)) ≤ 32768))
unfolding canonical_record clauses_answer program_answer reply_with through program_door with_room on_yes
canonical_done_iff clauses out cs h = (
  λ n.
      let given = reply_gives program_record out (clauses_answer (length out) (read_clauses clauses)) n in
      let g = answered_gives clauses (length out) given.0 given.1 in
      let same : given.0 ≡ canonical cs = g.form ∙ ap canonical (tree_injective (sym g.reads ∙ h)) in
      (g.roomy, rw same at g.locals_small, rw same at g.short),
  λ k. rw (h, le-leb 32768 (length out) k.0, k.1, le-leb (length (program_record (canonical cs))) 32768 k.2),
)

-- not done: the output is untouched
pub canonical_refused : (clauses out : List ℕ) → ((canonical_record clauses out).number ≡ 0 → ⊥) → (canonical_record clauses out).output ≡ out
unfolding canonical_record
canonical_refused clauses out h = reply_untouched program_record out (clauses_answer (length out) (read_clauses clauses)) h

-- the output keeps its length
pub canonical_length : (clauses out : List ℕ) → length (canonical_record clauses out).output ≡ length out
unfolding canonical_record
canonical_length clauses out =
    reply_length program_record out (clauses_answer (length out) (read_clauses clauses))
    (λ ds e. let g = answered_gives clauses (length out) ds e in omega (arith, g.short, g.roomy))
