-- The service from a clause record to a program record: a number and an output afterwards, for every input.
use Rattle.std.specs.Prelude.{Bool, List, ℕ, leb, length}
use Rattle.records.specs.Format.Syntax.{Definition, Clause}
use Rattle.records.specs.Format.Syntax.Definition.{definition}
use Rattle.records.specs.Format.Encode.{program_record}
use Rattle.records.specs.Gate.RecordRules.{every}
use Rattle.records.specs.Gate.Question.{locals, fits}
use Rattle.records.specs.Gate.Gate.{Reading, read_clauses}
use Rattle.records.specs.Gate.Reply.{Answer, refused, gives, on_yes, through, Reply, reply_with}
use Rattle.records.specs.Gate.Door.{program_door, with_room}
use Rattle.canonical.specs.Form.Canonical.{canonical}

-- 9: a definition's locals are at most 255
abbrev pub locals_fit : Definition → Bool
locals_fit (definition p n l g) = leb l 255

-- 10: the program's record is at most 32,768 bytes long
abbrev pub record_fits : List Definition → Bool
record_fits ds = leb (length (program_record ds)) 32768

-- 5 of the output's length, then 9 over all predicates, then 10
unfoldable pub program_answer : ℕ → List Definition → Answer (List Definition)
unfolding with_room on_yes
program_answer room ds = with_room room (on_yes locals (every locals_fit ds) (on_yes fits (record_fits ds) (gives ds)))

-- 1 to 4 of the clause record, then those
unfoldable pub clauses_answer : ℕ → Reading (List Clause) → Answer (List Definition)
unfolding through program_door program_answer canonical
clauses_answer room r = through refused (program_door r) (λ cs. program_answer room (canonical cs))

-- what the service leaves for a program
unfoldable pub program_reply : List ℕ → List Definition → Reply
unfolding reply_with program_answer
program_reply out ds = reply_with program_record out (program_answer (length out) ds)

-- clauses to canonical program
unfoldable pub canonical_record : List ℕ → List ℕ → Reply
unfolding clauses_answer reply_with
canonical_record clauses out = reply_with program_record out (clauses_answer (length out) (read_clauses clauses))
