-- The number of a case: what questions 1 to 4 say of its bytes, as a record of the kind that its kind byte names.
use Rattle.std.specs.Prelude.{ℕ, List, eqb}
use Rattle.records.specs.Format.Heads.{pick}
use Rattle.records.specs.Gate.Gate.{read_query, read_event, read_program, read_clauses}
use Rattle.records.specs.Gate.Reply.{answer_number}
use Rattle.records.specs.Gate.Door.{program_door, event_door}

-- q query, e event, p program, any other byte clauses
abbrev pub case_number : ℕ → List ℕ → ℕ
case_number kind s =
    pick (eqb kind 0x71) (answer_number (event_door (read_query s)))
    (pick (eqb kind 0x65) (answer_number (event_door (read_event s)))
    (pick (eqb kind 0x70) (answer_number (program_door (read_program s)))
    (answer_number (program_door (read_clauses s)))))
