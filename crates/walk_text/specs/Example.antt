-- The example of SPECIFICATION 8.10, whole, and inputs that end early. Each by evaluation.
use Rattle.std.specs.Prelude.{◌≡◌, refl, List, [], ◌∷◌, ◌++◌, ℕ}
use Rattle.std.proofs.Math.Decide.{ℕ_discrete, dec_lt}
use Rattle.records.specs.Gate.Question.{question_number}
use Rattle.records.specs.Format.Syntax.{nil, truth, called, redo, event, goal?}
use Rattle.records.specs.Format.Encode.{record_of}
use Rattle.records.specs.Gate.RecordRules.{unifier_rules, program_rules}
use Rattle.records.specs.Format.Reader.{read}
use Rattle.records.specs.Format.Items.{many, read_counted, read_goal, read_definition}
use Rattle.records.specs.Gate.Gate.{framed, of_version, read_record}
use Rattle.terms.specs.Theory.Substitution.{apply}
use Rattle.terms.specs.Theory.Unify.{unify}
use Rattle.terms.specs.Theory.Outcome.{value_under, unified_under}
use Rattle.terms.specs.Body.Body.{next_variable, definition_of, body}
use Rattle.records.specs.Gate.Reply.{on_yes, through}
use Rattle.records.specs.Gate.Door.{program_door, event_door, with_room}
use Rattle.stepper.specs.Rules.Rules.{fitting, first_event}
use Rattle.stepper.specs.Services.Services.{record_limit, first_answer}
use Rattle.walk_text.specs.Input.{bytes_named, taken}
use Rattle.walk_text.specs.Text.{after_line, text, printed}
use Rattle.walk_text.specs.Line.{line_bytes, stop_bytes}

-- the two records, one after the other; bytes after the query are not read
abbrev program : List ℕ
program = 0x00 ∷ 0x03 ∷ 0x01 ∷ 0x00 ∷ 0x00 ∷ []

abbrev query : List ℕ
query = 0x00 ∷ 0x09 ∷ 0x01 ∷ 0x12 ∷ 0x01 ∷ 0x00 ∷ 0x00 ∷ 0x02 ∷ 0x00 ∷ 0x02 ∷ 0x00 ∷ []

-- 0 call 0 0, 1 exit 0 1, stop 6
pub example_printed : (after : List ℕ) → printed (program ++ (query ++ after))
    ≡ (0x30 ∷ 0x20 ∷ 0x63 ∷ 0x61 ∷ 0x6C ∷ 0x6C ∷ 0x20 ∷ 0x30 ∷ 0x20 ∷ 0x30 ∷ 0x0A ∷ [])
    ++ ((0x31 ∷ 0x20 ∷ 0x65 ∷ 0x78 ∷ 0x69 ∷ 0x74 ∷ 0x20 ∷ 0x30 ∷ 0x20 ∷ 0x31 ∷ 0x0A ∷ [])
    ++ (0x73 ∷ 0x74 ∷ 0x6F ∷ 0x70 ∷ 0x20 ∷ 0x36 ∷ 0x0A ∷ []))
unfolding printed text taken bytes_named through program_door first_answer read_record framed of_version read many read_goal read_definition read_counted program_rules event_door with_room on_yes fitting after_line line_bytes stop_bytes question_number first_event record_limit record_of unified_under value_under apply unify body definition_of next_variable unifier_rules goal? ℕ_discrete dec_lt
example_printed after = refl

-- an empty input, one that ends within the program, and one that ends within the query: stop 1, stop 1, stop 11
pub example_empty : printed [] ≡ stop_bytes 1
unfolding printed text taken bytes_named through program_door read_record framed question_number
example_empty = refl

pub example_short_program : printed (0x00 ∷ 0x03 ∷ 0x01 ∷ 0x00 ∷ []) ≡ stop_bytes 1
unfolding printed text taken bytes_named through program_door read_record framed question_number
example_short_program = refl

pub example_short_query : printed (program ++ (0x00 ∷ 0x09 ∷ 0x01 ∷ 0x12 ∷ [])) ≡ stop_bytes 11
unfolding printed text taken bytes_named through program_door first_answer read_record framed of_version read many read_definition read_counted program_rules event_door question_number
example_short_query = refl

-- 100000 redo 2 0
pub example_line : line_bytes 100000 (event redo truth (called 7 nil ∷ called 7 nil ∷ []) [])
    ≡ 0x31 ∷ 0x30 ∷ 0x30 ∷ 0x30 ∷ 0x30 ∷ 0x30 ∷ 0x20 ∷ 0x72 ∷ 0x65 ∷ 0x64 ∷ 0x6F ∷ 0x20 ∷ 0x32 ∷ 0x20 ∷ 0x30 ∷ 0x0A ∷ []
unfolding line_bytes
example_line = refl

-- stop 10
pub example_stop : stop_bytes 10 ≡ 0x73 ∷ 0x74 ∷ 0x6F ∷ 0x70 ∷ 0x20 ∷ 0x31 ∷ 0x30 ∷ 0x0A ∷ []
unfolding stop_bytes
example_stop = refl
