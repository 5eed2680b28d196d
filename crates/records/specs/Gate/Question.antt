-- The questions with their numbers (SPECIFICATION 7.2 to 7.7, and 13.5 of a text). A refusal names its question, so it is never 0.
use Rattle.std.specs.Prelude.{ℕ, ◌+◌}
use Rattle.records.specs.declared.questions.Fault.{Fault}
use Rattle.records.specs.declared.questions.Fault.TheVariants.{Framing, Version, Grammar, Rules}
use Rattle.records.specs.declared.questions.Refusal.{Refusal}
use Rattle.records.specs.declared.questions.Refusal.TheVariants.{Program, Event, Output, Possible, Matches, Values, Locals, Fits, Characters, Syntax, Space, Allowed}

-- 1 to 4, put to every record
pub data Asked : Type 0 where
  -- has the slice the length of a record, and does its length field say how many bytes stand behind it?
  framing : Asked
  -- is the version byte 1?
  version : Asked
  -- is the body, from its first byte to its last, of the kind asked for?
  grammar : Asked
  -- does what the body says keep the record rules (SPECIFICATION 1.10)?
  rules : Asked
  deriving Discrete as Asked-discrete

abbrev pub asked_number : Asked → ℕ
asked_number framing = 1
asked_number version = 2
asked_number grammar = 3
asked_number rules = 4

pub data Question : Type 0 where
  -- 1 to 4 of a program or a clause record, 11 to 14 of a query or an event
  of_program of_event : Asked → Question
  -- 5: has the lent output room for any record?
  output : Question
  -- 6: can the walk go on in this direction?
  possible : Question
  -- 7: has the event a rule, read in this direction?
  matches : Question
  -- 8: has each value that is asked for no more than 8,192 bytes?
  values : Question
  -- 9: do the numbers of new locals fit two bytes; of the canonical form, do the locals of each definition fit one?
  locals : Question
  -- 10: is what would be written no longer than a record may be?
  fits : Question
  -- 32: may one step more be made?
  allowed : Question
  -- 20: may each byte of a text stand in a token or between tokens?
  characters : Question
  -- 21: is the text one of the grammar?
  syntax : Question
  -- 22: are the text and its list of names no longer than they may be?
  space : Question
  deriving Discrete as Question-discrete

unfoldable pub question_number : Question → ℕ
question_number (of_program a) = asked_number a
question_number (of_event a) = 10 + asked_number a
question_number output = 5
question_number possible = 6
question_number matches = 7
question_number values = 8
question_number locals = 9
question_number fits = 10
question_number allowed = 32
question_number characters = 20
question_number syntax = 21
question_number space = 22

-- the code's word for a question
abbrev pub fault : Asked → Fault
fault framing = Framing
fault version = Version
fault grammar = Grammar
fault rules = Rules

abbrev pub refusal : Question → Refusal
refusal (of_program a) = Program (fault a)
refusal (of_event a) = Event (fault a)
refusal output = Output
refusal possible = Possible
refusal matches = Matches
refusal values = Values
refusal locals = Locals
refusal fits = Fits
refusal allowed = Allowed
refusal characters = Characters
refusal syntax = Syntax
refusal space = Space

-- the same numbers, by the code's words
abbrev pub fault_number : Fault → ℕ
fault_number Framing = 1
fault_number Version = 2
fault_number Grammar = 3
fault_number Rules = 4

abbrev pub refusal_number : Refusal → ℕ
refusal_number (Program f) = fault_number f
refusal_number (Event f) = 10 + fault_number f
refusal_number Output = 5
refusal_number Possible = 6
refusal_number Matches = 7
refusal_number Values = 8
refusal_number Locals = 9
refusal_number Fits = 10
refusal_number Allowed = 32
refusal_number Characters = 20
refusal_number Syntax = 21
refusal_number Space = 22
