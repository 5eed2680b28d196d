-- The lines that the walk program prints (SPECIFICATION 8.10): of an event the step, the port in a word, how many ancestors and how many bets; and the
-- stop line. Fields are parted by a blank, lines end in a line feed, and all is ASCII.
use Rattle.std.specs.Prelude.{cond, List, [], ◌∷◌, ◌++◌, ℕ, zero, suc, ◌+◌, ◌/◌, ◌%◌, ltb, eqb}
use Rattle.records.specs.Format.Syntax.{Port, call, exit, fail, redo, Event}
use Rattle.stepper.specs.Run.Run.{Mark, mark}

-- what stands between fields
abbrev pub blank : ℕ
blank = 0x20

-- what ends a line
abbrev pub line_feed : ℕ
line_feed = 0x0A

-- the byte of a digit
abbrev pub digit : ℕ → ℕ
digit d = 0x30 + d

-- a number's digits, the most significant first, if it is at most `bound`
unfoldable pub spelled : (bound : ℕ) → ℕ → List ℕ
spelled zero n = digit n ∷ []
spelled (suc b) n = cond (ltb n 10) (digit n ∷ []) (spelled b (n / 10) ++ (digit (n % 10) ∷ []))

-- a number in decimal, with no zero in front
unfoldable pub decimal : ℕ → List ℕ
unfolding spelled
decimal n = spelled n n

-- the words "call", "exit", "fail" and "redo"
unfoldable pub port_word : Port → List ℕ
port_word call = 0x63 ∷ 0x61 ∷ 0x6C ∷ 0x6C ∷ []
port_word exit = 0x65 ∷ 0x78 ∷ 0x69 ∷ 0x74 ∷ []
port_word fail = 0x66 ∷ 0x61 ∷ 0x69 ∷ 0x6C ∷ []
port_word redo = 0x72 ∷ 0x65 ∷ 0x64 ∷ 0x6F ∷ []

-- the word "stop"
abbrev pub stop_word : List ℕ
stop_word = 0x73 ∷ 0x74 ∷ 0x6F ∷ 0x70 ∷ []

-- the fields of a line after its first: a blank before each
abbrev pub field : List ℕ → List ℕ
field text = blank ∷ text

-- the line of an event of this mark that stands at a step
unfoldable pub mark_line : (step : ℕ) → Mark → List ℕ
unfolding decimal port_word
mark_line step m = decimal step ++ (field (port_word m.port) ++ (field (decimal m.ancestors) ++ (field (decimal m.bets) ++ (line_feed ∷ []))))

-- the line of the event that stands at a step
unfoldable pub line_bytes : (step : ℕ) → Event → List ℕ
unfolding mark_line mark
line_bytes step e = mark_line step (mark e)

-- the lines of events of these marks, from a step on
unfoldable pub mark_lines : (step : ℕ) → List Mark → List ℕ
mark_lines step [] = []
mark_lines step (m ∷ l) = mark_line step m ++ mark_lines (suc step) l

-- the line at the end: "stop" and the number
unfoldable pub stop_bytes : (number : ℕ) → List ℕ
unfolding decimal
stop_bytes n = stop_word ++ (field (decimal n) ++ (line_feed ∷ []))

-- In code: the word of a port's byte, a line by its numbers, and the lines of a log, of three numbers each.
unfoldable pub byte_word : ℕ → List ℕ
byte_word n = cond (eqb n 1) (port_word call) (cond (eqb n 2) (port_word exit) (cond (eqb n 3) (port_word fail) (port_word redo)))

unfoldable pub number_line : (step port ancestors bets : ℕ) → List ℕ
number_line step p a b = decimal step ++ (field (byte_word p) ++ (field (decimal a) ++ (field (decimal b) ++ (line_feed ∷ []))))

unfoldable pub log_lines : (step : ℕ) → List ℕ → List ℕ
log_lines step [] = []
log_lines step (p ∷ []) = []
log_lines step (p ∷ (a ∷ [])) = []
log_lines step (p ∷ (a ∷ (b ∷ l))) = number_line step p a b ++ log_lines (suc step) l
