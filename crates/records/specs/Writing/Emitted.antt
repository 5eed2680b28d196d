-- Emitting a record into an output: questions 5 and 10, put before anything is written.
use Rattle.std.specs.Prelude.{List, ℕ, leb, length}
use Rattle.records.specs.Gate.Question.Question.{fits}
use Rattle.records.specs.Gate.Reply.{Answer, gives, on_yes, Receipted}
use Rattle.records.specs.Gate.Door.{with_room}
use Rattle.records.specs.Gate.Receipt.{Receipt}

-- 5 of an output of `room` bytes, 10 of the record, and then the record
unfoldable pub emit_answer : (room : ℕ) → (rec : List ℕ) → Answer (List ℕ)
unfolding with_room on_yes
emit_answer room rec = with_room room (on_yes fits (leb (length rec) 32768) (gives rec))

-- what emitting `rec` into the output `before` leaves
abbrev pub Emitted : (before rec : List ℕ) → Receipt → (after : List ℕ) → Type 0
Emitted before rec emit after = Receipted (λ b. b) (emit_answer (length before) rec) before emit after
