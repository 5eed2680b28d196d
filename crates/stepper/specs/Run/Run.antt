-- A run: single steps in one direction, as many as asked for, up to the first that is refused, up to an event that meets the run's aim, or until the
-- log that it is lent is full. The run service is the run with no aim and no log (SPECIFICATION 8.5).
-- Choices: the event that a run starts from is neither logged nor asked for the aim, so that a run goes on where a shorter one stopped; and every
-- event after it is in the log of the definition, so that the log of a lent slice is a matter of room alone.
use Rattle.std.specs.Prelude.{Bool, false, cond, List, [], ◌∷◌, ℕ, zero, suc, ◌-◌, eqb, length}
use Rattle.std.proofs.Math.Option.{Option, none, some}
use Rattle.records.specs.Format.Syntax.{Port, Event, event}
use Rattle.records.specs.Gate.Question.{Question, question_number}
use Rattle.stepper.specs.Rules.Machine.{Machine, StepOutcome, refused, gives}
use Rattle.stepper.specs.Rules.Rules.{step}
use Rattle.stepper.specs.Walks.Walk.{Direction}

-- what a run tells of an event that it passes: its port and how many ancestors and bets it has
pub record Mark : Type 0 where
  pub port : Port
  pub ancestors : ℕ
  pub bets : ℕ

unfoldable pub mark : Event → Mark
mark (event p g u s) = record { port = p; ancestors = length u; bets = length s }

-- a set of ports and a number of ancestors
pub record Aim : Type 0 where
  pub ports : Port → Bool
  pub ancestors : ℕ

-- is this event aimed at?
unfoldable pub meets : Option Aim → Mark → Bool
meets none m = false
meets (some a) m = cond (eqb m.ancestors a.ancestors) (a.ports m.port) false

-- a direction, an aim or none, and the room of a lent log, in marks, or none
pub record Order : Type 0 where
  pub direction : Direction
  pub aim : Option Aim
  pub room : Option ℕ

-- steps alone
abbrev pub plain : Direction → Order
plain d = record { direction = d; aim = none; room = none }

-- is a lent log full?
unfoldable pub is_full : Option ℕ → Bool
is_full none = false
is_full (some n) = eqb n 0

-- the room that n marks leave
unfoldable pub less_room : ℕ → Option ℕ → Option ℕ
less_room n none = none
less_room n (some k) = some (k - n)

-- an order whose log has n marks more in it
abbrev pub with_marks : ℕ → Order → Order
with_marks n o = record { direction = o.direction; aim = o.aim; room = less_room n o.room }

-- why a run stopped: all steps are taken, the event that the last one gave meets the aim, the log is full, or a question refuses the next step
pub data Stop : Type 0 where
  spent met full : Stop
  by : Question → Stop

-- the event reached, the steps taken, why the run stopped, and the marks of the events after the first
pub record RunEnd : Type 0 where
  pub event : Event
  pub taken : ℕ
  pub why : Stop
  pub log : List Mark

-- a run that stops where it stands
abbrev pub ended : Event → Stop → RunEnd
ended e s = record { event = e; taken = 0; why = s; log = [] }

-- a run with one step more in front, to an event of this mark
unfoldable pub past : Mark → RunEnd → RunEnd
past m r = record { event = r.event; taken = suc r.taken; why = r.why; log = m ∷ r.log }

-- what the answer to a step from e makes of a run
unfoldable pub on_answer : StepOutcome → Event → (Event → RunEnd) → RunEnd
unfolding past mark
on_answer (refused q) e on = ended e (by q)
on_answer (gives c) e on = past (mark c) (on c)

-- n steps, or as many as the order allows: the count is asked first, then the log, then the step, then the aim
unfoldable pub run : Machine → Order → ℕ → Event → RunEnd
unfolding is_full step on_answer meets mark less_room
run M o zero e = ended e spent
run M o (suc n) e =
    cond (is_full o.room) (ended e full) (on_answer (step M o.direction e) e (λ c.
    cond (meets o.aim (mark c)) (ended c met) (run M (with_marks 1 o) n c)))

-- 0, or the number of the question that stopped the run
unfoldable pub stop_number : Stop → ℕ
unfolding question_number
stop_number spent = 0
stop_number met = 0
stop_number full = 0
stop_number (by q) = question_number q
