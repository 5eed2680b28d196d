-- The run in code: its order and its answer, its log as numbers, and the contract of a run behind the gate (`RanTo`). And its loop, which nobody
-- else sees: the present event's record is at the front of a buffer, and the next one is made in another; what holds between two turns is that the
-- run of as many steps as are taken is held there.
use Rattle.std.specs.Prelude.{◌≡◌, Bool, true, false, cond, List, [], ◌∷◌, ◌++◌, ℕ, suc, ◌-◌, ◌*◌, ◌/◌, ◌≤◌, eqb, length, take, Option as Optional, None, Some, Result, Ok, Err}
use Rattle.std.proofs.Math.Option.{Option, none, some}
use Rattle.records.specs.Format.Syntax.{Event, Definition}
use Rattle.records.specs.Format.Encode.{port_byte, event_record}
use Rattle.records.specs.Ends.Places.{part_ends}
use Rattle.records.specs.Gate.Question.{refusal}
use Rattle.records.specs.Gate.Reply.{outcome_number}
use Rattle.records.specs.declared.questions.Refusal.{Refusal}
use Rattle.records.specs.Gate.Gate.{tree, read_event, read_program}
use Rattle.records.specs.Writing.Patched.{patched}
use Rattle.stepper.specs.Rules.Machine.{gives}
use Rattle.stepper.specs.Services.Services.{machine, reply}
use Rattle.stepper.specs.Walks.Walk.{Direction, forward, back}
use Rattle.stepper.specs.Services.ServiceLaws.{Recordable}
use Rattle.stepper.specs.Services.Desk.{layers}
use Rattle.stepper.specs.Run.Run.{Mark, Order, Stop, spent, met, full, by, RunEnd, run, stop_number, Aim}
use Rattle.records.specs.declared.places.PartEnds.{PartEnds}
use Rattle.stepper.specs.declared.run.RunMark.{RunMark}
use Rattle.stepper.specs.declared.run.RunAim.{RunAim}
use Rattle.stepper.specs.declared.run.RunOrder.{RunOrder}
use Rattle.stepper.specs.declared.run.RunStop.{RunStop}
use Rattle.stepper.specs.declared.run.RunStop.TheVariants.{Spent, Met, Full, Refused}
use Rattle.stepper.specs.declared.run.RunAnswer.{RunAnswer}

-- back, or forward
abbrev pub direction : Bool → Direction
direction true = back
direction false = forward

-- a mark in code; a port is its byte
abbrev pub told_mark : Mark → RunMark
told_mark m = record { port = port_byte m.port; ancestors = m.ancestors; bets = m.bets }

-- the numbers of a mark in a log
abbrev pub mark_numbers : RunMark → List ℕ
mark_numbers m = m.port ∷ (m.ancestors ∷ (m.bets ∷ []))

-- a log with a mark put behind n marks, if it is one
abbrev pub with_mark : (logged : Bool) → List ℕ → ℕ → RunMark → List ℕ
with_mark logged log n m = cond logged (patched log (3 * n) (mark_numbers m)) log

-- is the port of this byte aimed at?
abbrev pub port_flag : RunAim → ℕ → Bool
port_flag a n = cond (eqb n 1) a.call (cond (eqb n 2) a.exit (cond (eqb n 3) a.fail a.redo))

abbrev pub aim_of : RunAim → Aim
aim_of a = record { ports = λ p. port_flag a (port_byte p); ancestors = a.ancestors }

-- the aim that code gives, if it gives one
abbrev pub aim_told : Optional RunAim → Option Aim
aim_told (Some a) = some (aim_of a)
aim_told None = none

-- the room of a slice as a log of three numbers a mark, if it is one
abbrev pub room_of : (logged : Bool) → (length : ℕ) → Option ℕ
room_of logged n = cond logged (some (n / 3)) none

-- the order that code gives, lent such a slice
abbrev pub asked : RunOrder → (log : List ℕ) → Order
asked o log = record { direction = direction o.back; aim = aim_told o.aim; room = room_of o.logged (length log) }

-- is an event of this mark aimed at?
abbrev pub aimed_at : RunAim → RunMark → Bool
aimed_at a m = cond (eqb m.ancestors a.ancestors) (port_flag a m.port) false

-- is it aimed at by an order's aim?
abbrev pub aimed_by : Optional RunAim → RunMark → Bool
aimed_by (Some a) m = aimed_at a m
aimed_by None m = false

-- why a run stops at such an event, which its last step gave
abbrev pub stop_at : RunOrder → RunMark → RunStop
stop_at o m = cond (aimed_by o.aim m) Met Spent

-- why a run stopped, as code says it
abbrev pub stop_case : Stop → RunStop
stop_case spent = Spent
stop_case met = Met
stop_case full = Full
stop_case (by q) = Refused (refusal q)

-- done, or the question that stopped the run
abbrev pub run_outcome : RunStop → Result (Unit {0}) Refusal
run_outcome Spent = Ok tt
run_outcome Met = Ok tt
run_outcome Full = Ok tt
run_outcome (Refused r) = Err r

-- has a run met its aim?
abbrev pub met_case : RunStop → Bool
met_case Spent = false
met_case Met = true
met_case Full = false
met_case (Refused r) = false

-- has a run stopped before all its steps were taken?
abbrev pub stopped_case : RunStop → Bool
stopped_case Spent = false
stopped_case Met = true
stopped_case Full = true
stopped_case (Refused r) = true

-- the numbers of marks, one after the other
unfoldable pub log_numbers : List Mark → List ℕ
log_numbers [] = []
log_numbers (m ∷ l) = mark_numbers (told_mark m) ++ log_numbers l

-- a lent slice with marks put into it from its start on, if it is a log
abbrev pub with_log : (logged : Bool) → List ℕ → List Mark → List ℕ
with_log logged log l = cond logged (patched log 0 (log_numbers l)) log

-- steps alone, in code
abbrev pub plain_order : (back : Bool) → RunOrder
plain_order b = record { back = b; aim = None; logged = false }

-- a run that has taken no step
abbrev pub started_run : (length : ℕ) → PartEnds → RunAnswer
started_run n ends = record { stop = Spent; taken = 0; length = n; ends = ends }

-- the same event, where the run stops
abbrev pub stopped_run : RunAnswer → RunStop → RunAnswer
stopped_run r s = record { stop = s; taken = r.taken; length = r.length; ends = r.ends }

-- a run that the gate refuses
abbrev pub refused_run : Refusal → RunAnswer
refused_run r = record { stop = Refused r; taken = 0; length = 0; ends = record { goal = 0; ancestors = 0 } }

-- an answer tells a run's end
pub record Tells (end : RunEnd) (r : RunAnswer) : Type 0 where
  pub number_is : outcome_number (run_outcome r.stop) ≡ stop_number end.why
  pub stop_is : r.stop ≡ stop_case end.why
  pub taken_is : r.taken ≡ end.taken
  pub length_is : r.length ≡ length (event_record end.event)
  pub ends_are : r.ends ≡ part_ends end.event

-- the contract of a run behind the gate: the answer tells its end, the event reached is written and passes the gate, the marks are logged, and all
-- else is untouched
pub record RanTo (end : RunEnd) (logged : Bool) (log out : List ℕ) (r : RunAnswer) (log' out' : List ℕ) : Type 0 where
  pub tells : Tells end r
  pub output_is : out' ≡ (reply out (gives end.event)).output
  pub reads : read_event (take r.length out') ≡ tree end.event
  pub log_is : log' ≡ with_log logged log end.log

-- the same where the record of the event reached is left at the front of the buffer that the run started from
pub record RanHere (end : RunEnd) (r : RunAnswer) (before here : List ℕ) : Type 0 where
  pub tells : Tells end r
  pub front : take r.length here ≡ event_record end.event
  pub reads : read_event (take r.length here) ≡ tree end.event
  pub inside : r.length ≤ length here
  pub same_length : length here ≡ length before

-- A loop over runs: how many turns are left at most, where it goes on or not and so many steps of a number are taken.
abbrev pub turns_left : (going : Bool) → (steps taken : ℕ) → ℕ
turns_left g n k = cond g (suc (n - k)) 0

-- the end of a run in the loop's hands: the answer tells it, a buffer starts with the record of the event reached, and the marks are logged
pub record Held (logged : Bool) (before : List ℕ) (end : RunEnd) (r : RunAnswer) (here log : List ℕ) : Type 0 where
  pub tells : Tells end r
  pub front : take r.length here ≡ event_record end.event
  pub inside : r.length ≤ length here
  pub log_is : log ≡ with_log logged before end.log

-- the loop with `now` told: all steps that were asked for so far are taken from `start`, whose run was lent `before` as its log
pub record RunStands (program : List ℕ) (order : RunOrder) (now : RunAnswer) (here log : List ℕ) : Type 0 where
  pub definitions : List Definition
  pub program_reads : read_program program ≡ tree definitions
  pub start : Event
  pub recordable : Recordable start
  pub before : List ℕ
  pub going : (run (machine layers definitions) (asked order before) now.taken start).why ≡ spent
  pub held : Held order.logged before (run (machine layers definitions) (asked order before) now.taken start) now here log

module _ {program : List ℕ} {order : RunOrder} {now : RunAnswer} {here log : List ℕ} (g : RunStands program order now here log) where
  -- the run of so many steps from its start
  abbrev pub run_so_far : ℕ → RunEnd
  run_so_far n = run (machine layers g.definitions) (asked order g.before) n g.start

  -- the run of so many steps is held
  abbrev pub RunHolds : ℕ → RunAnswer → List ℕ → List ℕ → Type 0
  RunHolds n = Held order.logged g.before (run_so_far n)

module _ {program : List ℕ} {order : RunOrder} {first : RunAnswer} {here₀ log₀ : List ℕ} (g : RunStands program order first here₀ log₀) where
  -- what the loop keeps
  abbrev pub Keeps : RunAnswer → List ℕ → List ℕ → Type 0
  Keeps r here log = ((run_so_far g r.taken).why ≡ spent) × RunHolds g r.taken r here log

  abbrev pub standing_on : {r : RunAnswer} {here log : List ℕ} → Keeps r here log → RunStands program order r here log
  standing_on k = record {
    definitions = g.definitions;
    program_reads = g.program_reads;
    start = g.start;
    recordable = g.recordable;
    before = g.before;
    going = k.0;
    held = k.1;
  }
