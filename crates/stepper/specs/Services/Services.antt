-- The services on bytes (SPECIFICATION 8.2 to 8.4, 9.1): first event, step forward and step back, each a number and an output afterwards, for every input; and lists of steps.
use Rattle.std.specs.Prelude.{◌≡◌, Bool, true, List, ℕ, zero, suc, ◌≤◌, ltb}
use Rattle.std.proofs.Math.Bool.{false}
use Rattle.std.proofs.Math.Option.{Option, none, some}
use Rattle.std.proofs.Math.ListN.{length}
use Rattle.records.specs.Format.Syntax.{Goal, Event, Definition}
use Rattle.records.specs.Format.Encode.{event_record}
use Rattle.records.specs.Gate.Question.{Question, fits}
use Rattle.records.specs.Format.HeadLaws.{Bytes}
use Rattle.records.specs.Gate.Gate.{tree, front_record}
use Rattle.records.specs.Gate.Reply.{Reply, through, reply_with}
use Rattle.records.specs.Gate.Door.{event_door, with_room, gate}
use Rattle.stepper.specs.Services.Layers.{Layers}
use Rattle.stepper.specs.Rules.Machine.{Machine, StepOutcome, refused, gives}
use Rattle.stepper.specs.Rules.Rules.{fitting, first_event, Lent, step}
use Rattle.stepper.specs.Walks.Walk.{Direction, forward, back, Tally, walk}

-- question 10, for a result and for a candidate: does it fit 32,768 bytes?
unfoldable pub too_long : Bool → Option Question
too_long true = some fits
too_long false = none

unfoldable pub record_limit : Event → Option Question
unfolding too_long
record_limit e = too_long (ltb 32768 (length (event_record e)))

-- the rules of a program
abbrev pub machine : Layers → List Definition → Machine
machine L P = record { unify = L.unify; body = L.body P; result_limit = record_limit; candidate_limit = record_limit }

-- a refusal leaves the output untouched, and a written record the bytes after it
abbrev pub reply : List ℕ → StepOutcome → Reply
reply out a = reply_with event_record out a

module _ (L : Layers) where
  -- query to first event: 11 to 14 of the query, then 5 and 10
  unfoldable pub first_answer : List ℕ → ℕ → StepOutcome
  unfolding through event_door with_room fitting record_limit first_event
  first_answer query room =
      through refused (event_door (L.read_query query))
      (λ q. with_room room (fitting false (record_limit (first_event q)) (gives (first_event q))))

  unfoldable pub first_record : List ℕ → List ℕ → Reply
  unfolding reply_with first_answer
  first_record query out = reply out (first_answer query (length out))

  -- one step: 1 to 4 of the program, 11 to 14 of the event, then 5, then 6 to 10 and the last 7
  unfoldable pub step_answer : List ℕ → Lent → List ℕ → StepOutcome
  unfolding through gate step
  step_answer program l event =
      through refused (gate (L.read_program program) (L.read_event event) l.room) (λ t. step (machine L t.program) l.direction t.event)

  unfoldable pub step_record : Direction → List ℕ → List ℕ → List ℕ → Reply
  unfolding reply_with step_answer
  step_record d program event out = reply out (step_answer program (record { direction = d; room = length out }) event)

-- what the next step gets: the record at the front of the output, if the number is 0
unfoldable pub next_record : ℕ → List ℕ → Option (List ℕ)
unfolding front_record
next_record zero out = some (front_record out)
next_record (suc n) out = none

-- one step of a list: its direction, and the output that it is lent, of any length and content
pub record Move : Type 0 where
  pub direction : Direction
  pub buffer : List ℕ

abbrev pub forward_into : List ℕ → Move
forward_into out = record { direction = forward; buffer = out }

abbrev pub back_into : List ℕ → Move
back_into out = record { direction = back; buffer = out }

module _ (L : Layers) (program : List ℕ) where
  -- a step on the record of the present event
  unfoldable pub serve : Move → List ℕ → Option (List ℕ)
  unfolding step_record next_record
  serve m event = let r = step_record L m.direction program event m.buffer in next_record r.number r.output

  -- a step back from the record s, lent `out`, gives a record from which a step forward leads on to s
  abbrev pub CameFrom : List ℕ → List ℕ → Type 0
  CameFrom s out =
      (r : List ℕ) × (serve (back_into out) s ≡ some r) × ((a : List ℕ) → 32768 ≤ length a → serve (forward_into a) r ≡ some s)

-- a program: bytes that pass questions 1 to 4
pub record Program (L : Layers) : Type 0 where
  pub program : List ℕ
  pub bytes : Bytes program
  pub definitions : List Definition
  pub reads : L.read_program program ≡ tree definitions

-- its rules
abbrev pub rules_of : {L : Layers} → Program L → Machine
rules_of {L} c = machine L c.definitions

-- a query, bytes too, for which the query service gave the first event with 0; it then has a goal (`done_reads`)
pub record Start (L : Layers) : Type 0 where
  pub query : List ℕ
  pub bytes : Bytes query
  pub buffer : List ℕ
  pub goal : Goal
  pub reads : L.read_query query ≡ tree goal
  pub done : (first_record L query buffer).number ≡ 0

-- the record of that first event
abbrev pub start : {L : Layers} → Start L → List ℕ
start {L} q = front_record (first_record L q.query q.buffer).output

-- a list of steps under a program, from there: the record at which it ends, and how many steps were accepted
abbrev pub served : {L : Layers} → Program L → Start L → List Move → Tally (List ℕ)
served {L} c q = walk (λ m. m.direction) (serve L c.program) (start q)
