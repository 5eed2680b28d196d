-- The door of the services (SPECIFICATION 7.9): the questions that are put to the records and the output before anything else. The first no decides.
use Rattle.std.specs.Prelude.{◌≡◌, List, ℕ, leb}
use Rattle.records.specs.Gate.Question.{of_program, of_event, output}
use Rattle.records.specs.Format.Syntax.{Event, Definition}
use Rattle.records.specs.Gate.Gate.{Reading, tree, read_program, read_event}
use Rattle.records.specs.Gate.Reply.{Answer, refused, gives, on_yes, through}

-- 1 to 4 of a program or a clause record
unfoldable pub program_door : {A : Type 0} → Reading A → Answer A
program_door (Reading.refused q) = refused (of_program q)
program_door (tree a) = gives a

-- 11 to 14 of a query or an event
unfoldable pub event_door : {A : Type 0} → Reading A → Answer A
event_door (Reading.refused q) = refused (of_event q)
event_door (tree a) = gives a

-- what a program record and an event record say
pub record Trees (A B : Type 0) : Type 0 where
  pub program : A
  pub event : B

-- 1 to 4 of the program, and then 11 to 14 of the event
unfoldable pub door : {A B : Type 0} → Reading A → Reading B → Answer (Trees A B)
unfolding through program_door event_door
door p e = through refused (program_door p) (λ a. through refused (event_door e) (λ b. gives (record { program = a; event = b })))

-- a program record and an event record that pass, and what they say
pub record BothPassed (program s : List ℕ) : Type 0 where
  pub definitions : List Definition
  pub program_reads : read_program program ≡ tree definitions
  pub event : Event
  pub reads : read_event s ≡ tree event

-- 5 of an output of `room` bytes, and then what follows
unfoldable pub with_room : {A : Type 0} → ℕ → Answer A → Answer A
unfolding on_yes
with_room room next = on_yes output (leb 32768 room) next

-- 1 to 4 of the program, 11 to 14 of the event, and then 5
unfoldable pub gate : {A B : Type 0} → Reading A → Reading B → ℕ → Answer (Trees A B)
unfolding through door with_room
gate p e room = through refused (door p e) (λ t. with_room room (gives t))
