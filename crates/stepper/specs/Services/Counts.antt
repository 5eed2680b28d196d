-- The counter (SPECIFICATION 8.8): the count of the event's port grows by one unless it is 4,294,967,295; where the event is refused, all stay.
use Rattle.std.specs.Prelude.{cond, List, ℕ, suc, ltb}
use Rattle.records.specs.Format.Syntax.{call, exit, fail, redo, Event, event}
use Rattle.records.specs.Gate.Question.{question_number}
use Rattle.records.specs.Gate.Gate.{read_event}
use Rattle.records.specs.Gate.Reply.{through}
use Rattle.records.specs.Gate.Door.{event_door}

-- how many events of each port a walk passed
pub record Counts : Type 0 where
  pub calls : ℕ
  pub exits : ℕ
  pub fails : ℕ
  pub redos : ℕ

-- one more, up to 4,294,967,295
unfoldable pub one_more : ℕ → ℕ
one_more n = cond (ltb n 4294967295) (suc n) n

-- an event's port is added
unfoldable pub with_event : Counts → Event → Counts
unfolding one_more
with_event c (event call g u s) = record { calls = one_more c.calls; exits = c.exits; fails = c.fails; redos = c.redos }
with_event c (event exit g u s) = record { calls = c.calls; exits = one_more c.exits; fails = c.fails; redos = c.redos }
with_event c (event fail g u s) = record { calls = c.calls; exits = c.exits; fails = one_more c.fails; redos = c.redos }
with_event c (event redo g u s) = record { calls = c.calls; exits = c.exits; fails = c.fails; redos = one_more c.redos }

-- a number, 0 if it is done, and the counts afterwards
pub record CountReply : Type 0 where
  pub number : ℕ
  pub counts : Counts

-- 11 to 14 of the event
unfoldable pub count_record : List ℕ → Counts → CountReply
unfolding through event_door with_event question_number
count_record s c =
    through (λ q. record { number = question_number q; counts = c }) (event_door (read_event s)) (λ e. record { number = 0; counts = with_event c e })
