-- The value service (SPECIFICATION 8.6): for every event record, variable and output, its number, and the bytes that it writes.
use Rattle.std.specs.Prelude.{List, ℕ}
use Rattle.std.proofs.Math.Option.{Option, none, some}
use Rattle.records.specs.Format.Syntax.{Term, Bet, Event}
use Rattle.records.specs.Format.Syntax.Event.{event}
use Rattle.records.specs.Gate.Gate.{Reading}
use Rattle.records.specs.Gate.Question.{values}
use Rattle.records.specs.Gate.Reply.{Answer, refused, gives, through}
use Rattle.records.specs.Gate.Door.{event_door, with_room}
use Rattle.terms.specs.Theory.Outcome.{value}

-- question 8
abbrev pub within_limit : Option Term → Answer Term
within_limit none = refused values
within_limit (some t) = gives t

-- question 5, put to an output of n bytes, and then question 8
unfoldable pub value_into : ℕ → Option Term → Answer Term
unfolding with_room
value_into n o = with_room n (within_limit o)

-- the bet stack of an event
abbrev pub bets_of : Event → List Bet
bets_of (event p g u bets) = bets

-- questions 11 to 14, put to the event, and then 5 and 8; the value is written as bare term bytes
unfoldable pub value_answer : Reading Event → ℕ → ℕ → Answer Term
unfolding through event_door value_into
value_answer r n v = through refused (event_door r) (λ e. value_into n (value (bets_of e) v))
