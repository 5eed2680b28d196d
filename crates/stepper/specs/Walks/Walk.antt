-- Walks: lists of moves, some accepted and some refused, over any type of events. Nothing here knows what an event or a rule is.
use Rattle.std.specs.Prelude.{◌≡◌, ℕ, zero, suc, ℤ, pos, ◌-ℤ◌}
use mathlib.Core.List.{List, [], ◌∷◌}
use Rattle.std.proofs.Math.Option.{Option, none, some}

pub data Direction : Type 0 where
  forward back : Direction

-- an event, with how many steps forward and how many steps back were accepted on the way to it
pub record Tally (Event : Type 0) : Type 0 where
  pub event : Event
  pub forwards : ℕ
  pub backs : ℕ

module _ {Event : Type 0} where
  -- where a list of moves starts
  abbrev pub at_start : Event → Tally Event
  at_start e = record { event = e; forwards = 0; backs = 0 }

  -- an accepted step is counted; a refused one leaves the walk where it was
  unfoldable pub after : Direction → Option Event → Tally Event → Tally Event
  after d none t = t
  after forward (some e) t = record { event = e; forwards = suc t.forwards; backs = t.backs }
  after back (some e) t = record { event = e; forwards = t.forwards; backs = suc t.backs }

  -- the net number (SPECIFICATION 9.4)
  unfoldable pub net : Tally Event → ℤ
  net t = pos t.forwards -ℤ pos t.backs

-- the same on records: an event's record for the event
unfoldable pub encoded : {Event Record : Type 0} → (Event → Record) → Tally Event → Tally Record
encoded encode t = record { event = encode t.event; forwards = t.forwards; backs = t.backs }

-- A move has a direction and tries a step from the present event, which it may refuse.
module _ {Move Event : Type 0} (direction : Move → Direction) (attempt : Move → Event → Option Event) where
  -- a list of moves from where a walk stands
  unfoldable pub moves : List Move → Tally Event → Tally Event
  unfolding after
  moves [] t = t
  moves (m ∷ ms) t = moves ms (after (direction m) (attempt m t.event) t)

  -- a list of moves from an event
  unfoldable pub walk : Event → List Move → Tally Event
  unfolding moves
  walk e ms = moves ms (at_start e)

module _ {Query Event : Type 0} (first : Query → Event) (step : Direction → Event → Option Event) where
  -- the event stands n accepted steps forward from the query's first event
  unfoldable pub Reach : Query → ℕ → Event → Type 0
  Reach q zero e = first q ≡ e
  Reach q (suc n) e = (d : Event) × Reach q n d × (step forward d ≡ some e)
