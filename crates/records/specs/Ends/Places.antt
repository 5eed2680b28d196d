-- Where the parts of an accepted event and of a definition stand, told by the tree alone.
use Rattle.std.specs.Prelude.{ℕ, ◌+◌, ◌≡◌, List, [], ◌∷◌, length, Some}
use Rattle.records.specs.Format.Syntax.{Goal, Ancestor, Bet, Port, Event}
use Rattle.records.specs.Format.Syntax.Event.{event}
use Rattle.records.specs.Format.Encode.{counted, goal_bytes, ancestor_bytes, bet_bytes, port_byte}
use Rattle.records.specs.Format.Formed.{EventFormed}
use Rattle.records.specs.Format.Heads.{word_at}
use Rattle.records.specs.Ends.Traversal.{end_at}
use Rattle.records.specs.Gate.Gate.{read_event}
use Rattle.records.specs.Gate.Gate.Reading.{tree}
use Rattle.records.specs.Gate.CountedEnds.{counted_end}
use Rattle.records.specs.Ends.Stands.{Stands}
use Rattle.records.specs.declared.put.Range.{Range}
use Rattle.records.specs.declared.places.Row.{Row}
use Rattle.records.specs.declared.places.Places.{Places}
use Rattle.records.specs.declared.places.PartEnds.{PartEnds}
use Rattle.records.specs.declared.ends.Item.{Item}

-- a row of items whose count stands at `at`
abbrev pub row_places : {A : Type 0} → (A → List ℕ) → ℕ → List A → Row
row_places bytes at l = record { count = length l; from = at + 2; to = at + length (counted bytes l) }

-- where a goal that starts at `at` ends
abbrev pub goal_end : ℕ → Goal → ℕ
goal_end at g = at + length (goal_bytes g)

unfoldable pub event_places : Event → Places
event_places (event p g u s) = record {
  port = port_byte p;
  goal = record { from = 4; to = goal_end 4 g };
  ancestors = row_places ancestor_bytes (goal_end 4 g) u;
  bets = row_places bet_bytes (goal_end 4 g + length (counted ancestor_bytes u)) s;
}

-- where the goal and the ancestors of an event end
unfoldable pub part_ends : Event → PartEnds
part_ends (event p g u s) = record { goal = goal_end 4 g; ancestors = goal_end 4 g + length (counted ancestor_bytes u) }

-- these are where the parts end of the event that s is read as
abbrev pub EndsOf : List ℕ → PartEnds → Type 0
EndsOf s ends = (e : Event) → read_event s ≡ tree e → ends ≡ part_ends e

-- what was found of a row, of one whose end is known, and of a goal, at a position
pub record RowAt (s : List ℕ) (at : ℕ) (i : Item) (r : Row) : Type 0 where
  pub is : (n e : ℕ) → word_at s at ≡ Some n → counted_end i s at ≡ Some e → r ≡ record { count = n; from = at + 2; to = e }

pub record RowTo (s : List ℕ) (at to : ℕ) (r : Row) : Type 0 where
  pub is : (n : ℕ) → word_at s at ≡ Some n → r ≡ record { count = n; from = at + 2; to = to }

pub record GoalRange (s : List ℕ) (at : ℕ) (r : Range) : Type 0 where
  pub is : (e : ℕ) → end_at s at 0 1 ≡ Some e → r ≡ record { from = at; to = e }

-- an accepted event
pub record EventParts (s : List ℕ) (p : Port) (g : Goal) (u : List Ancestor) (b : List Bet) : Type 0 where
  pub formed : EventFormed (event p g u b)
  pub port_stands : Stands s 3 (port_byte p ∷ []) 4
  pub goal_stands : Stands s 4 (goal_bytes g) (goal_end 4 g)
  pub ancestors_stand : Stands s (goal_end 4 g) (counted ancestor_bytes u) (goal_end 4 g + length (counted ancestor_bytes u))
  pub bets_stand : Stands s (goal_end 4 g + length (counted ancestor_bytes u)) (counted bet_bytes b) (length s)
