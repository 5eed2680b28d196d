-- What a rule looks at in an event: where the parts of its goal and of the tops of its stacks stand, told by the bytes and told by the tree.
-- Choice: a count with one more and with one less on the stack is part of the view, so that a rule's plan needs no arithmetic.
use Rattle.std.specs.Prelude.{List, [], ◌∷◌, ℕ, ◌+◌, ◌-◌, ◌<◌, eqb, length, get_or}
use Rattle.records.specs.Format.Syntax.{Goal, truth, failure, equal, conj, disj, atom, Ancestor, called, in_conj, in_disj, Bet, unifier, or, by, Event, event}
use Rattle.records.specs.Format.Encode.{term_bytes, tag, ancestor_bytes, bet_bytes, counted, port_byte}
use Rattle.records.specs.Format.Heads.{pick}
use Rattle.records.specs.Format.Items.{read_ancestor, read_bet}
use Rattle.records.specs.Ends.Traversal.{position, end_of, end_at}
use Rattle.records.specs.Ends.Places.{goal_end, EventParts}
use Rattle.records.specs.declared.put.Range.{Range}
use Rattle.records.specs.declared.places.Row.{Row}
use Rattle.terms.specs.Standing.Accepted.{ancestors_at, bets_at}
use Rattle.stepper.specs.declared.view.Part.{Part}
use Rattle.stepper.specs.declared.view.StackPlaces.{StackPlaces}
use Rattle.stepper.specs.declared.view.View.{View}

-- where the second term or half of a goal starts, by its kind
unfoldable pub middle_at : List ℕ → ℕ → (kind to : ℕ) → ℕ
middle_at s at kind to =
    pick (eqb kind 0x12) (position (end_at s at 1 0))
    (pick (eqb kind 0x13) (position (end_at s at 0 1))
    (pick (eqb kind 0x14) (position (end_at s at 0 1)) to))

-- a part with a tag, and one without a tag
abbrev pub tagged_part : (kind tag at middle to : ℕ) → Part
tagged_part kind tag at middle to = record { kind = kind; tag = tag; from = at; content = at + 2; middle = middle; to = to }

abbrev pub untagged_part : (kind at middle to : ℕ) → Part
untagged_part kind at middle to = record { kind = kind; tag = 0; from = at; content = at + 1; middle = middle; to = to }

-- no part
abbrev pub no_part : ℕ → Part
no_part at = record { kind = 0; tag = 0; from = at; content = at; middle = at; to = at }

-- the parts at a position, by the bytes
abbrev pub goal_part_at : List ℕ → Range → Part
goal_part_at s r = let kind = get_or s r.from 0 in untagged_part kind r.from (middle_at s (r.from + 1) kind r.to) r.to

unfoldable pub ancestor_part_at : List ℕ → ℕ → Part
ancestor_part_at s at =
    let to = position (end_of read_ancestor s at) in
    pick (eqb (get_or s at 0) 0x15) (untagged_part (get_or s at 0) at to to) (tagged_part (get_or s at 0) (get_or s (at + 1) 0) at (position (end_at s (at + 2) 0 1)) to)

unfoldable pub bet_part_at : List ℕ → ℕ → Part
bet_part_at s at =
    let to = position (end_of read_bet s at) in
    pick (eqb (get_or s at 0) 0x21) (tagged_part (get_or s at 0) (get_or s (at + 1) 0) at to to) (untagged_part (get_or s at 0) at to to)

-- the top of a row, where there is one, has two bytes or more
pub record TopInside (row : Row) (s : List ℕ) : Type 0 where
  pub inside : 0 < row.count → row.from + 1 < length s

unfoldable pub ancestor_top_at : List ℕ → Row → Part
ancestor_top_at s row = pick (eqb row.count 0) (no_part row.from) (ancestor_part_at s row.from)

unfoldable pub bet_top_at : List ℕ → Row → Part
bet_top_at s row = pick (eqb row.count 0) (no_part row.from) (bet_part_at s row.from)

-- a stack whose top ends at `rest`
abbrev pub stack_at : Row → ℕ → StackPlaces
stack_at row rest = record { count = row.count; more = row.count + 1; fewer = row.count - 1; from = row.from; rest = rest; to = row.to }

-- the parts at a position, by the tree
abbrev pub goal_part : ℕ → Goal → Part
goal_part at truth = untagged_part 0x10 at (goal_end at truth) (goal_end at truth)
goal_part at failure = untagged_part 0x11 at (goal_end at failure) (goal_end at failure)
goal_part at (equal t u) = untagged_part 0x12 at (at + 1 + length (term_bytes t)) (goal_end at (equal t u))
goal_part at (conj a b) = untagged_part 0x13 at (goal_end (at + 1) a) (goal_end at (conj a b))
goal_part at (disj a b) = untagged_part 0x14 at (goal_end (at + 1) a) (goal_end at (disj a b))
goal_part at (atom p ts) = untagged_part 0x15 at (goal_end at (atom p ts)) (goal_end at (atom p ts))

abbrev pub ancestor_end : ℕ → Ancestor → ℕ
ancestor_end at a = at + length (ancestor_bytes a)

abbrev pub ancestor_part : ℕ → Ancestor → Part
ancestor_part at (called p ts) = untagged_part 0x15 at (ancestor_end at (called p ts)) (ancestor_end at (called p ts))
ancestor_part at (in_conj h a b) = tagged_part 0x30 (tag h) at (goal_end (at + 2) a) (ancestor_end at (in_conj h a b))
ancestor_part at (in_disj h a b) = tagged_part 0x31 (tag h) at (goal_end (at + 2) a) (ancestor_end at (in_disj h a b))

abbrev pub bet_end : ℕ → Bet → ℕ
bet_end at b = at + length (bet_bytes b)

abbrev pub bet_part : ℕ → Bet → Part
bet_part at (unifier m) = untagged_part 0x20 at (bet_end at (unifier m)) (bet_end at (unifier m))
bet_part at (or h) = tagged_part 0x21 (tag h) at (bet_end at (or h)) (bet_end at (or h))
bet_part at (by g) = untagged_part 0x22 at (bet_end at (by g)) (bet_end at (by g))

-- the top of a stack
abbrev pub top_part : {A : Type 0} → (ℕ → A → Part) → ℕ → List A → Part
top_part part at [] = no_part at
top_part part at (x ∷ l) = part at x

-- a stack whose count stands at `at`
abbrev pub stack_places : {A : Type 0} → (A → List ℕ) → (ℕ → A → Part) → ℕ → List A → StackPlaces
stack_places bytes part at l =
    stack_at (record { count = length l; from = at + 2; to = at + length (counted bytes l) }) (top_part part (at + 2) l).to

-- what is known of the bytes of an accepted event
abbrev pub PartsOf : List ℕ → Event → Type 0
PartsOf s (event p g u b) = EventParts s p g u b

unfoldable pub event_view : Event → View
event_view (event p g u s) = record {
  port = port_byte p;
  goal = goal_part 4 g;
  ancestor = top_part ancestor_part (ancestors_at g + 2) u;
  ancestors = stack_places ancestor_bytes ancestor_part (ancestors_at g) u;
  bet = top_part bet_part (bets_at g u + 2) s;
  bets = stack_places bet_bytes bet_part (bets_at g u) s;
}
