-- An event's record around what a rule adds to it, a unifier on the bets or a body under its atom: the part of the output that is lent for it, what
-- stands before it and behind it, and the event that is completed by writing those.
use Rattle.std.specs.Prelude.{◌≡◌, List, [], ◌∷◌, ◌++◌, ℕ, ◌+◌, ◌-◌, ◌≤◌, length, take, drop}
use Rattle.records.specs.Format.Encode.{word, record_head}
use Rattle.records.specs.Writing.Patched.{Around}
use Rattle.records.specs.Ends.Range.{cut}
use Rattle.records.specs.declared.put.Range.{Range}
use Rattle.records.specs.declared.places.PartEnds.{PartEnds}
use Rattle.stepper.specs.declared.emit.Reached.{Reached}
use Rattle.stepper.specs.declared.view.View.{View}

-- the part of an output for what starts at a place of a record that has so many other bytes
pub record Gap (at others : ℕ) (r : Range) : Type 0 where
  pub order : r.from ≤ r.to
  pub stop : r.to ≤ 32768
  pub room : r.to - r.from ≡ 32768 - others
  pub place : others ≤ 32768 → r.from ≡ at

-- the bytes of that part, and the output once it is handed back
abbrev pub lent_part : List ℕ → Range → List ℕ
lent_part out r = take (r.to - r.from) (drop r.from out)

abbrev pub handed_back : List ℕ → Range → List ℕ → List ℕ
handed_back out r part = take r.from out ++ (part ++ drop (r.to - r.from) (drop r.from out))

-- the parts of an event stand one after the other
pub record InOrder (s : List ℕ) (v : View) : Type 0 where
  pub goal_from : v.goal.from ≡ 4
  pub goal_to : 4 ≤ v.goal.to
  pub ancestors_from : v.ancestors.from ≡ v.goal.to + 2
  pub ancestors_to : v.ancestors.from ≤ v.ancestors.to
  pub bets_from : v.bets.from ≡ v.ancestors.to + 2
  pub bets_to : v.bets.from ≤ v.bets.to
  pub end : v.bets.to ≡ length s
  pub short : length s ≤ 32768

-- the head of an event's record of n bytes, and its port
abbrev pub event_head : (n port : ℕ) → List ℕ
event_head n port = record_head n ++ (port ∷ [])

-- what stands before a unifier of n bytes that is put on the bets, what behind it, and where the goal and the ancestors end
unfoldable pub unifier_front : List ℕ → View → (port n : ℕ) → List ℕ
unifier_front s v port n =
    event_head (length s + 1 + n) port ++ (cut s (record { from = v.goal.from; to = v.ancestors.to }) ++ (word v.bets.more ++ (0x20 ∷ [])))

unfoldable pub unifier_back : List ℕ → View → List ℕ
unifier_back s v = cut s (record { from = v.bets.from; to = v.bets.to })

abbrev pub unifier_ends : View → PartEnds
unifier_ends v = record { goal = v.goal.to; ancestors = v.ancestors.to }

-- the same for a body of n bytes under its atom
unfoldable pub body_front : List ℕ → (port n : ℕ) → List ℕ
body_front s port n = event_head (length s + n) port

unfoldable pub body_back : List ℕ → View → List ℕ
body_back s v =
    word v.ancestors.more ++ (cut s (record { from = v.goal.from; to = v.goal.to }) ++ cut s (record { from = v.ancestors.from; to = v.bets.to }))

abbrev pub body_ends : View → ℕ → PartEnds
body_ends v n = record { goal = v.goal.from + n; ancestors = v.ancestors.to + n }

-- an event is completed around n bytes
pub record Completed (before front : List ℕ) (n : ℕ) (back : List ℕ) (ends : PartEnds) (reached : Reached) (after : List ℕ) : Type 0 where
  pub around : Around before front n back after reached.length
  pub ends_are : reached.ends ≡ ends
