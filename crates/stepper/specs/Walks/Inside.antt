-- The walk inside a goal. Between an entry of the goal g under the ancestors u and the next end of it (`Crossing`) the walk stays inside: under an
-- ancestor that g put on u (SPECIFICATION 9.9).
use Rattle.std.specs.Prelude.{◌≡◌, List, ◌∷◌, ◌++◌, ◌⊎◌, ℕ, ◌<◌, ◌≤◌}
use Rattle.records.specs.Format.Syntax.{Goal, Ancestor, Event}
use Rattle.stepper.specs.Rules.Machine.{Machine}
use Rattle.stepper.specs.Walks.Crossing.{ancestor_goal, ancestors_of, Entry, End}
use Rattle.stepper.specs.Walks.Reached.{Reached}

-- the ancestors v are u, on it one that g put, and on that any others w
abbrev pub AboveGoal : Goal → List Ancestor → List Ancestor → Type 0
AboveGoal g u v = (w : List Ancestor) × (a : Ancestor) × (v ≡ w ++ (a ∷ u)) × (ancestor_goal a ≡ g)

-- the event is inside g under u
abbrev pub InsideGoal : Goal → List Ancestor → Event → Type 0
InsideGoal g u e = AboveGoal g u (ancestors_of e)

module _ (M : Machine) (q g : Goal) (u : List Ancestor) where
  -- the events between the i-th and the n-th of the walk from q are inside
  abbrev pub InsideBetween : ℕ → ℕ → Type 0
  InsideBetween i n = (k : ℕ) (e : Event) → i < k → k < n → Reached M q k e → InsideGoal g u e

  -- Event i of the walk from q is an entry of g under u, and those between it and event n are inside; whether the walk comes to event n is not said.
  pub record WalkInside (i n : ℕ) : Type 0 where
    pub start : Event
    pub reached : Reached M q i start
    pub entry : Entry g u start
    pub later : i < n
    pub inside : InsideBetween i n

  -- The walk inside g from event i on ends by event n.
  pub record EndsBy (i n : ℕ) : Type 0 where
    pub number : ℕ
    pub by_then : number ≤ n
    pub walked : WalkInside i number
    pub last : Event
    pub reached : Reached M q number last
    pub end : End g u last

  -- At event n, which is e, the walk inside g from event i on goes on, or it has ended by then.
  abbrev pub StillOrEnded : ℕ → ℕ → Event → Type 0
  StillOrEnded i n e = (WalkInside i n × InsideGoal g u e) ⊎ EndsBy i n
