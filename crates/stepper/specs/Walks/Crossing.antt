-- What a rule does to the goal that it is about. A goal g under the ancestors u is entered by its call and redo and ended by its exit and fail; a rule
-- goes into a goal, through it, across from one half to the other, or out of it.
use Rattle.std.specs.Prelude.{◌≡◌, List, ◌∷◌}
use Rattle.records.specs.Format.Syntax.{Goal, conj, disj, atom, Ancestor, called, in_conj, in_disj, Bet, call, exit, fail, redo, Event, event}

-- the goal that put an ancestor, which is the ancestor without its tag
abbrev pub ancestor_goal : Ancestor → Goal
ancestor_goal (called p ts) = atom p ts
ancestor_goal (in_conj n a b) = conj a b
ancestor_goal (in_disj n a b) = disj a b

abbrev pub ancestors_of : Event → List Ancestor
ancestors_of (event p g u s) = u

-- call or redo of g under u
pub data Entry (g : Goal) (u : List Ancestor) : Event → Type 0 where
  call_entry : {s : List Bet} → Entry g u (event call g u s)
  redo_entry : {s : List Bet} → Entry g u (event redo g u s)

-- exit or fail of g under u
pub data End (g : Goal) (u : List Ancestor) : Event → Type 0 where
  exit_end : {s : List Bet} → End g u (event exit g u s)
  fail_end : {s : List Bet} → End g u (event fail g u s)

-- What a rule does, from the event e to the event d. In is Entry and Out is End; read back, from d to e, they change places.
pub data Crossing (In Out : Goal → List Ancestor → Event → Type 0) (e d : Event) : Type 0 where
  -- from the entry of a goal to that of a half or of its body;
  goes_in : {g h : Goal} {a : Ancestor} {u : List Ancestor} → ancestor_goal a ≡ g → In g u e → In h (a ∷ u) d → Crossing In Out e d
  -- from its entry to its end;
  goes_through : {g : Goal} {u : List Ancestor} → In g u e → Out g u d → Crossing In Out e d
  -- from the end of one half to the entry of the other;
  goes_across : {g h : Goal} {a b : Ancestor} {u : List Ancestor} → ancestor_goal a ≡ ancestor_goal b → Out g (a ∷ u) e → In h (b ∷ u) d
      → Crossing In Out e d
  -- from the end of a half or of its body to its end
  goes_out : {g h : Goal} {a : Ancestor} {u : List Ancestor} → ancestor_goal a ≡ g → Out h (a ∷ u) e → Out g u d → Crossing In Out e d
