-- Laws of the comparison: in a record an event's goal and its ancestors stand one after the other, and equal bytes there are an equal goal and equal ancestors.
use Rattle.std.specs.Prelude.{◌≡◌, Bool, true, false, List, ◌++◌, ℕ, ◌+◌, length}
use Rattle.std.proofs.Math.Path.{refl}
use Rattle.std.proofs.Common.{sym, ◌∙◌, ap, ap₂, arith}
use Rattle.records.specs.Ends.Places.{EventParts, goal_end, event_places}
use Rattle.records.specs.Ends.PlacesLaws.{event_parts}
use Rattle.records.specs.Ends.Range.{cut, Inside}
use Rattle.records.specs.Ends.Same.{same_bytes}
use Rattle.records.specs.Ends.SameLaws.{same_true, same_refl}
use Rattle.records.specs.Ends.Stands.{Stands}
use Rattle.records.specs.Ends.StandsLaws.{stands_join, stands_cut, stands_inside, unique_front, same_tree}
use Rattle.records.specs.Format.Encode.{counted, goal_bytes, ancestor_bytes, port_byte}
use Rattle.records.specs.Format.Exact.{ancestor_exact}
use Rattle.records.specs.Format.Formed.{AncestorFormed, Counted, GoalFormed}
use Rattle.records.specs.Format.HeadLaws.{Known}
use Rattle.records.specs.Format.ItemLaws.{goal_exact, counted_exact}
use Rattle.records.specs.Format.Never.{never}
use Rattle.records.specs.Format.Syntax.{Goal, Ancestor, Bet, Port, call, exit, fail, redo, Event, event}
use Rattle.records.specs.Gate.Gate.{Reading, Accepted, refused, tree, read_event}
use Rattle.records.specs.declared.places.Places.{Places}
use Rattle.goal_door.specs.Form.GoalDoor.{is_door}
use Rattle.goal_door.specs.Form.GoalDoorLaws.{door_is, is_a_door}
use Rattle.goal_door.specs.Way.Going.{goal_and_ancestors, PlacesOf}

-- the bytes of a goal and ancestors
abbrev pub called_bytes : Goal → List Ancestor → List ℕ
called_bytes g u = goal_bytes g ++ counted ancestor_bytes u

-- are those of no other
called_injective : (g h : Goal) (u v : List Ancestor) → GoalFormed g × Counted AncestorFormed u → GoalFormed h × Counted AncestorFormed v
    → called_bytes g u ≡ called_bytes h v → (g ≡ h) × (u ≡ v)
called_injective g h u v f k e =
    let (i, rest) = unique_front goal_exact g h f.0 k.0 _ _ e in
    (i, same_tree (counted_exact ancestor_exact) u v f.1 k.1 rest)

module _ (s : List ℕ) (known : Known s) (q : Port) (g : Goal) (u : List Ancestor) (b : List Bet) (h : read_event s ≡ tree (event q g u b)) where
  parts : EventParts s q g u b
  parts = event_parts s known q g u b h

  pub called_formed : GoalFormed g × Counted AncestorFormed u
  called_formed = (parts.formed.0, parts.formed.1)

  -- they stand in a record
  called_stand : Stands s 4 (called_bytes g u) (goal_end 4 g + length (counted ancestor_bytes u))
  called_stand = stands_join (goal_bytes g) (counted ancestor_bytes u) parts.goal_stands parts.ancestors_stand

  module _ {p : Places} (k : PlacesOf s p) where
    pub called_cut : cut s (goal_and_ancestors p) ≡ called_bytes g u
    unfolding event_places
    called_cut = rw (k.1 (event q g u b) h) (stands_cut called_stand)

    pub called_inside : Inside (goal_and_ancestors p) s
    unfolding event_places
    called_inside = rw (k.1 (event q g u b) h) (stands_inside called_stand (omega (arith, parts.bets_stand.end)))

    pub port_known : p.port ≡ port_byte q
    unfolding event_places
    port_known = rw (k.1 (event q g u b) h) refl

module _ (p q : Port) (g h : Goal) (u v : List Ancestor) (s t : List Bet) where
  abbrev sought : Event
  sought = event p g u s

  abbrev here : Event
  here = event q h v t

  -- an event of another port is no door
  pub no_call_no_door : (port_byte q ≡ 1 → ⊥) → is_door sought here ≡ false
  no_call_no_door n = go (is_door sought here) refl
    where
      go : (b : Bool) → is_door sought here ≡ b → is_door sought here ≡ false
      go false k = k
      go true k = let e = door_is sought here k in let c : q ≡ call = cc in absurd (n (ap port_byte c))

  -- a call is the door where the bytes are the same
  pub call_compared : port_byte q ≡ 1 → GoalFormed g × Counted AncestorFormed u → GoalFormed h × Counted AncestorFormed v
      → same_bytes (called_bytes g u) (called_bytes h v) ≡ is_door sought here
  call_compared c f k = go (same_bytes (called_bytes g u) (called_bytes h v)) refl (is_door sought here) refl
    where
      is_call : (q : Port) → port_byte q ≡ 1 → q ≡ call
      is_call call e = refl
      is_call exit e = never cc
      is_call fail e = never cc
      is_call redo e = never cc

      go : (a : Bool) → same_bytes (called_bytes g u) (called_bytes h v) ≡ a → (b : Bool) → is_door sought here ≡ b
          → same_bytes (called_bytes g u) (called_bytes h v) ≡ is_door sought here
      go true x true y = x ∙ sym y
      go false x false y = x ∙ sym y
      go true x false y =
          let (i, j) = called_injective g h u v f k (same_true _ _ x) in
          let n = is_call q c in
          let z : event call g u t ≡ here = cc in
          never (sym (is_a_door sought t) ∙ ap (is_door sought) z ∙ y)
      go false x true y =
          let e = door_is sought here y in
          let i : g ≡ h = cc in
          let j : u ≡ v = cc in
          never (sym (same_refl (called_bytes h v)) ∙ ap (λ l. same_bytes l (called_bytes h v)) (sym (ap₂ called_bytes i j)) ∙ x)

-- for code that compares: the range lies in an accepted record,
pub range_inside : (s : List ℕ) → Known s → {p : Places} → PlacesOf s p → Inside (goal_and_ancestors p) s
range_inside s known {p} k = go (read_event s) refl k.0
  where
    go : (r : Reading Event) → read_event s ≡ r → Accepted r → Inside (goal_and_ancestors p) s
    go (refused q) h z = absurd z
    go (tree (event q g u b)) h z = called_inside s known q g u b h k

module _ (here : List ℕ) (known : Known here) {p : Places} (l : PlacesOf here p) where
  -- an event that is not a call is no door,
  pub other_port : (e d : Event) → read_event here ≡ tree d → (p.port ≡ 1 → ⊥) → false ≡ is_door e d
  other_port (event q g u s) (event r h v t) y n = sym (no_call_no_door q r g h u v s t (λ z. n (port_known here known r h v t y l ∙ z)))

  -- and a call is one where the bytes are the same
  pub same_called : (s : List ℕ) → Known s → {o : Places} (k : PlacesOf s o) (e d : Event) → read_event s ≡ tree e → read_event here ≡ tree d
      → p.port ≡ 1 → {r : Bool} → r ≡ same_bytes (cut s (goal_and_ancestors o)) (cut here (goal_and_ancestors p)) → r ≡ is_door e d
  same_called s known_s k (event q g u b) (event r h v t) x y c f =
      f ∙ ap₂ same_bytes (called_cut s known_s q g u b x k) (called_cut here known r h v t y l)
      ∙ call_compared q r g h u v b t (sym (port_known here known r h v t y l) ∙ c) (called_formed s known_s q g u b x) (called_formed here known r h v t y)
