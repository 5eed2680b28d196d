-- Laws of places: how the parts of an accepted event stand, and that what code finds of them is what the tree tells.
use Rattle.std.specs.Prelude.{ℕ, ◌+◌, ◌<◌, ◌≡◌, Option, Some, None}
use Rattle.std.proofs.Common.{arith, ◌∙◌, get_or-drop}
use Rattle.std.proofs.Math.Path.{refl, sym, ap}
use mathlib.Core.List.{List, [], ◌∷◌, ◌++◌}
use Rattle.std.proofs.Math.ListN.{length, get_or}
use Rattle.records.specs.Format.Never.{never}
use Rattle.records.specs.Format.Syntax.{Goal, Ancestor, Bet, Port, Event}
use Rattle.records.specs.Format.Syntax.Event.{event}
use Rattle.records.specs.Format.Encode.{each, counted, goal_bytes, ancestor_bytes, bet_bytes, port_byte, event_bytes, record_of}
use Rattle.records.specs.Format.Formed.{GoalFormed, Counted, AncestorFormed}
use Rattle.records.specs.Format.Heads.{word_at}
use Rattle.records.specs.Format.HeadLaws.{Known, bytes_all}
use Rattle.records.specs.Format.ItemLaws.{counted_exact}
use Rattle.records.specs.Format.Exact.{ancestor_exact}
use Rattle.records.specs.Ends.Traversal.{end_at, traversal_end}
use Rattle.records.specs.Gate.Gate.{Reading, Accepted, read_event}
use Rattle.records.specs.Gate.Gate.Reading.{refused, tree}
use Rattle.records.specs.Gate.GateLaws.{event_tree}
use Rattle.records.specs.Ends.ItemEnds.{items_end}
use Rattle.records.specs.Gate.CountedEnds.{counted_end}
use Rattle.records.specs.Gate.CountedEndsLaws.{row_end}
use Rattle.records.specs.Writing.EmittedLaws.{length_record_of}
use Rattle.records.specs.Ends.Stands.{Stands}
use Rattle.records.specs.Ends.StandsLaws.{body_stands, stands_first, stands_second, stands_ends, word_stands, traverse_goal}
use Rattle.records.specs.Ends.Places.{row_places, goal_end, event_places, part_ends, EndsOf, RowAt, RowTo, GoalRange, EventParts}
use Rattle.records.specs.declared.put.Range.{Range}
use Rattle.records.specs.declared.places.Row.{Row}
use Rattle.records.specs.declared.places.PartEnds.{PartEnds}
use Rattle.records.specs.declared.ends.Item.{Item}
use Rattle.records.specs.declared.ends.Item.TheVariants.{Ancestor as AnAncestor}

lost : {P : Type 0} {d : ℕ} → None ≡ Some d → P
lost e = never cc

shorted : {P : Type 0} {n : ℕ} → None ≡ Some n → P
shorted e = never cc

pub event_parts : (s : List ℕ) → Known s → (p : Port) (g : Goal) (u : List Ancestor) (b : List Bet) → read_event s ≡ tree (event p g u b) → EventParts s p g u b
event_parts s known p g u b e =
    let w = event_tree s (bytes_all s known) (event p g u b) e in
    let whole : Stands s 3 (event_bytes (event p g u b)) (length s) = stands_record w.laid in
    let rest : Stands s 4 (goal_bytes g ++ (counted ancestor_bytes u ++ counted bet_bytes b)) (length s) = stands_second (port_byte p ∷ []) _ whole in
    let stacks = stands_second (goal_bytes g) (counted ancestor_bytes u ++ counted bet_bytes b) rest in
    record {
      formed = w.formed;
      port_stands = stands_first (port_byte p ∷ []) _ whole;
      goal_stands = stands_first (goal_bytes g) _ rest;
      ancestors_stand = stands_first (counted ancestor_bytes u) _ stacks;
      bets_stand = stands_second (counted ancestor_bytes u) (counted bet_bytes b) stacks;
    }
  where
    stands_record : {body : List ℕ} → s ≡ record_of body → Stands s 3 body (length s)
    stands_record {body} q = rw (q, length_record_of body) (body_stands body)

-- where a goal that stands somewhere ends, and a row of ancestors
pub goal_found : {s : List ℕ} {at e : ℕ} (g : Goal) → GoalFormed g → Stands s at (goal_bytes g) e → end_at s at 0 1 ≡ Some e
unfolding end_at
goal_found g f w = ap traversal_end (traverse_goal g f w)

pub ancestors_found : {s : List ℕ} {at e : ℕ} (u : List Ancestor) → Counted AncestorFormed u → Stands s at (counted ancestor_bytes u) e → counted_end AnAncestor s at ≡ Some e
unfolding counted_end
ancestors_found u f w = stands_ends (counted_exact ancestor_exact) u f w

-- what the code found is what the tree tells
module _ (s : List ℕ) (known : Known s) where
  pub ends_are : {goal : Range} {ancestors : Row} → GoalRange s 4 goal → RowAt s goal.to AnAncestor ancestors
      → (e : Event) → read_event s ≡ tree e → record { goal = goal.to; ancestors = ancestors.to } ≡ part_ends e
  unfolding part_ends
  ends_are {goal} {ancestors} ga ra (event p g u b) q =
      let w = event_parts s known p g u b q in
      let k = goal_end 4 g in
      let e1 : goal ≡ record { from = 4; to = k } = ga.is k (goal_found g w.formed.0 w.goal_stands) in
      let e2 : ancestors ≡ row_places ancestor_bytes k u =
      (rw e1 at ra).is (length u) (k + length (counted ancestor_bytes u)) (word_stands (length u) (each ancestor_bytes u) w.formed.1.0 w.ancestors_stand) (ancestors_found u w.formed.1 w.ancestors_stand) in
      rw (e1, e2) refl

  pub places_are : {ends : PartEnds} {ancestors bets : Row} → EndsOf s ends
      → RowTo s ends.goal ends.ancestors ancestors → RowTo s ends.ancestors (length s) bets
      → (e : Event) → read_event s ≡ tree e → record { port = get_or s 3 0; goal = record { from = 4; to = ends.goal }; ancestors = ancestors; bets = bets } ≡ event_places e
  unfolding part_ends event_places
  places_are {ends} {ancestors} {bets} known_ends ra rb (event p g u b) q =
      let w = event_parts s known p g u b q in
      let e0 : get_or s 3 0 ≡ port_byte p = sym (get_or-drop 3 s 0 0) ∙ ap (λ (l : List ℕ). get_or l 0 0) w.port_stands.bytes in
      let k = goal_end 4 g in
      let m = k + length (counted ancestor_bytes u) in
      let e1 : ends ≡ record { goal = k; ancestors = m } = known_ends (event p g u b) q in
      let e2 : ancestors ≡ row_places ancestor_bytes k u = (rw e1 at ra).is (length u) (word_stands (length u) (each ancestor_bytes u) w.formed.1.0 w.ancestors_stand) in
      let e3 : bets ≡ row_places bet_bytes m b = (rw e1 at rb).is (length b) (word_stands (length b) (each bet_bytes b) w.formed.2.0 w.bets_stand) ∙ rw w.bets_stand.end refl in
      rw (e0, e1, e2, e3) refl

-- an accepted event is an event
pub accepted_long : (s : List ℕ) → Known s → Accepted (read_event s) → 3 < length s
accepted_long s known h = go (read_event s) refl h
  where
    go : (r : Reading Event) → read_event s ≡ r → Accepted r → 3 < length s
    go (refused q) e z = absurd z
    go (tree (event p g u b)) e z = let w = event_parts s known p g u b e in omega (arith, w.bets_stand.end)

-- for code that found a row
module _ (s : List ℕ) (at : ℕ) (i : Item) {w : Option ℕ} (is : w ≡ word_at s at) where
  pub row_is : {n e : ℕ} {f : Option ℕ} → w ≡ Some n → f ≡ items_end i n s (at + 2) → f ≡ Some e → RowAt s at i (record { count = n; from = at + 2; to = e })
  row_is {n} {e} q k z = record { is = λ m d p r. let a : Some n ≡ Some m = sym q ∙ is ∙ p in let b : Some e ≡ Some d = sym z ∙ k ∙ row_end s at is i q ∙ r in same m d a b }
    where
      same : (m d : ℕ) → Some n ≡ Some m → Some e ≡ Some d → ◌≡◌ {A = Row} (record { count = n; from = at + 2; to = e }) (record { count = m; from = at + 2; to = d })
      same m d a b = let x : n ≡ m = cc in let y : e ≡ d = cc in rw (x, y) refl

  pub row_off : {n : ℕ} {f : Option ℕ} {r : Row} → w ≡ Some n → f ≡ items_end i n s (at + 2) → f ≡ None → RowAt s at i r
  row_off q k z = record { is = λ m d p x. lost (sym z ∙ k ∙ row_end s at is i q ∙ x) }

  pub row_short : {r : Row} → w ≡ None → RowAt s at i r
  row_short q = record { is = λ m d p x. shorted (sym q ∙ is ∙ p) }

-- for code that found a row whose end is known
module _ (s : List ℕ) (at to : ℕ) {w : Option ℕ} (is : w ≡ word_at s at) where
  pub row_to_is : {n : ℕ} → w ≡ Some n → RowTo s at to (record { count = n; from = at + 2; to = to })
  row_to_is {n} q = record { is = λ m p. same m (sym q ∙ is ∙ p) }
    where
      same : (m : ℕ) → Some n ≡ Some m → ◌≡◌ {A = Row} (record { count = n; from = at + 2; to = to }) (record { count = m; from = at + 2; to = to })
      same m a = let x : n ≡ m = cc in rw x refl

  pub row_to_short : {r : Row} → w ≡ None → RowTo s at to r
  row_to_short q = record { is = λ m p. shorted (sym q ∙ is ∙ p) }

-- for code that found a goal's end
module _ (s : List ℕ) (at : ℕ) {f : Option ℕ} (is : f ≡ end_at s at 0 1) where
  pub goal_is : {e : ℕ} → f ≡ Some e → GoalRange s at (record { from = at; to = e })
  goal_is {e} q = record { is = λ d r. same d (sym q ∙ is ∙ r) }
    where
      same : (d : ℕ) → Some e ≡ Some d → ◌≡◌ {A = Range} (record { from = at; to = e }) (record { from = at; to = d })
      same d z = let x : e ≡ d = cc in rw x refl

  pub goal_off : {r : Range} → f ≡ None → GoalRange s at r
  goal_off q = record { is = λ d r. lost (sym q ∙ is ∙ r) }
