-- What the bytes of an accepted event tell a rule is what the tree tells.
use Rattle.std.specs.Prelude.{ℕ, ◌+◌, ◌<◌, ◌≡◌, List, [], ◌∷◌, ◌++◌, length, get_or, Some}
use Rattle.std.proofs.Common.{add-zero, arith, sym, ap, ◌∙◌, get_or-drop, ne_eqb}
use Rattle.std.proofs.Math.Path.{refl}
use Rattle.records.specs.Gate.GateLaws.{tree_injective}
use Rattle.records.specs.Format.Syntax.{Goal, truth, failure, equal, conj, disj, atom, Ancestor, called, in_conj, in_disj, Bet, unifier, or, by, Event, event}
use Rattle.records.specs.Format.Encode.{word, each, counted, tag, term_bytes, goal_bytes, ancestor_bytes, bet_bytes}
use Rattle.records.specs.Format.Formed.{GoalFormed, AncestorFormed, BetFormed, Counted}
use Rattle.records.specs.Format.HeadLaws.{Known}
use Rattle.records.specs.Ends.EndLaws.{goal_long}
use Rattle.records.specs.Format.Exact.{ancestor_exact, bet_exact}
use Rattle.records.specs.Ends.Traversal.{end_at}
use Rattle.records.specs.Gate.Gate.{Reading, Accepted, read_event}
use Rattle.records.specs.Gate.Gate.Reading.{refused, tree}
use Rattle.records.specs.Ends.Stands.{Stands}
use Rattle.records.specs.Ends.StandsLaws.{stands_within, stands_first, stands_second, stands_ends, term_ends}
use Rattle.records.specs.Ends.Places.{goal_end, row_places, part_ends, event_places}
use Rattle.records.specs.Ends.PlacesLaws.{event_parts, goal_found}
use Rattle.records.specs.declared.places.Places.{Places}
use Rattle.records.specs.declared.places.PartEnds.{PartEnds}
use Rattle.terms.specs.Standing.Accepted.{ancestors_at, bets_at}
use Rattle.records.specs.Ends.Places.{EndsOf}
use Rattle.stepper.specs.Plans.View.{middle_at, goal_part_at, ancestor_part_at, bet_part_at, TopInside, ancestor_top_at, bet_top_at, stack_at, goal_part, ancestor_end, ancestor_part, bet_end, bet_part, top_part, event_view}
use Rattle.stepper.specs.declared.view.Part.{Part}
use Rattle.stepper.specs.declared.view.StackPlaces.{StackPlaces}
use Rattle.stepper.specs.declared.view.View.{View}

-- the ends of an event are those of its record
pub ends_known : (s : List ℕ) {c : Event} {ends : PartEnds} → read_event s ≡ tree c → ends ≡ part_ends c → EndsOf s ends
ends_known s r h e k = h ∙ ap part_ends (tree_injective (sym r ∙ k))

-- the first two bytes of what stands at a position
pub first_byte : {s l : List ℕ} {at x e : ℕ} → Stands s at (x ∷ l) e → get_or s at 0 ≡ x
first_byte {s} {l} {at} w = ap (λ (n : ℕ). get_or s n 0) (sym (add-zero at)) ∙ sym (get_or-drop at s 0 0) ∙ ap (λ (r : List ℕ). get_or r 0 0) w.bytes

pub second_byte : {s l : List ℕ} {at x y e : ℕ} → Stands s at (x ∷ (y ∷ l)) e → get_or s (at + 1) 0 ≡ y
second_byte {s} {l} {at} w = sym (get_or-drop at s 1 0) ∙ ap (λ (r : List ℕ). get_or r 1 0) w.bytes

module _ {s : List ℕ} {at : ℕ} where
  -- where the first of two goals after a head ends
  half_found : {e : ℕ} (head : List ℕ) (a : Goal) (rest : List ℕ) → GoalFormed a → Stands s at (head ++ (goal_bytes a ++ rest)) e
      → end_at s (at + length head) 0 1 ≡ Some (goal_end (at + length head) a)
  half_found head a rest f w = goal_found a f (stands_first (goal_bytes a) rest (stands_second head (goal_bytes a ++ rest) w))

  pub goal_part_is : (g : Goal) → GoalFormed g → Stands s at (goal_bytes g) (goal_end at g) → goal_part_at s (record { from = at; to = goal_end at g }) ≡ goal_part at g
  unfolding middle_at
  goal_part_is truth f w = rw (first_byte w) refl
  goal_part_is failure f w = rw (first_byte w) refl
  goal_part_is (equal t u) f w =
      rw (first_byte w, term_ends t f.0 (stands_first (term_bytes t) (term_bytes u) (stands_second (0x12 ∷ []) (term_bytes t ++ term_bytes u) w))) refl
  goal_part_is (conj a b) f w = rw (first_byte w, half_found (0x13 ∷ []) a (goal_bytes b) f.0 w) refl
  goal_part_is (disj a b) f w = rw (first_byte w, half_found (0x14 ∷ []) a (goal_bytes b) f.0 w) refl
  goal_part_is (atom p ts) f w = rw (first_byte w) refl

  pub ancestor_part_is : (a : Ancestor) → AncestorFormed a → Stands s at (ancestor_bytes a) (ancestor_end at a) → ancestor_part_at s at ≡ ancestor_part at a
  unfolding ancestor_part_at
  ancestor_part_is (called p ts) f w = rw (first_byte w, stands_ends ancestor_exact (called p ts) f w) refl
  ancestor_part_is (in_conj h a b) f w =
      rw (first_byte w, second_byte w, stands_ends ancestor_exact (in_conj h a b) f w, half_found (0x30 ∷ tag h ∷ []) a (goal_bytes b) f.0 w) refl
  ancestor_part_is (in_disj h a b) f w =
      rw (first_byte w, second_byte w, stands_ends ancestor_exact (in_disj h a b) f w, half_found (0x31 ∷ tag h ∷ []) a (goal_bytes b) f.0 w) refl

  pub bet_part_is : (b : Bet) → BetFormed b → Stands s at (bet_bytes b) (bet_end at b) → bet_part_at s at ≡ bet_part at b
  unfolding bet_part_at
  bet_part_is (unifier m) f w = rw (first_byte w, stands_ends bet_exact (unifier m) f w) refl
  bet_part_is (or h) f w = rw (first_byte w, second_byte w, stands_ends bet_exact (or h) f w) refl
  bet_part_is (by g) f w = rw (first_byte w, stands_ends bet_exact (by g) f w) refl

-- the top of a stack that stands somewhere, and what is under it
pub top_stands : {A : Type 0} {s : List ℕ} {at e : ℕ} (bytes : A → List ℕ) (x : A) (l : List A) → Stands s at (counted bytes (x ∷ l)) e
    → Stands s (at + 2) (bytes x) (at + 2 + length (bytes x))
top_stands bytes x l w = stands_first (bytes x) (each bytes l) (stands_second (word (length (x ∷ l))) (bytes x ++ each bytes l) w)

pub rest_stands : {A : Type 0} {s : List ℕ} {at e : ℕ} (bytes : A → List ℕ) (x : A) (l : List A) → Stands s at (counted bytes (x ∷ l)) e
    → Stands s (at + 2 + length (bytes x)) (each bytes l) e
rest_stands bytes x l w = stands_second (bytes x) (each bytes l) (stands_second (word (length (x ∷ l))) (bytes x ++ each bytes l) w)

-- the top of a stack by the bytes is the top by the tree
ancestor_top_is : {s : List ℕ} {at e : ℕ} (u : List Ancestor) → Counted AncestorFormed u → Stands s at (counted ancestor_bytes u) e
    → ancestor_top_at s (row_places ancestor_bytes at u) ≡ top_part ancestor_part (at + 2) u
unfolding ancestor_top_at
ancestor_top_is [] f w = refl
ancestor_top_is (a ∷ u) f w = rw (ne_eqb (length (a ∷ u)) 0 (omega arith)) (ancestor_part_is a f.1.0 (top_stands ancestor_bytes a u w))

bet_top_is : {s : List ℕ} {at e : ℕ} (b : List Bet) → Counted BetFormed b → Stands s at (counted bet_bytes b) e
    → bet_top_at s (row_places bet_bytes at b) ≡ top_part bet_part (at + 2) b
unfolding bet_top_at
bet_top_is [] f w = refl
bet_top_is (x ∷ b) f w = rw (ne_eqb (length (x ∷ b)) 0 (omega arith)) (bet_part_is x f.1.0 (top_stands bet_bytes x b w))

-- ancestors and bets have two bytes or more
ancestor_long : (a : Ancestor) → 1 < length (ancestor_bytes a)
ancestor_long (called p ts) = omega arith
ancestor_long (in_conj h a b) = omega arith
ancestor_long (in_disj h a b) = omega arith

bet_long : (b : Bet) → 1 < length (bet_bytes b)
bet_long (unifier m) = omega arith
bet_long (or h) = omega arith
bet_long (by g) = omega (arith, goal_long g)

-- so a top has two bytes or more
top_inside : {A : Type 0} {s : List ℕ} {at e : ℕ} (bytes : A → List ℕ) → ((x : A) → 1 < length (bytes x)) → (l : List A)
    → Stands s at (counted bytes l) e → TopInside (row_places bytes at l) s
top_inside bytes long [] w = record { inside = λ z. absurd (omega arith) }
top_inside bytes long (x ∷ l) w = record { inside = λ z. let k = long x in omega (arith, (stands_within (top_stands bytes x l w) (omega arith)).1) }

-- what the parts of an accepted event can be looked at by
pub record Room (places : Places) (s : List ℕ) : Type 0 where
  pub goal_inside : places.goal.from < length s
  pub ancestor_inside : TopInside places.ancestors s
  pub ancestors_few : places.ancestors.count < 65536
  pub bet_inside : TopInside places.bets s
  pub bets_few : places.bets.count < 65536

module _ (s : List ℕ) (known : Known s) {places : Places} (is : (e : Event) → read_event s ≡ tree e → places ≡ event_places e) where
  pub accepted_room : Accepted (read_event s) → Room places s
  unfolding event_places
  accepted_room h = go (read_event s) refl h
    where
      go : (r : Reading Event) → read_event s ≡ r → Accepted r → Room places s
      go (refused q) e z = absurd z
      go (tree (event p g u b)) e z =
          let w = event_parts s known p g u b e in
          rw (is (event p g u b) e) (record {
            goal_inside = omega (arith, w.bets_stand.end);
            ancestor_inside = top_inside ancestor_bytes ancestor_long u w.ancestors_stand;
            ancestors_few = w.formed.1.0;
            bet_inside = top_inside bet_bytes bet_long b w.bets_stand;
            bets_few = w.formed.2.0;
          })

  -- what the code looks at is what the tree tells
  pub view_is : {goal ancestor bet : Part} {ancestors bets : StackPlaces} → goal ≡ goal_part_at s places.goal
      → ancestor ≡ ancestor_top_at s places.ancestors → ancestors ≡ stack_at places.ancestors ancestor.to
      → bet ≡ bet_top_at s places.bets → bets ≡ stack_at places.bets bet.to
      → (e : Event) → read_event s ≡ tree e
      → ◌≡◌ {A = View} (record { port = places.port; goal = goal; ancestor = ancestor; ancestors = ancestors; bet = bet; bets = bets }) (event_view e)
  unfolding event_places event_view
  view_is {goal} {ancestor} {bet} hg ha hu hb hs (event p g u b) e =
      let w = event_parts s known p g u b e in
      let q = is (event p g u b) e in
      let eg : goal ≡ goal_part 4 g = (rw q at hg) ∙ goal_part_is g w.formed.0 w.goal_stands in
      let ea : ancestor ≡ top_part ancestor_part (ancestors_at g + 2) u = (rw q at ha) ∙ ancestor_top_is u w.formed.1 w.ancestors_stand in
      let eb : bet ≡ top_part bet_part (bets_at g u + 2) b = (rw q at hb) ∙ bet_top_is b w.formed.2 w.bets_stand in
      rw (hu, hs, eg, ea, eb, q) refl
